-- Why fragments may refuse a call.
use Rattle.std.specs.Prelude.{◌≡◌, ◌⊎◌}
use Rattle.mds_types.specs.declared.refusals.Refusal.{Refusal}
use Rattle.mds_types.specs.declared.refusals.Refusal.TheVariants.{NoMemory, StoreFault, NoInodes, NothingToEvict, Damaged}

-- want of memory, a fault of the store, a counter at its end, a cache where nothing can go, an object outside its
-- format
abbrev pub IsOfFragments : Refusal → Type 0
IsOfFragments NoMemory = Unit {0}
IsOfFragments StoreFault = Unit {0}
IsOfFragments NoInodes = Unit {0}
IsOfFragments NothingToEvict = Unit {0}
IsOfFragments (Damaged object) = Unit {0}
IsOfFragments other = ⊥

-- a call of its own over fragments is refused for want of memory, or as a call of theirs
abbrev pub Refuses : (MayRefuse : Refusal → Type 0) → Refusal → Type 0
Refuses MayRefuse reason = (reason ≡ NoMemory) ⊎ MayRefuse reason
