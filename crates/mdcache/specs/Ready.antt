-- Why a change may be refused while it is made ready.
use Rattle.std.specs.Prelude.{◌≡◌, ◌⊎◌, ℕ, ◌+◌, ◌-◌, ◌<◌, ◌^◌}
use Rattle.mds_types.specs.declared.refusals.Refusal.{Refusal}
use Rattle.mds_types.specs.declared.refusals.Refusal.TheVariants.{NoInodes}
use Rattle.mdcache.specs.Reads.{MayNotFind}

-- fewer than so many numbers are left of a counter: none is given out from 2^64 - 1 on
abbrev pub LacksNumbers : ℕ → ℕ → Type 0
LacksNumbers count next = 2 ^ 64 - 1 < next + count

-- why nothing is made ready: numbers lack, and exactly then it is refused so; otherwise want of memory, a fault, or
-- places that lack
abbrev pub MayNotBeReady : (Lacks NoPlace : Type 0) → (before after : ℕ) → Refusal → Type 0
MayNotBeReady Lacks NoPlace before after reason =
    ((reason ≡ NoInodes) × Lacks) ⊎ ((Lacks → ⊥) × MayNotFind NoPlace before after reason)
