-- What the calls that split a leaf and merge leaves do, and why they may be refused.
use Rattle.std.specs.Prelude.{◌≡◌, ◌≢◌, ◌⊎◌, ℕ, true, false}
use Rattle.mds_types.specs.declared.ids.Ino.{Ino}
use Rattle.mds_types.specs.declared.refusals.Refusal.{Refusal}
use Rattle.mds_types.specs.declared.refusals.Refusal.TheVariants.{NoMemory, NoSuchFrag}
use Rattle.inode_table.specs.Dirs.{is_known}
use Rattle.mdcache.specs.Ready.{LacksNumbers, MayNotBeReady}
use Rattle.mdcache.specs.State.{State}

-- no generation is left for so many fragments that come, or no version for their names
abbrev pub LacksCounts : ℕ → State → Type 0
LacksCounts count s = LacksNumbers count s.next_generation ⊎ LacksNumbers 1 s.next_version

-- why the leaves of a directory stay as they are: there is no such directory; the leaves refuse it; numbers lack, and
-- exactly then it is refused so; otherwise want of memory, a fault, or places that lack
abbrev pub MayNotRegroup : (Can : Type 0) → (Refuses : Refusal → Type 0) → State → Ino → ℕ → (NoPlace : Type 0)
    → (before after : ℕ) → Refusal → Type 0
MayNotRegroup Can Refuses s dir count NoPlace before after reason =
    ((reason ≡ NoSuchFrag) × (is_known s.homes dir.0 ≡ false))
    ⊎ ((is_known s.homes dir.0 ≡ true) × (reason ≢ NoMemory) × Refuses reason)
    ⊎ ((is_known s.homes dir.0 ≡ true) × Can × MayNotBeReady (LacksCounts count s) NoPlace before after reason)
