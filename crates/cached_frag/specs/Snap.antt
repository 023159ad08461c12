-- What a commit's job carries of its fragment.
use Rattle.std.specs.Prelude.{◌≡◌, ℕ, suc, ◌-◌, ◌^◌, ◌<◌, Bool, true, false}
use Rattle.std.specs.FinMap as map
use Rattle.dirfrag_codec.specs.FragmentObject.{Names, files_in, dirs_in}
use Rattle.cached_frag.specs.declared.bases.Base.{Base}
use Rattle.cached_frag.specs.declared.bases.Base.TheVariants.{Fresh, Stored}
use Rattle.cached_frag.specs.declared.bases.EntryCounts.{EntryCounts}
use Rattle.cached_frag.specs.Marks.{Marks, AreDirtyNames, patched}

-- a snapshot of a fragment that isn't clean: what its object is to it, its dirty names, and how many entries it shows
pub record Snap : Type 0 where
  pub base : Base
  pub names : Marks
  pub counts : EntryCounts

-- the entry counts of names
abbrev pub counts_of : Names → EntryCounts
counts_of names = record { files = files_in names; dirs = dirs_in names }

-- whether no object of the fragment counts
abbrev pub is_fresh : Base → Bool
is_fresh Fresh = true
is_fresh (Stored version) = false

-- a commit version that another can follow
abbrev pub IsBelowEnd : Base → Type 0
IsBelowEnd Fresh = Unit {0}
IsBelowEnd (Stored version) = version < 2 ^ 64 - 1

-- a fragment with no object shows its dirty names alone
abbrev pub AreCountsIfFresh : Base → Marks → EntryCounts → Type 0
AreCountsIfFresh Fresh marks counts = counts ≡ counts_of (patched map.empty marks)
AreCountsIfFresh (Stored version) marks counts = Unit {0}

-- what each snapshot keeps
pub record IsSnap (snap : Snap) : Type 0 where
  pub dirty : AreDirtyNames snap.names
  pub below : IsBelowEnd snap.base
  pub counted : AreCountsIfFresh snap.base snap.names snap.counts
  pub files : snap.counts.files < 2 ^ 64
  pub dirs : snap.counts.dirs < 2 ^ 64

-- the version that a commit writes: one more than the base's, 1 where no object counts
abbrev pub next_version : Base → ℕ
next_version Fresh = 1
next_version (Stored version) = suc version
