-- What holds after a change: the state is sound, and its tree is the changed one.
use Rattle.std.specs.Prelude.{◌≡◌, ◌<◌, ◌^◌}
use Rattle.dentry_cache.specs.Cache.{Leaf}
use Rattle.inode_table.specs.TreeChanges.{KeepLeaves}
use Rattle.namespace_ops.specs.Changes.{IsNumbered, MayChange, changed, fragments_of}
use Rattle.namespace_ops.specs.Kept.{ChangesOnly}
use Rattle.namespace_ops.specs.declared.plans.Change.{Change}
use Rattle.mdcache.specs.Changes.{Makes}
use Rattle.mdcache.specs.Shown.{names_of, shown_tree}
use Rattle.mdcache.specs.Sound.{IsSound}
use Rattle.mdcache.specs.State.{IsLive, State}

-- a leaf stands still, if it stood, and shows the names that it showed
pub record StaysAsItIs (old new : State) (leaf : Leaf) : Type 0 where
  pub live : IsLive new.homes new.covers leaf
  pub names : names_of new.unsaved new.objects leaf ≡ names_of old.unsaved old.objects leaf

abbrev pub IsUntouched : (old new : State) → Leaf → Type 0
IsUntouched old new leaf = IsLive old.homes old.covers leaf → StaysAsItIs old new leaf

-- the state is sound, the shown tree is the changed one, each directory that stands has the leaves that it had, and a
-- leaf that is none of those that change stays as it is
pub record IsRightChange (change : Change) (old new : State) : Type 0 where
  pub sound : IsSound new
  pub tree : shown_tree new ≡ changed (shown_tree old) change
  pub leaves : KeepLeaves (shown_tree new) old.covers new.covers
  pub frame : ChangesOnly (IsUntouched old new) (fragments_of old.covers change)

-- the number of a new inode has 64 bits
abbrev pub HasNumber : Change → Type 0
HasNumber change = IsNumbered (λ n. n < 2 ^ 64) change

-- every change that may be made is right
abbrev pub ChangesAreRight : Type 0
ChangesAreRight =
    (change : Change) (old new : State) → IsSound old → HasNumber change → MayChange (shown_tree old) old.covers change
    → Makes change old new → IsRightChange change old new
