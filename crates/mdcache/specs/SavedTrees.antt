-- What a flush makes of the objects of directories' trees.
use Rattle.std.specs.Prelude.{◌≡◌, ◌⊎◌, ℕ, true, is_some, cond, nat_lt, length, List, Some, None}
use Rattle.std.specs.FinMap as map
use Rattle.mds_types.specs.declared.ids.Ino.{Ino}
use Rattle.inode_table.specs.Dirs.{leaves_of}
use Rattle.mdcache.specs.Objects.{tree_object}
use Rattle.mdcache.specs.Shown.{shown_tree}
use Rattle.mdcache.specs.State.{State, tree_text}

-- the object of a directory's tree says what leaves it has, if there are several, and is absent otherwise; it isn't to
-- be removed
pub record HasTree (s : State) (dir : Ino) : Type 0 where
  pub object : map.get s.objects (tree_text dir) ≡ cond (nat_lt 1 (length (leaves_of s.covers dir.0)))
      (Some (tree_object (leaves_of s.covers dir.0))) None
  pub listed : map.get s.purge (tree_text dir) ≡ None

-- each directory whose leaves were ever set has the tree object that it should have
abbrev pub HasTrees : State → Type 0
HasTrees s = (dir : Ino) → is_some (map.get s.covers dir.0) ≡ true → HasTree s dir

-- an object is as it was, and so is whether it is to be removed
abbrev pub IsAsBefore : (old new : State) → List ℕ → Type 0
IsAsBefore old new name =
    (map.get new.objects name ≡ map.get old.objects name) × (map.get new.purge name ≡ map.get old.purge name)

-- the objects of some directories' trees were brought up to date, whose leaves were ever set; nothing else changed
pub record SavesTrees (old new : State) : Type 0 where
  pub left : new ≡ record old { objects = new.objects; purge = new.purge }
  pub tree : shown_tree new ≡ shown_tree old
  pub others : (name : List ℕ) → ((dir : Ino) → is_some (map.get old.covers dir.0) ≡ true → name ≡ tree_text dir → ⊥)
      → IsAsBefore old new name
  pub each : (dir : Ino) → is_some (map.get old.covers dir.0) ≡ true → HasTree new dir
      ⊎ IsAsBefore old new (tree_text dir)
