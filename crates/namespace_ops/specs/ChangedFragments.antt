-- The fragments that an operation would change.
use Rattle.std.specs.Prelude.{◌↔◌, cond, List, [], ◌∷◌, ℕ, Option, Some, None}
use Rattle.std.specs.List.{Contains}
use Rattle.std.specs.Ordering.{eq_by_cmp}
use Rattle.std.specs.FinMap as map
use Rattle.mds_types.specs.declared.dentries.Dentry.{Dentry}
use Rattle.mds_types.specs.declared.inodes.Inode.{Inode}
use Rattle.mds_types.specs.declared.operations.Op.{Op}
use Rattle.mds_types.specs.declared.replies.Reply.{Reply}
use Rattle.mds_types.specs.Shape.{Shape, Looks, Lists, Makes, Sets, Unlinks, Removes, Moves, shape}
use Rattle.mds_types.specs.Tree.{Tree, dentry_cmp, is_dir_kind}
use Rattle.mds_types.specs.Step.{step}
use Rattle.mds_types.specs.Outcomes.{is_errno}
use Rattle.namehash.specs.Rjenkins.{hash_of}
use Rattle.inode_table.specs.Dirs.{Covers, leaves_of}
use Rattle.mds_types.specs.declared.ids.Ino.{Ino}
use Rattle.fragtree.specs.FragTree.{IsTree}
use Rattle.mds_types.specs.Leaf.{Leaf}
use Rattle.namespace_ops.specs.Changes.{in_directory, leaves}
use Rattle.namespace_ops.specs.Picks.{pick_of}

-- the fragment of a dentry: the leaf of its directory that contains the hash of its name
abbrev pub fragment_of : Covers → Dentry → Leaf
fragment_of covers dentry = in_directory dentry.dir.0 (pick_of (leaves_of covers dentry.dir.0) (hash_of dentry.name))

-- all leaves of what stands at a dentry, if that is a directory
abbrev pub leaves_at : Covers → Option Inode → List Leaf
leaves_at covers None = []
leaves_at covers (Some inode) = cond (is_dir_kind inode.kind) (leaves covers inode.ino.0) []

-- the fragments that a rename changes: none, if it leads to where it is; otherwise those of both dentries, and all of a
-- directory that it replaces
abbrev pub moved_fragments : Covers → Tree → Dentry → Dentry → List Leaf
moved_fragments covers tree from to =
    cond (eq_by_cmp dentry_cmp from to) []
    (fragment_of covers from ∷ fragment_of covers to ∷ leaves_at covers (map.get tree to))

-- the fragments that are changed where it succeeds: those of its dentries, and all of a directory that goes
abbrev pub touched_in : Covers → Tree → Shape → List Leaf
touched_in covers tree (Looks dentry answer) = []
touched_in covers tree (Lists dir after max) = []
touched_in covers tree (Makes dentry kind mode birth) = fragment_of covers dentry ∷ []
touched_in covers tree (Sets dentry alteration) = fragment_of covers dentry ∷ []
touched_in covers tree (Unlinks dentry) = fragment_of covers dentry ∷ []
touched_in covers tree (Removes dentry) = fragment_of covers dentry ∷ leaves_at covers (map.get tree dentry)
touched_in covers tree (Moves from to) = moved_fragments covers tree from to

abbrev pub touched : Covers → Tree → Op → List Leaf
touched covers tree op = touched_in covers tree (shape op)

-- an errno changes none
abbrev pub unless_errno : Reply → List Leaf → List Leaf
unless_errno reply changes = cond (is_errno reply) [] changes

-- the fragments that an operation would change, where a directory may have so many entries; which number it is offered
-- has no part in that
abbrev pub changed_fragments : ℕ → Covers → Tree → Op → List Leaf
changed_fragments limit covers tree op = unless_errno (step limit tree op 0).reply (touched covers tree op)

-- no leaf is named twice
abbrev pub AreApart : List Leaf → Type 0
AreApart [] = Unit {0}
AreApart (leaf ∷ rest) = (Contains rest leaf → ⊥) × AreApart rest

-- a list has just these leaves, each once
pub record NamesOnce (leaves list : List Leaf) : Type 0 where
  pub exactly : (leaf : Leaf) → Contains list leaf ↔ Contains leaves leaf
  pub once : AreApart list

-- the leaves of a directory that goes, if one does, cover every hash once
abbrev pub IsCovered : Covers → Option Ino → Type 0
IsCovered covers None = Unit {0}
IsCovered covers (Some dir) = IsTree (leaves_of covers dir.0)
