-- What the operation table means, in laws that hold of every tree.
use Rattle.std.specs.Prelude.{◌≡◌, ◌↔◌, ℕ, suc, true, List, ◌++◌, take, slice_get, Option, Some}
use Rattle.mds_types.specs.declared.inodes.Inode.{Inode}
use Rattle.mds_types.specs.declared.operations.Op.{Op}
use Rattle.mds_types.specs.Tree.{Tree, IsWellFormed, IsAbove, is_above, IsUnused}
use Rattle.mds_types.specs.Step.{step, names_after}
use Rattle.mds_types.specs.Outcomes.{ErrnoLeaves, TakesWhereMade, is_errno, IsListing, IsOld}
use Rattle.inode_table.specs.Dirs.{Covers}
use Rattle.inode_table.specs.TreeChanges.{KeepLeaves}
use Rattle.namespace_ops.specs.declared.plans.Change.{Change}
use Rattle.namespace_ops.specs.Changes.{MayChange, changed, fragments_of}
use Rattle.namespace_ops.specs.Kept.{OthersShowTheSame}

-- an errno leaves the tree
abbrev pub ErrnoLeavesTree : Type 0
ErrnoLeavesTree = (limit : ℕ) (tree : Tree) (op : Op) (n : ℕ) → ErrnoLeaves tree (step limit tree op n)

-- exactly an operation that makes an inode, and succeeds, takes its number
abbrev pub MakingTakesNumber : Type 0
MakingTakesNumber = (limit : ℕ) (tree : Tree) (op : Op) (n : ℕ) → TakesWhereMade op (step limit tree op n)

-- a step keeps the tree well formed, if the number that it takes, where it takes one, is unused
abbrev pub StepKeepsWellFormed : Type 0
StepKeepsWellFormed =
    (limit : ℕ) (tree : Tree) (op : Op) (n : ℕ) → IsWellFormed tree
    → ((step limit tree op n).takes ≡ true → IsUnused tree n) → IsWellFormed (step limit tree op n).tree

-- the names of a listing are those of the directory that come after the given one, in order, with none left out
abbrev pub NamesAreListed : Type 0
NamesAreListed = (tree : Tree) (d : ℕ) (after : Option (List ℕ)) → IsListing tree d after (names_after tree d after)

-- a listing that is paged by its last name is the whole listing
abbrev pub PagesMakeUpListing : Type 0
PagesMakeUpListing =
    (tree : Tree) (d : ℕ) (after : Option (List ℕ)) (i : ℕ) (row : List ℕ × Inode)
    → slice_get (names_after tree d after) i ≡ Some row
    → take (suc i) (names_after tree d after) ++ names_after tree d (Some row.0) ≡ names_after tree d after

-- in a well-formed tree the table's test of what is above tells exactly whether a chain of entries leads there
abbrev pub AboveIsChain : Type 0
AboveIsChain = (tree : Tree) (d x : ℕ) → IsWellFormed tree → (is_above tree d x ≡ true) ↔ IsAbove tree d x

-- an inode of the tree that a step leaves stood before, or has the number that the step took
abbrev pub NumbersStay : Type 0
NumbersStay = (limit : ℕ) (tree : Tree) (op : Op) (n : ℕ) → IsOld tree n (step limit tree op n)

-- whether a step answers an errno, the number that it is offered has no part in; so neither has it in the changed
-- fragments
abbrev pub NumberLeavesErrno : Type 0
NumberLeavesErrno =
    (limit : ℕ) (tree : Tree) (op : Op) (n m : ℕ)
    → is_errno (step limit tree op n).reply ≡ is_errno (step limit tree op m).reply

-- of the leaves that stood, only the fragments of a change show something else once it is made, where each directory
-- that stands then has the leaves that it had
abbrev pub ChangesLeaveOthers : Type 0
ChangesLeaveOthers =
    (tree : Tree) (covers now : Covers) (change : Change) → IsWellFormed tree → MayChange tree covers change
    → KeepLeaves (changed tree change) covers now
    → OthersShowTheSame tree (changed tree change) covers now (fragments_of covers change)
