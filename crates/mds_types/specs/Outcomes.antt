-- What an outcome of the operation table means: which operations make an inode, what an errno is, and what is left.
use Rattle.std.specs.Prelude.{◌≡◌, ℕ, Bool, true, false, cond, not, ◌&&◌, ◌⊎◌, T, List, Option, Some, None}
use Rattle.std.specs.Ordering.{nat_cmp}
use Rattle.std.specs.Cmp.Lexicographic.{slice_cmp}
use Rattle.std.specs.FinMap as map
use Rattle.std.specs.FinMap.{find, is_sorted}
use Rattle.mds_types.specs.declared.dentries.Dentry.{Dentry}
use Rattle.mds_types.specs.declared.inodes.Inode.{Inode}
use Rattle.mds_types.specs.declared.operations.Op.{Op}
use Rattle.mds_types.specs.declared.replies.Reply.{Reply}
use Rattle.mds_types.specs.declared.replies.Reply.TheVariants.{Entry, Entries, Target, Done, Errno}
use Rattle.mds_types.specs.Shape.{makes}
use Rattle.mds_types.specs.Tree.{Tree, at}
use Rattle.mds_types.specs.Step.{Outcome, is_after}

-- whether a reply is an error number
abbrev pub is_errno : Reply → Bool
is_errno (Entry inode) = false
is_errno (Entries list more) = false
is_errno (Target target) = false
is_errno Done = false
is_errno (Errno number) = true

-- an errno changes nothing
abbrev pub ErrnoLeaves : Tree → Outcome → Type 0
ErrnoLeaves tree outcome = is_errno outcome.reply ≡ true → outcome.tree ≡ tree

-- a number is taken exactly where an operation that makes an inode succeeds
abbrev pub TakesWhereMade : Op → Outcome → Type 0
TakesWhereMade op outcome = outcome.takes ≡ (makes op && not (is_errno outcome.reply))

-- an inode of this number stands in the tree
abbrev pub StandsIn : Tree → ℕ → Type 0
StandsIn tree x = (dentry : Dentry) × (inode : Inode) × (map.get tree dentry ≡ Some inode) × (inode.ino.0 ≡ x)

-- each inode that is left stood before, or has the number that was taken
abbrev pub IsOld : Tree → ℕ → Outcome → Type 0
IsOld tree n outcome =
    (dentry : Dentry) (inode : Inode) → map.get outcome.tree dentry ≡ Some inode → StandsIn tree inode.ino.0
    ⊎ ((outcome.takes ≡ true) × (inode.ino.0 ≡ n))

-- names in order with the inodes that they have in a directory: just those greater than `after`, and none is left out
pub record IsListing (tree : Tree) (d : ℕ) (after : Option (List ℕ)) (names : List (List ℕ × Inode)) : Type 0 where
  pub rises : T (is_sorted (slice_cmp nat_cmp) names)
  pub exact : (name : List ℕ) → find (slice_cmp nat_cmp) name names ≡ cond (is_after after name) (at tree d name) None
