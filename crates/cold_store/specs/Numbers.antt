-- The number that a rank hands out next beside a tree that was found.
use Rattle.std.specs.Prelude.{◌≡◌, ◌⊎◌, ℕ, ◌+◌, ◌<◌, ◌≤◌, ◌&&◌, nat_le, nat_lt, if◌then◌else◌, List, [], ◌∷◌, Some}
use Rattle.std.specs.FinMap as map
use Rattle.mds_types.specs.declared.dentries.Dentry.{Dentry}
use Rattle.mds_types.specs.declared.inodes.Inode.{Inode}
use Rattle.mds_types.specs.Tree.{Tree}
use Rattle.inode_table.specs.Numbers.{Supply, end_number, first_number}

-- an inode of the tree has a number of the rank's range
pub record IsOfRank (tree : Tree) (rank : ℕ) (dentry : Dentry) (inode : Inode) : Type 0 where
  pub stands : map.get tree dentry ≡ Some inode
  pub from : first_number rank ≤ inode.ino.0
  pub before : inode.ino.0 < end_number rank

-- the next number of a rank: one more than the greatest number of its range in the tree, or the first of the range,
-- where there is none
pub record IsNextNumber (tree : Tree) (s : Supply) : Type 0 where
  pub above : (dentry : Dentry) (inode : Inode) → IsOfRank tree s.rank dentry inode → inode.ino.0 < s.next
  pub tight : (s.next ≡ first_number s.rank)
      ⊎ ((dentry : Dentry) × (inode : Inode) × IsOfRank tree s.rank dentry inode × (s.next ≡ inode.ino.0 + 1))

-- ---- words of the contracts of private functions

-- the next number, once an inode has this one; the same once entries have theirs
abbrev pub passed : ℕ → ℕ → ℕ → ℕ
passed next end number = if nat_le next number && nat_lt number end then number + 1 else next

abbrev pub passed_all : ℕ → ℕ → List (Dentry × Inode) → ℕ
passed_all next end [] = next
passed_all next end (e ∷ es) = passed_all (passed next end e.1.ino.0) end es
