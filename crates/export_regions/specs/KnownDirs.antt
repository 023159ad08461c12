-- For directories whether their dentries are held in a region. Only this crate's own contracts use these words.
use Rattle.std.specs.Prelude.{◌≡◌, ◌⊎◌, ◌↔◌, ℕ, Bool, List, Some, IsTrue}
use Rattle.std.specs.List.{Contains}
use Rattle.std.specs.Ordering.{nat_cmp}
use Rattle.std.specs.FinMap as map
use Rattle.mds_types.specs.Leaf.{Leaf}
use Rattle.inode_table.specs.declared.dirs.Home.{Home}
use Rattle.inode_table.specs.Dirs.{Covers, Homes}
use Rattle.subtree_map.specs.Authority.{HoldsDentry, Roots}
use Rattle.export_regions.specs.Regions.{IsOfRegion}

-- a leaf holds the dentry of the directory of this number
pub record HoldsDentryOf (homes : Homes) (covers : Covers) (dir : ℕ) (holder : Leaf) : Type 0 where
  pub home : Home
  pub stands : map.get homes dir ≡ Some home
  pub holds : HoldsDentry covers home holder

-- the leaf that holds the dentry of a directory is in the region of a root
pub record IsHeldIn (roots : Roots) (homes : Homes) (covers : Covers) (root : Leaf) (dir : ℕ) : Type 0 where
  pub holder : Leaf
  pub holds : HoldsDentryOf homes covers dir holder
  pub within : IsOfRegion roots homes covers root holder

-- an answer for a directory is right
abbrev pub IsRightAnswer : Roots → Homes → Covers → Leaf → ℕ → Bool → Type 0
IsRightAnswer roots homes covers root dir answer = IsTrue answer ↔ IsHeldIn roots homes covers root dir

-- from the numbers of directories to their answers
abbrev pub KnownAnswers : Type 0
KnownAnswers = map.FinMap nat_cmp Bool

-- each answer is right
abbrev pub AreRightAnswers : Roots → Homes → Covers → Leaf → KnownAnswers → Type 0
AreRightAnswers roots homes covers root answers =
    (dir : ℕ) (answer : Bool) → map.get answers dir ≡ Some answer → IsRightAnswer roots homes covers root dir answer

-- these directories have this answer now, and no other answer is new
abbrev pub AreNoted : List ℕ → Bool → KnownAnswers → KnownAnswers → Type 0
AreNoted dirs told old new =
    (dir : ℕ) (answer : Bool) → map.get new dir ≡ Some answer
    → ((answer ≡ told) × Contains dirs dir) ⊎ (map.get old dir ≡ Some answer)
