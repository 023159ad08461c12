-- What a walk over a store finds where no object is faulty, and why it may be refused.
use Rattle.std.specs.Prelude.{◌≡◌, ◌⊎◌, ℕ, ◌<◌, true, is_some, List, Option, Some, None}
use Rattle.std.specs.FinMap as map
use Rattle.mds_types.specs.Frag.{Fragment}
use Rattle.mds_types.specs.Leaf.{Leaf}
use Rattle.mds_types.specs.ObjectText.{object_text}
use Rattle.mds_types.specs.Tree.{Tree}
use Rattle.mds_types.specs.declared.ids.Ino.{Ino}
use Rattle.mds_types.specs.declared.object_names.ObjName.{ObjName}
use Rattle.mds_types.specs.declared.object_names.ObjName.TheVariants.{Frag as FragOf, Tree as TreeOf}
use Rattle.mds_types.specs.declared.refusals.Refusal.{Refusal}
use Rattle.mds_types.specs.declared.refusals.Refusal.TheVariants.{NoMemory, StoreFault, Damaged}
use Rattle.objstore.specs.Omap.{Keys, Omap}
use Rattle.objstore.specs.Objects.{Objects}
use Rattle.dirfrag_codec.specs.FragmentObject.{Names}
use Rattle.dentry_cache.specs.Loading.{IsSaved, object_of}
use Rattle.inode_table.specs.Dirs.{Covers, Homes, IsTable, is_known, leaves_of}
use Rattle.inode_table.specs.TreeTable.{HoldsHomes, IsTabled}
use Rattle.cold_store.specs.ColdTree.{HasRecords, IsColdLeaf, IsFaulty, IsReached, IsRecord, IsSamePlace, Record, SaysLeaves, tree_object_of}

-- an object is that of a reached leaf, or the tree object of a reached directory
abbrev pub IsReachedObject : Objects → List ℕ → Type 0
IsReachedObject objects name =
    ((leaf : Leaf) × IsReached objects leaf.0.0 × IsColdLeaf objects leaf × (name ≡ object_text (FragOf leaf.0 leaf.1)))
    ⊎ ((dir : Ino) × IsReached objects dir.0 × (name ≡ object_text (TreeOf dir)))

-- what a walk finds that meets no faulty object: the entries of all reached directories, where each directory stands,
-- its leaves, and the names of the objects that weren't reached
pub record IsWalked (objects : Objects) (tree : Tree) (homes : Homes) (covers : Covers) (left : Keys) : Type 0 where
  -- each leaf's object spells it whole
  pub whole : (leaf : Leaf) → IsReached objects leaf.0.0 → IsColdLeaf objects leaf
      → IsSaved leaf.1 (object_of objects leaf.0 leaf.1)
  -- no inode number stands in two records
  pub once : (r q : Record) → IsReached objects r.leaf.0.0 → IsRecord objects r → IsReached objects q.leaf.0.0
      → IsRecord objects q → r.inode.ino ≡ q.inode.ino → IsSamePlace r q
  pub records : HasRecords objects tree
  pub homes_held : HoldsHomes tree homes
  -- only directories have rows of leaves; the leaves of each are those that its tree object says, and that has no pairs
  pub rows : (d : ℕ) (leaves : List Fragment) → map.get covers d ≡ Some leaves → is_known homes d ≡ true
  pub leaves : (dir : Ino) → is_known homes dir.0 ≡ true → SaysLeaves (tree_object_of objects dir) (leaves_of covers dir.0)
  pub bare : (dir : Ino) (object : Omap) → is_known homes dir.0 ≡ true → tree_object_of objects dir ≡ Some object
      → object.pairs ≡ map.empty
  -- each object was reached or is left, none both, and what is left is there
  pub reached_or_left : (name : List ℕ) → is_some (map.get objects name) ≡ true → IsReachedObject objects name
      ⊎ (is_some (map.get left name) ≡ true)
  pub not_reached : (name : List ℕ) → is_some (map.get left name) ≡ true → IsReachedObject objects name → ⊥
  pub there : (name : List ℕ) → is_some (map.get left name) ≡ true → is_some (map.get objects name) ≡ true

-- why reading may be refused: want of memory, a fault of the store, whose count of faults rose, or an object that is
-- named and is off so
abbrev pub MayFail : (ObjName → Type 0) → ℕ → ℕ → Refusal → Type 0
MayFail IsOff before after reason =
    (reason ≡ NoMemory) ⊎ ((reason ≡ StoreFault) × (before < after))
    ⊎ ((name : ObjName) × (reason ≡ Damaged name) × IsOff name)

-- why a walk may be refused: an object that is named is a faulty one
abbrev pub MayNotWalk : Objects → ℕ → ℕ → Refusal → Type 0
MayNotWalk objects before after reason = MayFail (IsFaulty objects) before after reason

-- what a walk finds is a well-formed tree with the table of its directories
abbrev pub WalkedIsTabled : Type 0
WalkedIsTabled =
    (objects : Objects) (tree : Tree) (homes : Homes) (covers : Covers) (left : Keys)
    → IsWalked objects tree homes covers left → IsTabled tree homes × IsTable homes covers
