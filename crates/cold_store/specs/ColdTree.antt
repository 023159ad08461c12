-- The cold tree: what a store says on its own, with no cluster beside it (this project's own profile).
use Rattle.std.specs.Prelude.{◌≡◌, ◌⊎◌, ℕ, true, List, [], ◌∷◌, Option, Some, None}
use Rattle.std.specs.FinMap as map
use Rattle.mds_types.specs.Frag.{Fragment, root_fragment}
use Rattle.mds_types.specs.Leaf.{Leaf}
use Rattle.mds_types.specs.ObjectText.{object_text}
use Rattle.mds_types.specs.Tree.{Tree, dentry_of, is_dir_kind}
use Rattle.mds_types.specs.declared.ids.Ino.{Ino}
use Rattle.mds_types.specs.declared.inodes.Inode.{Inode}
use Rattle.mds_types.specs.declared.object_names.ObjName.{ObjName}
use Rattle.mds_types.specs.declared.object_names.ObjName.TheVariants.{Frag as FragOf, Tree as TreeOf}
use Rattle.objstore.specs.Omap.{Omap}
use Rattle.objstore.specs.Objects.{Objects}
use Rattle.fragtree.specs.FragTree.{HasLeaf}
use Rattle.dirfrag_codec.specs.FragmentObject.{SpellsTreeObject, names_of_pairs}
use Rattle.dirfrag_codec.specs.TreeObject.{SpellsTree}
use Rattle.dentry_cache.specs.Loading.{Loads, object_of}

-- the object of a directory's tree
abbrev pub tree_object_of : Objects → Ino → Option Omap
tree_object_of objects dir = map.get objects (object_text (TreeOf dir))

-- the leaves that a tree object says: `*` alone where it is absent, none where its header is off the grammar
abbrev pub SaysLeaves : Option Omap → List Fragment → Type 0
SaysLeaves None leaves = leaves ≡ root_fragment ∷ []
SaysLeaves (Some object) leaves = SpellsTree object.header leaves

-- a leaf of its directory, as the store has it
abbrev pub IsColdLeaf : Objects → Leaf → Type 0
IsColdLeaf objects leaf = (leaves : List Fragment) × SaysLeaves (tree_object_of objects leaf.0) leaves × HasLeaf leaves leaf.1

-- a record: the leaf in whose object it stands, its name and its inode
pub record Record : Type 0 where
  pub leaf : Leaf
  pub name : List ℕ
  pub inode : Inode

-- a leaf's object has the record: it decodes, and so does its key
pub record IsRecord (objects : Objects) (r : Record) : Type 0 where
  pub leaf : IsColdLeaf objects r.leaf
  pub object : Omap
  pub there : object_of objects r.leaf.0 r.leaf.1 ≡ Some object
  pub stands : map.get (names_of_pairs object.pairs) r.name ≡ Some r.inode

-- the reached directories, the least set: the root, 1, and each directory that a record of a reached one names
pub data IsReached (objects : Objects) : ℕ → Type 0 where
  root : IsReached objects 1
  named : (r : Record) → IsReached objects r.leaf.0.0 → IsRecord objects r → is_dir_kind r.inode.kind ≡ true
      → IsReached objects r.inode.ino.0

-- two records stand at one place
abbrev pub IsSamePlace : Record → Record → Type 0
IsSamePlace r q = (r.leaf ≡ q.leaf) × (r.name ≡ q.name)

-- the faulty objects among those of reached directories
pub data IsFaulty (objects : Objects) : ObjName → Type 0 where
  -- a tree object off the grammar, or with pairs
  bad_tree : (dir : Ino) (object : Omap) → IsReached objects dir.0 → tree_object_of objects dir ≡ Some object
      → ((leaves : List Fragment) → SpellsTreeObject object leaves → ⊥) → IsFaulty objects (TreeOf dir)
  -- a leaf's object that is absent, or doesn't spell a fragment whole: header, keys, records and counts, and each name
  -- in its leaf
  bad_leaf : (leaf : Leaf) → IsReached objects leaf.0.0 → IsColdLeaf objects leaf
      → Loads leaf.1 (object_of objects leaf.0 leaf.1) None → IsFaulty objects (FragOf leaf.0 leaf.1)
  -- one with a record whose inode number stands in another record too
  repeated : (r q : Record) → IsReached objects r.leaf.0.0 → IsRecord objects r → IsReached objects q.leaf.0.0
      → IsRecord objects q → r.inode.ino ≡ q.inode.ino → (IsSamePlace r q → ⊥)
      → IsFaulty objects (FragOf r.leaf.0 r.leaf.1)

-- no object is faulty
abbrev pub HasNoFault : Objects → Type 0
HasNoFault objects = (name : ObjName) → IsFaulty objects name → ⊥

-- the tree has exactly the records of reached directories
pub record HasRecords (objects : Objects) (tree : Tree) : Type 0 where
  pub only : (d : ℕ) (name : List ℕ) (inode : Inode) → map.get tree (dentry_of d name) ≡ Some inode → (f : Fragment)
      × IsReached objects d × IsRecord objects (record { leaf = (record { 0 = d }, f); name = name; inode = inode })
  pub all : (r : Record) → IsReached objects r.leaf.0.0 → IsRecord objects r
      → map.get tree (dentry_of r.leaf.0.0 r.name) ≡ Some r.inode

-- the cold tree of a store: empty where it has no objects; otherwise none of them is faulty, and the tree has all
-- records
abbrev pub IsColdTree : Objects → Tree → Type 0
IsColdTree objects tree =
    ((objects ≡ map.empty) × (tree ≡ map.empty))
    ⊎ ((objects ≡ map.empty → ⊥) × HasNoFault objects × HasRecords objects tree)

-- a store has at most one cold tree
abbrev pub HasOneColdTree : Type 0
HasOneColdTree = (objects : Objects) (a b : Tree) → IsColdTree objects a → IsColdTree objects b → a ≡ b
