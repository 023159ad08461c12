-- What a walk finds, record by record: words of the contracts of private functions.
use Rattle.std.specs.Prelude.{◌≡◌, ◌⊎◌, ℕ, ◌≤◌, Bool, true, false, cond, not, ◌&&◌, List, [], ◌∷◌, ◌++◌, map as each, length, take, Option, Some, None}
use Rattle.std.specs.Option.{unwrap_or}
use Rattle.std.specs.Ordering.{nat_cmp}
use Rattle.std.specs.FinMap as map
use Rattle.mds_types.specs.Frag.{Fragment, root_fragment}
use Rattle.mds_types.specs.Leaf.{Leaf}
use Rattle.mds_types.specs.Tree.{Tree, dentry_of, is_dir_kind}
use Rattle.mds_types.specs.declared.dentries.Dentry.{Dentry}
use Rattle.mds_types.specs.declared.ids.Ino.{Ino}
use Rattle.mds_types.specs.declared.inodes.Inode.{Inode}
use Rattle.mds_types.specs.declared.object_names.ObjName.{ObjName}
use Rattle.mds_types.specs.declared.object_names.ObjName.TheVariants.{Frag as FragOf, Tree as TreeOf}
use Rattle.mds_types.specs.declared.refusals.Refusal.{Refusal}
use Rattle.mds_types.specs.declared.refusals.Refusal.TheVariants.{NoMemory, Damaged}
use Rattle.objstore.specs.Omap.{Omap}
use Rattle.objstore.specs.Objects.{Objects}
use Rattle.dirfrag_codec.specs.FragmentObject.{SpellsTreeObject}
use Rattle.dirfrag_codec.specs.Reading.{◌>>=◌}
use Rattle.dirfrag_codec.specs.Values.{tree_of_bytes as leaves_spelled}
use Rattle.dentry_cache.specs.Loading.{IsSaved, Loads, object_of}
use Rattle.dentry_cache.specs.Ties.{names_at}
use Rattle.inode_table.specs.Dirs.{Covers, Homes, is_known}
use Rattle.inode_table.specs.TreeTable.{with_home}
use Rattle.cold_store.specs.ColdTree.{IsReached, Record, tree_object_of}

-- an element of a list
abbrev pub IsIn : {X : Type 0} → X → List X → Type 0
IsIn x [] = ⊥
IsIn x (y ∷ ys) = (y ≡ x) ⊎ IsIn x ys

-- ---- what was found

-- directories in the order found, the inode numbers met, the entries, and where each directory stands
pub record Walked : Type 0 where
  pub queue : List Ino
  pub met : map.FinMap nat_cmp (Unit {0})
  pub tree : Tree
  pub homes : Homes

-- the same with the leaves of the directories that have a tree object
pub record Finding : Type 0 where
  pub shape : Walked
  pub covers : Covers

-- the root alone
abbrev pub root_alone : Walked
root_alone = record { queue = record { 0 = 1 } ∷ []; met = map.insert map.empty 1 tt; tree = map.empty; homes = map.empty }

-- an inode that is a directory stands in the queue's end
abbrev pub queued : List Ino → Inode → List Ino
queued queue inode = cond (is_dir_kind inode.kind) (queue ++ inode.ino ∷ []) queue

abbrev pub walked_with : Walked → Dentry → Inode → Walked
walked_with s dentry inode = record {
  queue = queued s.queue inode;
  met = map.insert s.met inode.ino.0 tt;
  tree =
      map.insert s.tree dentry inode;
  homes = with_home s.homes dentry inode;
}

abbrev pub with_row : Walked → Record → Walked
with_row s r = walked_with s (dentry_of r.leaf.0.0 r.name) r.inode

abbrev pub with_rows : Walked → List Record → Walked
with_rows s [] = s
with_rows s (r ∷ rs) = with_rows (with_row s r) rs

-- a number was met
abbrev pub is_met : Walked → ℕ → Bool
is_met s n = map.contains_key s.met n

-- no number of the records was met
abbrev pub are_new : Walked → List Record → Bool
are_new s [] = true
are_new s (r ∷ rs) = not (is_met s r.inode.ino.0) && are_new (with_row s r) rs

-- each directory that was found was met, and this is one of them
pub record IsMetDir (s : Walked) (d : ℕ) : Type 0 where
  pub each_met : (k : ℕ) → is_known s.homes k ≡ true → is_met s k ≡ true
  pub known : is_known s.homes d ≡ true

-- ---- the records of names, of a leaf, of leaves, of a directory and of directories

abbrev pub name_record : Leaf → List ℕ × Inode → Record
name_record leaf e = record { leaf = leaf; name = e.0; inode = e.1 }

abbrev pub rows_of : Leaf → List (List ℕ × Inode) → List Record
rows_of leaf es = each (name_record leaf) es

abbrev pub stored_names : Objects → Leaf → List (List ℕ × Inode)
stored_names objects leaf = map.entries (names_at (object_of objects leaf.0 leaf.1))

abbrev pub records_at : Objects → Leaf → List Record
records_at objects leaf = rows_of leaf (stored_names objects leaf)

abbrev pub rows_under : Objects → Ino → List Fragment → List Record
rows_under objects d [] = []
rows_under objects d (f ∷ fs) = records_at objects (d, f) ++ rows_under objects d fs

-- the leaves that a tree object says
abbrev pub leaves_said : Option Omap → Option (List Fragment)
leaves_said None = Some (root_fragment ∷ [])
leaves_said (Some object) = leaves_spelled object.header

abbrev pub stored_leaves : Objects → Ino → List Fragment
stored_leaves objects d = unwrap_or (leaves_said (tree_object_of objects d)) []

abbrev pub rows_in : Objects → Ino → List Record
rows_in objects d = rows_under objects d (stored_leaves objects d)

abbrev pub records_from : Objects → List Ino → List Record
records_from objects [] = []
records_from objects (d ∷ ds) = rows_in objects d ++ records_from objects ds

-- ---- leaves of directories with a tree object

abbrev pub cover_in : Objects → Ino → Option (List Fragment)
cover_in objects d = tree_object_of objects d >>= λ object. leaves_spelled object.header

abbrev pub with_cover : Covers → Ino → Option (List Fragment) → Covers
with_cover covers d None = covers
with_cover covers d (Some leaves) = map.insert covers d.0 leaves

abbrev pub covers_from : Objects → Covers → List Ino → Covers
covers_from objects covers [] = covers
covers_from objects covers (d ∷ ds) = covers_from objects (with_cover covers d (cover_in objects d)) ds

-- ---- what is good, beside what was found before, and what is bad

-- a leaf's object is whole, and no number in it was met; or it isn't, or one was
pub record IsGoodLeaf (objects : Objects) (s : Walked) (leaf : Leaf) : Type 0 where
  pub whole : IsSaved leaf.1 (object_of objects leaf.0 leaf.1)
  pub new : are_new s (records_at objects leaf) ≡ true

abbrev pub IsBadLeaf : Objects → Walked → Leaf → Type 0
IsBadLeaf objects s leaf =
    Loads leaf.1 (object_of objects leaf.0 leaf.1) None ⊎ (are_new s (records_at objects leaf) ≡ false)

abbrev pub AreGoodLeaves : Objects → Walked → Ino → List Fragment → Type 0
AreGoodLeaves objects s d [] = Unit {0}
AreGoodLeaves objects s d (f ∷ fs) =
    IsGoodLeaf objects s (d, f) × AreGoodLeaves objects (with_rows s (records_at objects (d, f))) d fs

-- the name is that of a bad one among leaves
abbrev pub IsBadAmong : Objects → Walked → Ino → List Fragment → ObjName → Type 0
IsBadAmong objects s d [] name = ⊥
IsBadAmong objects s d (f ∷ fs) name =
    ((name ≡ FragOf d f) × IsBadLeaf objects s (d, f))
    ⊎ IsBadAmong objects (with_rows s (records_at objects (d, f))) d fs name

-- a directory's tree object says its leaves, and these; it has pairs or says none
abbrev pub IsGoodTree : Option Omap → Option (List Fragment) → Type 0
IsGoodTree None cover = cover ≡ None
IsGoodTree (Some object) cover = (leaves : List Fragment) × SpellsTreeObject object leaves × (cover ≡ Some leaves)

abbrev pub IsBadTree : Option Omap → Type 0
IsBadTree None = ⊥
IsBadTree (Some object) = (leaves : List Fragment) → SpellsTreeObject object leaves → ⊥

pub record IsGoodDir (objects : Objects) (s : Walked) (d : Ino) : Type 0 where
  pub tree : IsGoodTree (tree_object_of objects d) (cover_in objects d)
  pub leaves : AreGoodLeaves objects s d (stored_leaves objects d)

abbrev pub IsBadIn : Objects → Walked → Ino → ObjName → Type 0
IsBadIn objects s d name =
    ((name ≡ TreeOf d) × IsBadTree (tree_object_of objects d))
    ⊎ (IsGoodTree (tree_object_of objects d) (cover_in objects d) × IsBadAmong objects s d (stored_leaves objects d) name)

abbrev pub AreGoodDirs : Objects → Walked → List Ino → Type 0
AreGoodDirs objects s [] = Unit {0}
AreGoodDirs objects s (d ∷ ds) = IsGoodDir objects s d × AreGoodDirs objects (with_rows s (rows_in objects d)) ds

-- why names of a leaf may not be added: want of memory, or a number of them that was met
abbrev pub MayNotAdd : Ino → Fragment → Bool → Refusal → Type 0
MayNotAdd d f new reason = (reason ≡ NoMemory) ⊎ ((reason ≡ Damaged (FragOf d f)) × (new ≡ false))

-- whether an object that is there has pairs
abbrev pub HasPairs : Option Omap → Bool → Type 0
HasPairs None some = Unit {0}
HasPairs (Some object) true = object.pairs ≡ map.empty → ⊥
HasPairs (Some object) false = object.pairs ≡ map.empty

-- ---- the walk

-- the directories before `next` were walked, and nothing in them was bad; each that was found is reached
pub record IsWalkedTo (objects : Objects) (found : Finding) (next : ℕ) : Type 0 where
  pub within : next ≤ length found.shape.queue
  pub walked : found.shape ≡ with_rows root_alone (records_from objects (take next found.shape.queue))
  pub covered : found.covers ≡ covers_from objects map.empty (take next found.shape.queue)
  pub good : AreGoodDirs objects root_alone (take next found.shape.queue)
  pub reached : (d : Ino) → IsIn d found.shape.queue → IsReached objects d.0
