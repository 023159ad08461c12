-- What each change of the tree makes of the state.
use Rattle.std.specs.Prelude.{◌≡◌, ℕ, ◌<◌, ◌+◌, Bool, true, false, cond, is_some, List, [], ◌∷◌, map as each, Option, Some, None}
use Rattle.std.specs.Ordering.{nat_cmp}
use Rattle.std.specs.FinMap as map
use Rattle.mds_types.specs.Frag.{Fragment, root_fragment}
use Rattle.mds_types.specs.Leaf.{leaf_of}
use Rattle.mds_types.specs.Tree.{Tree, is_dir_kind}
use Rattle.mds_types.specs.declared.ids.Ino.{Ino}
use Rattle.mds_types.specs.declared.dentries.Dentry.{Dentry}
use Rattle.mds_types.specs.declared.inodes.Inode.{Inode}
use Rattle.objstore.specs.Omap.{Keys, Omap}
use Rattle.cached_frag.specs.declared.bases.Base.{Base}
use Rattle.cached_frag.specs.declared.bases.Base.TheVariants.{Fresh, Stored}
use Rattle.dentry_cache.specs.Loading.{object_of}
use Rattle.dentry_cache.specs.Cache.{Leaf, Unsaved, leaf_cmp}
use Rattle.dentry_cache.specs.Ties.{names_at}
use Rattle.inode_table.specs.Dirs.{Counts as Entries, DirPins, one_less, one_more}
use Rattle.inode_table.specs.TreeTable.{counts_moved, home_at, with_count, with_home, with_dir_pin}
use Rattle.namespace_ops.specs.Changes.{dentry_at, in_directory, leaves}
use Rattle.namespace_ops.specs.declared.plans.Change.{Change}
use Rattle.namespace_ops.specs.declared.plans.Spot.{Spot}
use Rattle.mdcache.specs.Commits.{HasSpelled}
use Rattle.mdcache.specs.Shown.{shown_tree}
use Rattle.mdcache.specs.State.{State, text_of, tree_text}

-- ---- one name

-- an object that counts, at this version
abbrev pub IsCountedObject : Base → Option Omap → Type 0
IsCountedObject Fresh object = ⊥
IsCountedObject (Stored version) object = HasSpelled object version (names_at object)

-- a fragment as it stands: what isn't clean of it; of a clean one no name is dirty, and its object counts
abbrev pub IsAsItStands : Option Unsaved → Option Omap → ℕ → Unsaved → Type 0
IsAsItStands (Some u) object next now = now ≡ u
IsAsItStands None object next now = IsCountedObject now.base object × (now.dirty ≡ map.empty) × (now.generation < next)

-- a fragment in which a name is dirty at a version
abbrev pub dirtied : Unsaved → List ℕ → ℕ → Option Inode → Unsaved
dirtied u name version inode =
    record u { dirty = map.insert u.dirty name (record { version = version; inode = inode }) }

-- the name takes the next version
abbrev pub with_name : State → Leaf → Unsaved → List ℕ → Option Inode → State
with_name s leaf u name inode =
    record s {
      unsaved = map.insert s.unsaved leaf (dirtied u name s.next_version inode);
      next_version =
          s.next_version + 1;
    }

-- a name of a leaf got an inode, or was removed
pub record IsNamed (old new : State) (leaf : Leaf) (name : List ℕ) (inode : Option Inode) : Type 0 where
  pub before : Unsaved
  pub stands : IsAsItStands (map.get old.unsaved leaf) (object_of old.objects leaf.0 leaf.1) old.next_generation before
  pub left : new ≡ with_name old leaf before name inode

-- ---- directories

-- the one leaf of a new directory
abbrev pub first_leaf : Ino → Leaf
first_leaf dir = (dir, root_fragment)

-- a fragment just made: no object counts, and it has no names
abbrev pub just_made : ℕ → Unsaved
just_made generation = record { base = Fresh; generation = generation; dirty = map.empty }

-- a new directory has its home, and the leaf `*`, which takes the next generation; an object of that name isn't to be
-- removed
abbrev pub with_directory : State → Dentry → Ino → State
with_directory s dentry dir = record s {
  homes = map.insert s.homes dir.0 (home_at dentry);
  unsaved = map.insert s.unsaved (first_leaf dir) (just_made s.next_generation);
  purge = map.remove s.purge (text_of (first_leaf dir));
  next_generation = s.next_generation + 1;
}

-- the state with an inode that was created: if it is a directory, with its row and first leaf
abbrev pub with_new : State → Dentry → Inode → State
with_new s dentry inode = cond (is_dir_kind inode.kind) (with_directory s dentry inode.ino) s

-- what is kept of leaves, without those of a list
abbrev pub without_leaves : {X : Type 0} → map.FinMap leaf_cmp X → List Leaf → map.FinMap leaf_cmp X
without_leaves kept [] = kept
without_leaves kept (leaf ∷ leaves) = without_leaves (map.remove kept leaf) leaves

-- a list of names of objects with more
abbrev pub with_objects : Keys → List (List ℕ) → Keys
with_objects names [] = names
with_objects names (name ∷ more) = with_objects (map.insert names name tt) more

-- the names of the objects of a directory: that of its tree, and those of its leaves
abbrev pub object_texts_of : State → Ino → List (List ℕ)
object_texts_of s dir = tree_text dir ∷ each text_of (leaves s.covers dir.0)

-- those of a directory that goes, if one does
abbrev pub texts_gone : State → Option Ino → List (List ℕ)
texts_gone s None = []
texts_gone s (Some dir) = object_texts_of s dir

-- a directory that goes has no home and no leaves; nothing of them is unsaved, no job stands for them, and all its
-- objects are to be removed
abbrev pub without_directory : State → Ino → State
without_directory s dir = record s {
  homes = map.remove s.homes dir.0;
  covers = map.remove s.covers dir.0;
  unsaved = without_leaves s.unsaved (leaves s.covers dir.0);
  jobs = without_leaves s.jobs (leaves s.covers dir.0);
  purge = with_objects s.purge (object_texts_of s dir);
}

-- these leaves of a directory
abbrev pub leaves_in : Ino → List Fragment → List Leaf
leaves_in dir frags = each (in_directory dir.0) frags

-- rows of directories, without that of one that goes
abbrev pub rows_but : {X : Type 0} → map.FinMap nat_cmp X → Option Ino → map.FinMap nat_cmp X
rows_but rows None = rows
rows_but rows (Some dir) = map.remove rows dir.0

-- the state without a directory that was removed, if one was
abbrev pub without_gone_dir : State → Option Ino → State
without_gone_dir s None = s
without_gone_dir s (Some dir) = without_directory s dir

-- an inode that moved has its home there, if it is a directory
abbrev pub with_home_at : State → Dentry → Inode → State
with_home_at s to inode = record s { homes = with_home s.homes to inode }

-- ---- counts and pins

-- the counts where an entry comes, goes, or moves to where something stood or nothing; a directory that comes has no
-- entry
abbrev pub counts_by : Entries → (stood : Bool) → Option Spot → Option (Spot × Inode) → Bool → Entries
counts_by counts stood None None comes = counts
counts_by counts stood None (Some put) true = with_count (one_more counts put.0.at.dir.0) put.1
counts_by counts stood None (Some put) false = counts
counts_by counts stood (Some spot) None comes = one_less counts spot.at.dir.0
counts_by counts stood (Some spot) (Some put) comes = counts_moved counts spot.at.dir.0 put.0.at.dir.0 stood

-- the pins where an inode gets other attributes: a directory's may be another
abbrev pub pins_by : DirPins → Option Spot → Option (Spot × Inode) → Bool → DirPins
pins_by pins None None comes = pins
pins_by pins None (Some put) true = pins
pins_by pins None (Some put) false = with_dir_pin pins put.1
pins_by pins (Some spot) puts comes = pins

-- something stands at the name that gets an inode
abbrev pub stood_at : Tree → Option (Spot × Inode) → Bool
stood_at tree None = false
stood_at tree (Some put) = is_some (map.get tree (dentry_at put.0))

-- what a change leaves, with the counts and the pins that it makes of those before; those of a directory that goes go
-- with it
abbrev pub noted_change : State → Change → State → State
noted_change old change s = record s {
  counts =
      rows_but (counts_by old.counts
      (stood_at (shown_tree old) change.puts) change.takes change.puts change.comes) change.gone;
  pins = rows_but (pins_by old.pins change.takes change.puts change.comes) change.gone;
}

-- ---- a change

-- a name loses its inode, if one does, and the rest is of the state then
abbrev pub TakesThen : State → Option Spot → (State → Type 0) → Type 0
TakesThen s None Rest = Rest s
TakesThen s (Some spot) Rest = (left : State) × IsNamed s left (leaf_of spot.at) spot.name None × Rest left

-- a name gets an inode, if one does
abbrev pub PutsThen : State → Option (Spot × Inode) → (State → Type 0) → Type 0
PutsThen s None Rest = Rest s
PutsThen s (Some put) Rest = (named : State) × IsNamed s named (leaf_of put.0.at) put.0.name (Some put.1) × Rest named

-- a directory that comes has its home and a leaf, and one that moved its home there; one with other attributes stays
-- where it is
abbrev pub housed : State → Option Spot → Option (Spot × Inode) → Bool → State
housed s takes None comes = s
housed s None (Some put) true = with_new s (dentry_at put.0) put.1
housed s None (Some put) false = s
housed s (Some spot) (Some put) comes = with_home_at s (dentry_at put.0) put.1

-- first the name that loses its inode is dirty, then the one that gets it; the directory that is put is housed, and the
-- one that is taken or replaced goes
abbrev pub Alters : Change → State → State → Type 0
Alters change old new =
    TakesThen old change.takes (λ left. PutsThen left change.puts
    (λ named. new ≡ without_gone_dir (housed named change.takes change.puts change.comes) change.gone))

-- so it is, and with that the counts and the pins
abbrev pub Makes : Change → State → State → Type 0
Makes change old new = (altered : State) × Alters change old altered × (new ≡ noted_change old change altered)
