-- The names that a leaf shows, and the tree that all leaves show.
use Rattle.std.specs.Prelude.{ℕ, List, [], ◌∷◌, ◌++◌, map, Option, Some, None}
use Rattle.std.specs.FinMap as finmap
use Rattle.mds_types.specs.declared.dentries.Dentry.{Dentry}
use Rattle.mds_types.specs.declared.inodes.Inode.{Inode}
use Rattle.mds_types.specs.Frag.{Fragment}
use Rattle.mds_types.specs.Tree.{Tree, dentry_of}
use Rattle.objstore.specs.Omap.{Omap}
use Rattle.objstore.specs.Objects.{Objects}
use Rattle.dirfrag_codec.specs.FragmentObject.{Names}
use Rattle.cached_frag.specs.Cached.{shown_over}
use Rattle.dentry_cache.specs.Loading.{object_of}
use Rattle.dentry_cache.specs.Cache.{Leaf, Unsaved}
use Rattle.dentry_cache.specs.Ties.{names_at}
use Rattle.inode_table.specs.Dirs.{Covers, Homes, leaves_of}
use Rattle.mdcache.specs.State.{State, UnsavedLeaves}

-- what a fragment shows: where it isn't clean, its dirty names over those of its base; otherwise the names that its
-- object spells
abbrev pub shown_at : Option Unsaved → Option Omap → Names
shown_at (Some u) object = shown_over u.base (names_at object) u.dirty
shown_at None object = names_at object

-- the shown names of a leaf: a function of what isn't clean and of the objects alone
unfoldable pub names_of : UnsavedLeaves → Objects → Leaf → Names
names_of unsaved objects leaf = shown_at (finmap.get unsaved leaf) (object_of objects leaf.0 leaf.1)

-- the entries that names of a directory are
abbrev pub entries_of : ℕ → List (List ℕ × Inode) → List (Dentry × Inode)
entries_of d rows = map (λ row. (dentry_of d row.0, row.1)) rows

-- the entries of some leaves of a directory, and those of some directories
abbrev pub entries_under : (Leaf → Names) → ℕ → List Fragment → List (Dentry × Inode)
entries_under names d [] = []
entries_under names d (f ∷ leaves) =
    entries_of d (finmap.entries (names (record { 0 = d }, f))) ++ entries_under names d leaves

abbrev pub dentries_in : (Leaf → Names) → Covers → List ℕ → List (Dentry × Inode)
dentries_in names covers [] = []
dentries_in names covers (d ∷ dirs) = entries_under names d (leaves_of covers d) ++ dentries_in names covers dirs

-- the directories of the table: the root, 1, and those that have a home
abbrev pub directories : Homes → List ℕ
directories homes = 1 ∷ finmap.keys homes

-- the tree that leaves with such names show: the entries of all live leaves
unfoldable pub tree_of : Homes → Covers → (Leaf → Names) → Tree
tree_of homes covers names = finmap.from_entries (dentries_in names covers (directories homes))

-- the shown tree
abbrev pub shown_tree : State → Tree
shown_tree s = tree_of s.homes s.covers (names_of s.unsaved s.objects)
