-- What contracts see of the tree over caches and a store.
use Rattle.std.specs.Prelude.{ℕ, List}
use Rattle.std.specs.FinMap as map
use Rattle.mds_types.specs.ObjectText.{object_text}
use Rattle.mds_types.specs.declared.ids.Ino.{Ino}
use Rattle.mds_types.specs.declared.object_names.ObjName.TheVariants.{Tree as TreeOf}
use Rattle.objstore.specs.Omap.{Keys}
use Rattle.objstore.specs.Objects.{Objects}
use Rattle.dentry_cache.specs.Cache.{Leaf, Unsaved, leaf_cmp}
use Rattle.dentry_cache.specs.Commits.{leaf_text}
use Rattle.inode_table.specs.Dirs.{Counts, Covers, DirPins, Homes}
pub use Rattle.inode_table.specs.Dirs.{IsLive}
use Rattle.mdcache.specs.StandingJobs.{Jobs}

-- the fragments that aren't clean
abbrev pub UnsavedLeaves : Type 0
UnsavedLeaves = map.FinMap leaf_cmp Unsaved

-- all that a refused step leaves as it was: how many entries a directory may have; where each directory stands, its
-- leaves, how many entries it has and its pin; what isn't clean, the objects of the store, the commits that were begun,
-- the names of objects to be removed, and the numbers that the next job, fragment and dirty name get
pub record State : Type 0 where
  pub limit : ℕ
  pub homes : Homes
  pub covers : Covers
  pub counts : Counts
  pub pins : DirPins
  pub unsaved : UnsavedLeaves
  pub objects : Objects
  pub jobs : Jobs
  pub purge : Keys
  pub next_job : ℕ
  pub next_generation : ℕ
  pub next_version : ℕ

-- the texts that name a leaf's object and the object of a directory's tree
abbrev pub text_of : Leaf → List ℕ
text_of leaf = leaf_text leaf.0 leaf.1

abbrev pub tree_text : Ino → List ℕ
tree_text dir = object_text (TreeOf dir)
