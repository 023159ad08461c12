-- What a commit takes of a cached fragment, and what it leaves.
use Rattle.std.specs.Prelude.{◌≡◌, ℕ, List}
use Rattle.mds_types.specs.Frag.{Fragment}
use Rattle.mds_types.specs.ObjectText.{object_text}
use Rattle.mds_types.specs.declared.ids.Ino.{Ino}
use Rattle.mds_types.specs.declared.object_names.ObjName.TheVariants.{Frag as FragOf}
use Rattle.cached_frag.specs.declared.bases.Base.TheVariants.{Stored}
use Rattle.cached_frag.specs.Commit.{Carried}
use Rattle.cached_frag.specs.Marks.{Marks}
use Rattle.mds_types.specs.Leaf.{Leaf}
use Rattle.cached_frag.specs.Snap.{Snap, next_version}
use Rattle.cached_frag.specs.Cached.{Cached, shown_names, unsettled}

-- the text that names a leaf's object
abbrev pub leaf_text : Ino → Fragment → List ℕ
leaf_text dir frag = object_text (FragOf dir frag)

-- the leaf of an encoded job
abbrev pub job_leaf : Carried → Leaf
job_leaf encoded = (encoded.job.ino, encoded.job.frag)

-- a fragment whose object has these names at their versions, and is at this commit version: exactly those names became
-- clean whose last change the object has, and it shows what it showed
pub record IsCleanedOf (names : Marks) (version : ℕ) (f now : Cached) : Type 0 where
  pub based : now.base ≡ Stored version
  pub generation : now.generation ≡ f.generation
  pub dirty : now.dirty ≡ unsettled f.dirty names
  pub shown : shown_names now ≡ shown_names f

-- a fragment whose snapshot was committed
abbrev pub IsCommitted : Snap → Cached → Cached → Type 0
IsCommitted snapshot f now = IsCleanedOf snapshot.names (next_version snapshot.base) f now
