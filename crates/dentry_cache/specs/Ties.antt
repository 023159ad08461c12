-- What ties a cached fragment to its object, so that what it shows is a function of what isn't clean and of the objects
-- alone.
use Rattle.std.specs.Prelude.{◌≡◌, ℕ, List, Option, Some, None}
use Rattle.std.specs.Option.{unwrap_or}
use Rattle.std.specs.FinMap as map
use Rattle.mds_types.specs.Frag.{Fragment}
use Rattle.objstore.specs.Omap.{Omap, empty_omap}
use Rattle.objstore.specs.Writes.{applied}
use Rattle.dirfrag_codec.specs.FragmentObject.{Names, SpellsFragment, names_of_pairs}
use Rattle.cached_frag.specs.declared.bases.Base.{Base}
use Rattle.cached_frag.specs.declared.bases.Base.TheVariants.{Fresh, Stored}
use Rattle.cached_frag.specs.declared.marks.Mark.{Mark}
use Rattle.cached_frag.specs.Commit.{write_of}
use Rattle.cached_frag.specs.Marks.{Marks}
use Rattle.cached_frag.specs.Snap.{IsSnap, Snap, counts_of, next_version}
use Rattle.cached_frag.specs.Cached.{Cached, marked, shown_names, shown_over}
use Rattle.dentry_cache.specs.Loading.{Loads}
use Rattle.dentry_cache.specs.Commits.{IsCommitted}

-- the names that an object's pairs show; none, where it is absent
abbrev pub names_at : Option Omap → Names
names_at None = map.empty
names_at (Some object) = names_of_pairs object.pairs

-- an object that counts spells a fragment at the base's version, and each name that isn't dirty was fetched as the
-- object has it
abbrev pub IsTiedAt : Base → Cached → Option Omap → Type 0
IsTiedAt Fresh f object = Unit {0}
IsTiedAt (Stored version) f None = ⊥
IsTiedAt (Stored version) f (Some object) =
    SpellsFragment object version (names_of_pairs object.pairs)
    × ((name : List ℕ) → map.get f.dirty name ≡ None → map.get f.clean name ≡ map.get (names_of_pairs object.pairs) name)

abbrev pub IsTied : Cached → Option Omap → Type 0
IsTied f object = IsTiedAt f.base f object

-- a fragment that is tied shows the names of its object, with the dirty ones replaced or gone
abbrev pub TiedShow : Type 0
TiedShow = (f : Cached) (object : Option Omap) → IsTied f object → shown_names f ≡ shown_over f.base (names_at object) f.dirty

-- what is fetched is tied
abbrev pub FetchedAreTied : Type 0
FetchedAreTied = (frag : Fragment) (object : Option Omap) (f : Cached) → Loads frag object (Some f) → IsTied f object

-- a change of a name keeps the tie
abbrev pub ChangedAreTied : Type 0
ChangedAreTied =
    (f : Cached) (object : Option Omap) (name : List ℕ) (mark : Mark) → IsTied f object
    → IsTied (marked f name mark) object

-- a name of the snapshot is dirty still, and what became of it is what the snapshot has, or it has another version
abbrev pub IsStillDirty : Option Mark → Option Mark → Type 0
IsStillDirty mark None = Unit {0}
IsStillDirty None (Some then) = ⊥
IsStillDirty (Some mark) (Some then) = mark.version ≡ then.version → mark ≡ then

abbrev pub Keeps : Marks → Marks → Type 0
Keeps dirty names = (name : List ℕ) → IsStillDirty (map.get dirty name) (map.get names name)

-- a snapshot that a fragment's commit can end: it is one of this base, its names are kept, and it counts what it shows
-- over the object
pub record Commits (snapshot : Snap) (f : Cached) (object : Option Omap) : Type 0 where
  pub valid : IsSnap snapshot
  pub based : snapshot.base ≡ f.base
  pub keeps : Keeps f.dirty snapshot.names
  pub counted : snapshot.counts ≡ counts_of (shown_over snapshot.base (names_at object) snapshot.names)

-- the object that a commit leaves
abbrev pub object_after : Snap → Option Omap → Omap
object_after snapshot object = applied (write_of snapshot) (unwrap_or object empty_omap)

-- a commit leaves an object that spells what the snapshot shows, and the fragment tied to it
pub record IsRight (snapshot : Snap) (now : Cached) (object : Option Omap) : Type 0 where
  pub spelled : SpellsFragment (object_after snapshot object) (next_version snapshot.base)
      (shown_over snapshot.base (names_at object) snapshot.names)
  pub tied : IsTied now (Some (object_after snapshot object))

abbrev pub CommittedAreTied : Type 0
CommittedAreTied =
    (snapshot : Snap) (f now : Cached) (object : Option Omap) → IsTied f object → Commits snapshot f object
    → IsCommitted snapshot f now → IsRight snapshot now object
