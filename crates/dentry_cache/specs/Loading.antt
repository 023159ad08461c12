-- The object of a fragment, read: what a fetch finds in it.
use Rattle.std.specs.Prelude.{◌≡◌, ℕ, ◌<◌, List, Option, Some, None}
use Rattle.std.specs.FinMap as map
use Rattle.mds_types.specs.Frag.{Contains, Fragment}
use Rattle.mds_types.specs.ObjectText.{object_text}
use Rattle.mds_types.specs.declared.ids.Ino.{Ino}
use Rattle.mds_types.specs.declared.inodes.Inode.{Inode}
use Rattle.mds_types.specs.declared.object_names.ObjName.TheVariants.{Frag as FragOf}
use Rattle.mds_types.specs.declared.refusals.Refusal.{Refusal}
use Rattle.mds_types.specs.declared.refusals.Refusal.TheVariants.{NoMemory, StoreFault, NoInodes, Trimmed, NotAuthority, Frozen, Pinned, NoSuchFrag, BadSplit, TooManyFrags, StaleJob, JobOutstanding, WrongExportState, InboxEmpty, InboxFull, NothingToEvict, Damaged, NotClean}
use Rattle.objstore.specs.Omap.{Omap}
use Rattle.objstore.specs.Objects.{Objects}
use Rattle.namehash.specs.Rjenkins.{hash_of}
use Rattle.dirfrag_codec.specs.FragmentObject.{Names, SpellsFragment}
use Rattle.cached_frag.specs.declared.bases.Base.TheVariants.{Stored}
use Rattle.cached_frag.specs.Cached.{Cached}

-- each name's hash is in the fragment
abbrev pub AreWithin : Fragment → Names → Type 0
AreWithin frag names = (name : List ℕ) (inode : Inode) → map.get names name ≡ Some inode → Contains frag (hash_of name)

-- the object spells a fragment of these names whole: header, keys, records and counts, and no name belongs elsewhere
abbrev pub IsWhole : Fragment → Omap → ℕ → Names → Type 0
IsWhole frag object version names = SpellsFragment object version names × AreWithin frag names

-- the object of a leaf is there, and spells a fragment of it whole
abbrev pub IsSaved : Fragment → Option Omap → Type 0
IsSaved frag None = ⊥
IsSaved frag (Some object) = (version : ℕ) × (names : Names) × IsWhole frag object version names

-- what is read of the object: the fragment that it spells; none exactly where it is absent or spells none
abbrev pub Loads : Fragment → Option Omap → Option Cached → Type 0
Loads frag None (Some f) = ⊥
Loads frag None None = Unit {0}
Loads frag (Some object) (Some f) =
    (version : ℕ) × (names : Names) × IsWhole frag object version names
    × (f ≡ record {
      base = Stored version;
      generation = 0;
      clean = names;
      dirty = map.empty;
      room = 0;
      places =
          f.places;
    })
Loads frag (Some object) None = (version : ℕ) (names : Names) → IsWhole frag object version names → ⊥

-- the object of a leaf
abbrev pub object_of : Objects → Ino → Fragment → Option Omap
object_of objects dir frag = map.get objects (object_text (FragOf dir frag))

-- why a fetch may be refused: as the store may refuse a call, or the object of the leaf, named so, spells no fragment
-- of it
abbrev pub MayNotLoad : Ino → Fragment → Option Omap → ℕ → ℕ → Refusal → Type 0
MayNotLoad dir frag object before after NoMemory = Unit {0}
MayNotLoad dir frag object before after StoreFault = before < after
MayNotLoad dir frag object before after (Damaged name) = (name ≡ FragOf dir frag) × Loads frag object None
MayNotLoad dir frag object before after NoInodes = ⊥
MayNotLoad dir frag object before after Trimmed = ⊥
MayNotLoad dir frag object before after NotAuthority = ⊥
MayNotLoad dir frag object before after Frozen = ⊥
MayNotLoad dir frag object before after Pinned = ⊥
MayNotLoad dir frag object before after NoSuchFrag = ⊥
MayNotLoad dir frag object before after BadSplit = ⊥
MayNotLoad dir frag object before after TooManyFrags = ⊥
MayNotLoad dir frag object before after StaleJob = ⊥
MayNotLoad dir frag object before after JobOutstanding = ⊥
MayNotLoad dir frag object before after WrongExportState = ⊥
MayNotLoad dir frag object before after InboxEmpty = ⊥
MayNotLoad dir frag object before after InboxFull = ⊥
MayNotLoad dir frag object before after NothingToEvict = ⊥
MayNotLoad dir frag object before after NotClean = ⊥
