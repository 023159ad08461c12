-- One cached fragment, and what it shows.
use Rattle.std.specs.Prelude.{◌≡◌, ℕ, ◌-◌, Bool, false, not, ◌&&◌, ◌==◌, List, Option, Some, None}
use Rattle.std.specs.FinMap as map
use Rattle.mds_types.specs.Name.{IsName}
use Rattle.mds_types.specs.declared.inodes.Inode.{Inode}
use Rattle.dirfrag_codec.specs.EntryRecord.{HasRecord}
use Rattle.dirfrag_codec.specs.FragmentObject.{Names}
use Rattle.cached_frag.specs.declared.bases.Base.{Base}
use Rattle.cached_frag.specs.declared.bases.Base.TheVariants.{Fresh, Stored}
use Rattle.cached_frag.specs.declared.marks.Mark.{Mark}
use Rattle.cached_frag.specs.Marks.{Marks, patched}
use Rattle.cached_frag.specs.Snap.{Snap, counts_of, is_fresh}

-- what its object is to the fragment, which of the fragments of this name it is, the names as they were fetched, those
-- that changed since, how many changes fit with no growth, and how many names fit among the fetched ones
pub record Cached : Type 0 where
  pub base : Base
  pub generation : ℕ
  pub clean : Names
  pub dirty : Marks
  pub room : ℕ
  pub places : ℕ

-- the names of the base: none where no object counts, otherwise those of the object
abbrev pub names_below : Base → Names → Names
names_below Fresh names = map.empty
names_below (Stored version) names = names

-- the shown fragment: the names of the base, with the dirty ones replaced or gone
abbrev pub shown_over : Base → Names → Marks → Names
shown_over base names dirty = patched (names_below base names) dirty

-- what a cached fragment shows, over the names that were fetched
abbrev pub shown_names : Cached → Names
shown_names f = shown_over f.base f.clean f.dirty

-- a fragment is clean if its object counts and no name is dirty
abbrev pub is_clean_over : Base → Marks → Bool
is_clean_over base dirty = not (is_fresh base) && (map.len dirty == 0)

abbrev pub is_clean : Cached → Bool
is_clean f = is_clean_over f.base f.dirty

-- a name that is shown is a valid one, and a record allows its inode
pub record IsEntry (name : List ℕ) (inode : Inode) : Type 0 where
  pub named : IsName name
  pub recorded : HasRecord inode

abbrev pub AreEntries : Names → Type 0
AreEntries names = (name : List ℕ) (inode : Inode) → map.get names name ≡ Some inode → IsEntry name inode

-- nothing was fetched where no object counts
abbrev pub IsBased : Base → Names → Type 0
IsBased Fresh clean = clean ≡ map.empty
IsBased (Stored version) clean = Unit {0}

-- a fragment after a change of one name: the name is dirty
abbrev pub marked : Cached → List ℕ → Mark → Cached
marked f name mark = record f { dirty = map.insert f.dirty name mark; room = f.room - 1 }

-- a fragment that a rank took over from another
abbrev pub imported : Cached → Cached
imported f = record f { generation = 0 }

-- what a commit's job takes of a fragment
abbrev pub snapshot_of : Cached → Snap
snapshot_of f = record { base = f.base; names = f.dirty; counts = counts_of (shown_names f) }

-- whether the last change of a name is the one that a snapshot has
abbrev pub is_settled : Option Mark → Option Mark → Bool
is_settled (Some mark) (Some then) = mark.version == then.version
is_settled (Some mark) None = false
is_settled None then = false

-- the names that are dirty once a snapshot with these names is committed: those that changed since
unfoldable pub unsettled : Marks → Marks → Marks
unsettled dirty snap = map.retain_keys dirty (λ name. not (is_settled (map.get dirty name) (map.get snap name)))
