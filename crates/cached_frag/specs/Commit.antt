-- The write that a commit makes of a snapshot, and what makes it right.
use Rattle.std.specs.Prelude.{◌≡◌, ℕ, List, [], ◌∷◌, Option, Some, None}
use Rattle.std.specs.FinMap as map
use Rattle.mds_types.specs.declared.inodes.Inode.{Inode}
use Rattle.objstore.specs.declared.write_ops.WriteOp.{WriteOp}
use Rattle.objstore.specs.EntryKeys.{entry_key}
use Rattle.objstore.specs.Omap.{Omap, PairMap, Keys}
use Rattle.objstore.specs.Writes.{applied}
use Rattle.dirfrag_codec.specs.declared.headers.FragHeader.{FragHeader}
use Rattle.dirfrag_codec.specs.EntryRecord.{entry_bytes}
use Rattle.dirfrag_codec.specs.FragHeader.{header_bytes}
use Rattle.dirfrag_codec.specs.FragmentObject.{Names, SpellsFragment}
use Rattle.cached_frag.specs.declared.bases.Base.{Base}
use Rattle.cached_frag.specs.declared.bases.Base.TheVariants.{Fresh, Stored}
use Rattle.cached_frag.specs.declared.jobs.Job.{Job}
use Rattle.cached_frag.specs.declared.marks.Mark.{Mark}
use Rattle.cached_frag.specs.Marks.{Marks, patched}
use Rattle.cached_frag.specs.Snap.{Snap, IsSnap, counts_of, is_fresh, next_version}

-- a present name's record goes under its key
abbrev pub with_record : PairMap → List ℕ → Option Inode → PairMap
with_record set name (Some inode) = map.insert set (entry_key name) (entry_bytes inode)
with_record set name None = set

abbrev pub with_records : PairMap → List (List ℕ × Mark) → PairMap
with_records set [] = set
with_records set (e ∷ es) = with_records (with_record set e.0 e.1.inode) es

-- the records of the present names under their keys
unfoldable pub set_of : Marks → PairMap
set_of marks = with_records map.empty (map.entries marks)

-- a removed name's key goes
abbrev pub with_key : Keys → List ℕ → Option Inode → Keys
with_key keys name (Some inode) = keys
with_key keys name None = map.insert keys (entry_key name) tt

abbrev pub keys_after_marks : Keys → List (List ℕ × Mark) → Keys
keys_after_marks keys [] = keys
keys_after_marks keys (e ∷ es) = keys_after_marks (with_key keys e.0 e.1.inode) es

-- the keys of the removed names
unfoldable pub gone_of : Marks → Keys
gone_of marks = keys_after_marks map.empty (map.entries marks)

-- the keys that a commit removes: none where the object is cleared
abbrev pub removed_on : Base → Marks → Keys
removed_on Fresh marks = map.empty
removed_on (Stored version) marks = gone_of marks

-- the header that a commit writes
abbrev pub header_of_commit : Snap → FragHeader
header_of_commit snap = record { version = next_version snap.base; files = snap.counts.files; dirs = snap.counts.dirs }

-- the write of a snapshot: on an object that counts, the header, a set of the dirty present names and a removal of the
-- dirty removed ones; on any other a clear, the header and the sets
abbrev pub write_of : Snap → WriteOp
write_of snap = record {
  clear = is_fresh snap.base;
  header = Some (header_bytes (header_of_commit snap));
  set =
      set_of snap.names;
  remove = removed_on snap.base snap.names;
}

-- a job and the write of its snapshot
pub record Carried : Type 0 where
  pub job : Job
  pub op : WriteOp

abbrev pub carried : Job → Carried
carried job = record { job = job; op = write_of job.snapshot }

-- the object and the names that the snapshot was taken over: for a stored base the object spells the names at the
-- base's version, and the snapshot counts what it shows over them; where no object counts there are no names below
abbrev pub IsOver : Base → Snap → Omap → Names → Type 0
IsOver Fresh snap object names = names ≡ map.empty
IsOver (Stored version) snap object names =
    SpellsFragment object version names × (snap.counts ≡ counts_of (patched names snap.names))

-- a commit is right: the object that it leaves spells what the snapshot shows, one version higher
abbrev pub CommitIsRight : Type 0
CommitIsRight = (snap : Snap) (object : Omap) (names : Names) → IsSnap snap → IsOver snap.base snap object names
    → SpellsFragment (applied (write_of snap) object) (next_version snap.base) (patched names snap.names)
