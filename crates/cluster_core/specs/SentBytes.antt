-- The bytes that exports sent, kept until they are imported.
use Rattle.std.specs.Prelude.{◌≡◌, ℕ, List, [], Option, Some, None}
use Rattle.std.specs.FinMap as map
use Rattle.mds_types.specs.Leaf.{Leaf, leaf_cmp}

-- the bytes of each export under its root, and the number of exports whose bytes fit without taking memory
pub record SentBytes : Type 0 where
  pub bytes : map.FinMap leaf_cmp (List ℕ)
  pub room : ℕ

-- no bytes of any export
abbrev pub none_sent : SentBytes
none_sent = record { bytes = map.empty; room = 0 }

-- the bytes kept under a root are removed and handed out with the root
abbrev pub HandsOut : (old new : map.FinMap leaf_cmp (List ℕ)) → Leaf × List ℕ → Type 0
HandsOut old new out = (map.get old out.0 ≡ Some out.1) × (new ≡ map.remove old out.0)

-- the bytes that are kept, or no bytes
abbrev pub bytes_or_none : Option (List ℕ) → List ℕ
bytes_or_none None = []
bytes_or_none (Some bytes) = bytes

-- the bytes that the importer of an export is given
abbrev pub bytes_for : SentBytes → Leaf → List ℕ
bytes_for sent root = bytes_or_none (map.get sent.bytes root)
