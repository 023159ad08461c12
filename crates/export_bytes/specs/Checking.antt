-- What follows items that rise. Only this crate's own contracts use these words.
use Rattle.std.specs.Prelude.{ℕ, Bool, true, if◌then◌else◌, List, [], Option, Some, None}
use Rattle.mds_types.specs.Frag.{Fragment}
use Rattle.dirfrag_codec.specs.Reading.{◌>>=◌}
use Rattle.cached_frag.specs.declared.bases.Base.TheVariants.{Fresh}
use Rattle.export_bytes.specs.declared.exports.SentFrag.{SentFrag}
use Rattle.export_bytes.specs.Export.{SentName, rise}
use Rattle.export_bytes.specs.Reading.{items_at}

-- what follows so many items that rise after `last`
abbrev pub after_rising : {A : Type 0} → (A → A → Bool) → (List ℕ → Option (A × List ℕ)) → Option A → ℕ → List ℕ
    → Option (List ℕ)
after_rising is_before item_at last n bytes =
    items_at item_at n bytes >>= λ items. if rise is_before last items.0 then Some items.1 else None

-- whether an item comes after the last one, if there was one
abbrev pub follows : {A : Type 0} → (A → A → Bool) → Option A → A → Bool
follows is_before None x = true
follows is_before (Some last) x = is_before last x

-- what was read, seen by a part of it
abbrev pub seen_by : {A P : Type 0} → (A → P) → Option (A × List ℕ) → Option (P × List ℕ)
seen_by part None = None
seen_by part (Some (x, rest)) = Some (part x, rest)

-- the parts that orders ask for: the bytes of a name, the directory and the leaf of a fragment
abbrev pub sent_name_text : SentName → List ℕ
sent_name_text sent = sent.0

abbrev pub place_of : SentFrag → ℕ × Fragment
place_of sent = (sent.ino.0, sent.frag)

-- a name as one that is sent, and a leaf as one without names: what an order of sent names or fragments asks
abbrev pub named_as : List ℕ → SentName
named_as name = (name, None)

abbrev pub sent_as : ℕ × Fragment → SentFrag
sent_as place = record { ino = record { 0 = place.0 }; frag = place.1; base = Fresh; names = [] }
