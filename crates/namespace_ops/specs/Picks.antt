-- The leaf that a hash picks, found from the front.
use Rattle.std.specs.Prelude.{ℕ, ◌/◌, ◌%◌, ◌^◌, Bool, cond, ◌==◌, List, [], ◌∷◌}
use Rattle.mds_types.specs.Frag.{Fragment, root_fragment, span}

-- whether a hash is in a fragment: its low 24 bits begin as the value does
abbrev pub holds_hash : Fragment → ℕ → Bool
holds_hash f hash = (hash % 2 ^ 24) / span f.bits == f.value / span f.bits

-- the first leaf that contains a hash; `*` where none does, as in no tree of leaves
abbrev pub pick_of : List Fragment → ℕ → Fragment
pick_of [] hash = root_fragment
pick_of (f ∷ fs) hash = cond (holds_hash f hash) f (pick_of fs hash)
