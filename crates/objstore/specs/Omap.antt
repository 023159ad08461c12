-- An object as RADOS keeps it: a header and an ordered map from keys to values (its omap), all of them bytes.
use Rattle.std.specs.Prelude.{ℕ, List, [], Option, Bool, filter, take, length, nat_lt, ◌≡◌, suc, ◌++◌, slice_get, Some}
use Rattle.std.specs.declared.cmp.Ordering.{Ordering}
use Rattle.std.specs.Ordering.{nat_cmp}
use Rattle.std.specs.Cmp.Lexicographic.{slice_cmp}
use Rattle.std.specs.FinMap as map
use Rattle.mds_types.specs.Step.{is_after}

-- keys are ordered by their bytes
abbrev pub key_cmp : List ℕ → List ℕ → Ordering
key_cmp = slice_cmp nat_cmp

-- the pairs of keys and values
abbrev pub PairMap : Type 0
PairMap = map.FinMap key_cmp (List ℕ)

-- a set of keys
abbrev pub Keys : Type 0
Keys = map.FinMap key_cmp (Unit {0})

-- what an object is: its header and its pairs
pub record Omap : Type 0 where
  pub header : List ℕ
  pub pairs : PairMap

-- an object with no header's bytes and no pairs
abbrev pub empty_omap : Omap
empty_omap = record { header = []; pairs = map.empty }

-- the pairs whose keys are greater than `after`, in order; all pairs, if none is given
unfoldable pub pairs_after : PairMap → Option (List ℕ) → List (List ℕ × List ℕ)
pairs_after pairs after = filter (λ e. is_after after e.0) (map.entries pairs)

-- some pairs in order, and whether more follow in the object
pub record PairPage : Type 0 where
  pub pairs : List (List ℕ × List ℕ)
  pub more : Bool

-- the first `max` of some pairs
abbrev pub first_page : ℕ → List (List ℕ × List ℕ) → PairPage
first_page max pairs = record { pairs = take max pairs; more = nat_lt max (length pairs) }

-- the page of at most `max` pairs that come next after a key
abbrev pub page_of : PairMap → Option (List ℕ) → ℕ → PairPage
page_of pairs after max = first_page max (pairs_after pairs after)

-- the pairs from the next page on: those after a pair follow it, so a page and what comes after its last pair are the
-- whole
abbrev pub PagesMakeUpWhole : Type 0
PagesMakeUpWhole =
    (pairs : PairMap) (after : Option (List ℕ)) (i : ℕ) (pair : List ℕ × List ℕ)
    → slice_get (pairs_after pairs after) i ≡ Some pair
    → take (suc i) (pairs_after pairs after) ++ pairs_after pairs (Some pair.0) ≡ pairs_after pairs after
