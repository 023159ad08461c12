-- The rows of leaves: which directories have one, and what a change leaves of them.
use Rattle.mdcache.proofs.Common.{Covers, Fragment, Homes, IsTable, List, ap, inl, inr, is_known, is_some, leaves_of, length, rules, same_or_apart, true, ℕ, ◌<◌, ◌∙◌, ◌≡◌, ◌⊎◌}
use Rattle.std.specs.FinMap as map
use Rattle.sorted_map.proofs.NatKeys.{get_beside, get_left, get_put}

-- a directory of several leaves has a row
pub several_in_row : (covers : Covers) (d : ℕ) → 1 < length (leaves_of covers d) → is_some (map.get covers d) ≡ true
several_in_row covers d = search rules

-- what has a row is a directory
pub known_by_row : (homes : Homes) (covers : Covers) → IsTable homes covers
    → (d : ℕ) → is_some (map.get covers d) ≡ true → is_known homes d ≡ true
known_by_row homes covers table d = search rules

-- it keeps it where one is put, and where another's goes
pub row_stays : (covers : Covers) (d : ℕ) (leaves : List Fragment) (x : ℕ) → is_some (map.get covers x) ≡ true
    → is_some (map.get (map.insert covers d leaves) x) ≡ true
row_stays covers d leaves x some = go (same_or_apart x d)
  where
    go : (x ≡ d) ⊎ (x ≡ d → ⊥) → is_some (map.get (map.insert covers d leaves) x) ≡ true
    go (inl same) = ap is_some (ap (map.get (map.insert covers d leaves)) same ∙ get_put covers d leaves)
    go (inr apart) = ap is_some (get_beside covers d leaves x apart) ∙ some

pub row_left : (covers : Covers) (d x : ℕ) → (x ≡ d → ⊥) → is_some (map.get covers x) ≡ true
    → is_some (map.get (map.remove covers d) x) ≡ true
row_left covers d x apart some = ap is_some (get_left covers d x apart) ∙ some
