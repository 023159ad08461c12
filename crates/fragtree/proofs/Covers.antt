-- The leaves of a tree are exactly the fragments by ascending value that cover the hashes.
use Rattle.fragtree.proofs.Common.{Contains, Contains-get_or, Fragment, IsAscendingCover, IsFragment, IsTree, List, Tiles, [], arith, cases_lt, inl, inr, length, mod-eq_of_lt, root_fragment, span, suc, zero, ℕ, ◌%◌, ◌+◌, ◌<◌, ◌^◌, ◌↔◌, ◌∷◌, ◌≡◌, ◌≤◌}
use Rattle.fragtree.proofs.Ranges.{span_pos, ends_low, range_from_Contains, Contains-from_range}
use Rattle.fragtree.proofs.Tilings.{IsPlace, between, covers, in_order, leaf_at}

-- leaves that are still to come from low on: by ascending value, none over another, with each hash from low on in one
record Covers (low : ℕ) (xs : List Fragment) : Type 0 where
  fragments : (i : ℕ) → i < length xs → IsFragment (leaf_at xs i)
  apart : (i j : ℕ) → i < j → j < length xs → (leaf_at xs i).value + span (leaf_at xs i).bits ≤ (leaf_at xs j).value
  above : (i : ℕ) → i < length xs → low ≤ (leaf_at xs i).value
  some : (h : ℕ) → low ≤ h → h < 2 ^ 24 → (k : ℕ) × IsPlace xs h k

module _ (f : Fragment) (fs : List Fragment) (low : ℕ) (c : Covers low (f ∷ fs)) where
  begins_by : (k : ℕ) → IsPlace (f ∷ fs) low k → f.value ≡ low
  begins_by zero p = omega (arith, c.above 0 p.stands, p.begins)
  begins_by (suc k) p = omega (arith, c.above 0 (omega arith), c.apart 0 (suc k) (omega arith) p.stands, p.begins)

  begins : f.value ≡ low
  begins = let w = c.some low (omega arith) (omega (arith, c.above 0 (omega arith), (c.fragments 0 (omega arith)).in_range)) in begins_by w.0 w.1

  -- a hash behind the first leaf is in a later one
  behind : (h k : ℕ) → low + span f.bits ≤ h → IsPlace (f ∷ fs) h k → (j : ℕ) × IsPlace fs h j
  behind h zero from p = absurd (omega (arith, p.ends, begins))
  behind h (suc k) from p = (k, record { stands = omega (arith, p.stands); begins = p.begins; ends = p.ends })

  others : Covers (low + span f.bits) fs
  others = record {
    fragments = λ i stands. c.fragments (suc i) (omega (arith, stands));
    apart = λ i j less stands. c.apart (suc i) (suc j) (omega arith) (omega (arith, stands));
    above = λ i stands. omega (arith, c.apart 0 (suc i) (omega arith) (omega (arith, stands)), begins);
    some = λ h from under. let w = c.some h (omega arith) under in behind h w.0 from w.1;
  }

tiles_from : (xs : List Fragment) (low : ℕ) → low ≤ 2 ^ 24 → Covers low xs → Tiles low (2 ^ 24) xs
tiles_from [] low le c =
    elim (cases_lt low (2 ^ 24)) [ inl under ↦ absurd (omega (arith, (c.some low (omega arith) under).1.stands)) | inr high ↦ omega arith ]
tiles_from (f ∷ fs) low le c =
    let whole = c.fragments 0 (omega arith) in
    (whole, begins f fs low c, tiles_from fs (low + span f.bits) (omega (arith, ends_low f whole, begins f fs low c)) (others f fs low c))

module _ (xs : List Fragment) (c : IsAscendingCover xs) where
  fragment : (i : ℕ) → i < length xs → IsFragment (leaf_at xs i)
  fragment i stands = c.fragments (leaf_at xs i) (Contains-get_or xs i root_fragment stands)

  contains : (h i : ℕ) → h < 2 ^ 24 → IsPlace xs h i → Contains (leaf_at xs i) h
  contains h i under p =
      let same : h % 2 ^ 24 ≡ h = mod-eq_of_lt under in
      Contains-from_range (leaf_at xs i) h (fragment i p.stands) (omega (arith, p.begins, same)) (omega (arith, p.ends, same))

  -- of two leaves the second doesn't begin in the first: its first hash would be in both
  apart : (i j : ℕ) → i < j → j < length xs → (leaf_at xs i).value + span (leaf_at xs i).bits ≤ (leaf_at xs j).value
  apart i j less stands = elim (cases_lt (leaf_at xs j).value ((leaf_at xs i).value + span (leaf_at xs i).bits)) [
    | inr behind ↦ behind
    | inl within ↦
        let h = (leaf_at xs j).value in
        let under = (fragment j stands).in_range in
        let w = c.cover h under in
        let one = w.alone i (omega arith) (contains h i under (record { stands = omega arith; begins = omega (arith, c.ascending i j less stands); ends = within })) in
        let two = w.alone j stands (contains h j under (record { stands = stands; begins = omega arith; ends = omega (arith, span_pos (leaf_at xs j).bits) })) in
        absurd (omega (arith, one, two))
  ]

  covers_all : Covers 0 xs
  covers_all = record {
    fragments = fragment;
    apart = apart;
    above = λ i stands. omega arith;
    some = λ h from under.
        let w = c.cover h under in
        let r = range_from_Contains (leaf_at xs w.place) h (fragment w.place w.stands) w.contains in
        let same : h % 2 ^ 24 ≡ h = mod-eq_of_lt under in
        (w.place, record { stands = w.stands; begins = omega (arith, r.0, same); ends = omega (arith, r.1, same) });
  }

pub tree_iff : (xs : List Fragment) → IsTree xs ↔ IsAscendingCover xs
tree_iff xs = (
  λ tree. record {
    fragments = λ leaf stands. (between 0 (2 ^ 24) xs leaf tree.tiles stands).0;
    ascending = λ i j less stands. omega (arith, in_order 0 (2 ^ 24) xs i j tree.tiles less stands, span_pos (leaf_at xs i).bits);
    cover = covers xs tree.tiles;
    few = tree.few;
  },
  λ c. record { tiles = tiles_from xs 0 (omega arith) (covers_all xs c); few = c.few },
)
