-- What a contract sees of a sorted map.
use Rattle.std.specs.Prelude.{◌≡◌, ℕ, ◌-◌, Bool, Decides, ◌&&◌, List, Option, slice_get, refl}
use Rattle.std.specs.declared.cmp.Ordering.{Ordering}
use Rattle.std.specs.Ordering.{is_lt, is_le}
use Rattle.std.specs.List.{filter, AllZip}
use Rattle.std.specs.Coded.{Coded, code_by, coded×, coded_list, coded_ℕ}
use Rattle.std.specs.FinMap as map

-- the pairs in the order of their keys, and how many insertions still fit with no growth
pub record Shown (K V : Type 0) : Type 0 where
  pub entries : List (K × V)
  pub room : ℕ

module _ {K V : Type 0} where
  abbrev pub shown_code : Coded K → Coded V → Coded (Shown K V)
  shown_code k v =
      code_by (List (K × V)
      × ℕ) (coded× (coded_list (coded× k v)) coded_ℕ) (λ s. (s.entries, s.room)) (λ p. record {
        entries = p.0;
        room =
            p.1;
      }) (λ _. refl)

  -- the pairs as a finite map
  abbrev pub contents : (R : K → K → Ordering) → Shown K V → map.FinMap R V
  contents R s = map.from_sorted s.entries

  -- the pairs whose keys are greater than k
  abbrev pub after : (K → K → Ordering) → K → List (K × V) → List (K × V)
  after R k es = filter (λ e. is_lt (R k e.0)) es

  -- the pair of the least key, and that of the greatest
  abbrev pub first_pair : {R : K → K → Ordering} → map.FinMap R V → Option (K × V)
  first_pair m = slice_get (map.entries m) 0

  abbrev pub last_pair : {R : K → K → Ordering} → map.FinMap R V → Option (K × V)
  last_pair m = slice_get (map.entries m) (map.len m - 1)

  -- new has a clone of each pair of old, and so the same pairs where a clone is the value itself
  pub record IsClone (C : K → K → Type 0) (D : V → V → Type 0) (old new : Shown K V) : Type 0 where
    pub pairs : AllZip (λ p q. C p.0 q.0 × D p.1 q.1) old.entries new.entries
    pub exact : ((x y : K) → C x y → y ≡ x) → ((x y : V) → D x y → y ≡ x) → new.entries ≡ old.entries

  -- whether two pairs are equal
  abbrev pub pairs_eq : (K → K → Bool) → (V → V → Bool) → K × V → K × V → Bool
  pairs_eq E F p q = E p.0 q.0 && F p.1 q.1

-- the pairs of a finite map, with such room
abbrev pub shown_with_room : {K V : Type 0} {R : K → K → Ordering} → map.FinMap R V → ℕ → Shown K V
shown_with_room m room = record { entries = map.entries m; room = room }

-- whether a key is no less than k
abbrev pub is_from : {K : Type 0} → (K → K → Ordering) → K → K → Bool
is_from R k x = is_le (R k x)

-- the test holds of two values just where they are one
abbrev pub TellsApart : {A : Type 0} → (A → A → Bool) → Type 0
TellsApart {A} E = (x y : A) → Decides (E x y) (x ≡ y)
