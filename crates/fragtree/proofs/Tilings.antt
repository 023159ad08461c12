-- Lists of fragments that tile a range of hashes: their parts, the place of a hash, and why each hash is in exactly one.
use Rattle.std.proofs.Common.{◌≡◌, ◌↔◌, ◌⊎◌, inl, inr, ℕ, zero, suc, ◌+◌, ◌%◌, ◌^◌, ◌<◌, ◌≤◌, List, [], ◌∷◌, ◌++◌, length, refl, sym, ap, subst, arith}
use Rattle.std.proofs.lemmas.Bool.{cases_lt}
use Rattle.std.proofs.lemmas.List.Elements.{Contains-append_cases, Contains-append_left, Contains-append_right, Contains-get_or}
use Rattle.std.specs.Prelude.{slice_index_or}
use Rattle.mds_types.specs.Frag.{Fragment, IsFragment, IsCover, IsInExactlyOne, root_fragment, span}
use Rattle.fragtree.specs.FragTree.{Tiles, HasLeaf}
use Rattle.fragtree.proofs.Ranges.{range_from_Contains, Contains-from_range}

-- the leaf at a place
abbrev pub leaf_at : List Fragment → ℕ → Fragment
leaf_at leaves place = slice_index_or leaves place root_fragment

-- the leaf at this place contains the 24-bit hash
pub record IsPlace (leaves : List Fragment) (hash place : ℕ) : Type 0 where
  pub stands : place < length leaves
  pub begins : (leaf_at leaves place).value ≤ hash
  pub ends : hash < (leaf_at leaves place).value + span (leaf_at leaves place).bits

pub first : (f : Fragment) (fs : List Fragment) → HasLeaf (f ∷ fs) f
first f fs = (zero, omega arith, refl)

pub later : (f g : Fragment) (fs : List Fragment) → HasLeaf fs g → HasLeaf (f ∷ fs) g
later f g fs (k, stands, is) = (suc k, omega (arith, stands), is)

pub first_or_later : (f g : Fragment) (fs : List Fragment) → HasLeaf (f ∷ fs) g → (f ≡ g) ⊎ HasLeaf fs g
first_or_later f g fs (zero, stands, is) = inl is
first_or_later f g fs (suc k, stands, is) = inr (k, omega (arith, stands), is)

pub only_leaf : (f g : Fragment) → HasLeaf (f ∷ []) g → g ≡ f
only_leaf f g (zero, stands, is) = sym is
only_leaf f g (suc k, stands, is) = absurd (omega (arith, stands))

pub low_le_high : (low high : ℕ) (xs : List Fragment) → Tiles low high xs → low ≤ high
low_le_high low high [] e = omega (arith, e)
low_le_high low high (f ∷ fs) t = omega (arith, low_le_high (low + span f.bits) high fs t.2)

tiles-append : (low mid high : ℕ) (xs ys : List Fragment) → Tiles low mid xs → Tiles mid high ys → Tiles low high (xs ++ ys)
tiles-append low mid high [] ys e t = subst (λ n. Tiles n high ys) (sym e) t
tiles-append low mid high (f ∷ fs) ys t u = (t.0, t.1, tiles-append (low + span f.bits) mid high fs ys t.2 u)

-- some leaves in a list, and what tiles the hashes before them and after them
pub record Parts (low begins ends high : ℕ) (xs middle : List Fragment) : Type 0 where
  pub front : List Fragment
  pub back : List Fragment
  pub is : xs ≡ front ++ (middle ++ back)
  pub before : Tiles low begins front
  pub after : Tiles ends high back

pub parts : (low high : ℕ) (xs : List Fragment) (f : Fragment) → Tiles low high xs → HasLeaf xs f → IsFragment f × Parts low f.value (f.value + span f.bits) high xs (f ∷ [])
parts low high [] f t (k, stands, is) = absurd (omega (arith, stands))
parts low high (x ∷ xs) f t (zero, stands, is) =
    subst (λ g. IsFragment g × Parts low g.value (g.value + span g.bits) high (x ∷ xs) (g ∷ [])) is
    (t.0, record { front = []; back = xs; is = refl; before = sym t.1; after = subst (λ n. Tiles (n + span x.bits) high xs) (sym t.1) t.2 })
parts low high (x ∷ xs) f t (suc k, stands, is) =
    let (whole, p) = parts (low + span x.bits) high xs f t.2 (k, omega (arith, stands), is) in
    (whole, record { front = x ∷ p.front; back = p.back; is = ap (λ ys. x ∷ ys) p.is; before = (t.0, t.1, p.before); after = p.after })

-- a leaf lies between the ends
pub between : (low high : ℕ) (xs : List Fragment) (g : Fragment) → Tiles low high xs → HasLeaf xs g → IsFragment g × (low ≤ g.value) × (g.value + span g.bits ≤ high)
between low high xs g t stands =
    let (whole, p) = parts low high xs g t stands in
    (whole, low_le_high low g.value p.front p.before, low_le_high (g.value + span g.bits) high p.back p.after)

-- leaves in two parts, up to a hash that none passes over and from it on
pub cut : (low mid high : ℕ) (xs : List Fragment) → Tiles low high xs → low ≤ mid → mid ≤ high → ((g : Fragment) → HasLeaf xs g → g.value < mid → g.value + span g.bits ≤ mid) → Parts low mid mid high xs []
cut low mid high [] t from to apart = record { front = []; back = []; is = refl; before = omega (arith, t); after = omega (arith, t) }
cut low mid high (g ∷ gs) t from to apart = elim (cases_lt low mid) [
  | inl less ↦
      let ends : low + span g.bits ≤ mid = omega (arith, apart g (first g gs) (omega (arith, t.1)), t.1) in
      let c = cut (low + span g.bits) mid high gs t.2 ends to (λ k stands. apart k (later g k gs stands)) in
      record { front = g ∷ c.front; back = c.back; is = ap (λ ys. g ∷ ys) c.is; before = (t.0, t.1, c.before); after = c.after }
  | inr past ↦
      let same : low ≡ mid = omega arith in
      record { front = []; back = g ∷ gs; is = refl; before = same; after = subst (λ n. Tiles n high (g ∷ gs)) same t }
]

-- a leaf further on begins where the one before ends, or later
pub in_order : (low high : ℕ) (xs : List Fragment) (i j : ℕ) → Tiles low high xs → i < j → j < length xs → (leaf_at xs i).value + span (leaf_at xs i).bits ≤ (leaf_at xs j).value
in_order low high [] i j t less h = absurd (omega (arith, h))
in_order low high (f ∷ fs) i zero t less h = absurd (omega arith)
in_order low high (f ∷ fs) zero (suc j) t less h = omega (arith, t.1, (between (low + span f.bits) high fs (leaf_at fs j) t.2 (Contains-get_or fs j root_fragment (omega arith))).1)
in_order low high (f ∷ fs) (suc i) (suc j) t less h = in_order (low + span f.bits) high fs i j t.2 (omega arith) (omega arith)

pub one_place : (low high : ℕ) (xs : List Fragment) (hash i j : ℕ) → Tiles low high xs → IsPlace xs hash i → IsPlace xs hash j → i ≡ j
one_place low high xs hash i j t p q =
    let not_before : i < j → ⊥ = λ less. omega (arith, in_order low high xs i j t less q.stands, p.ends, q.begins) in
    let not_after : j < i → ⊥ = λ less. omega (arith, in_order low high xs j i t less p.stands, q.ends, p.begins) in
    omega arith

pub some_place : (low high : ℕ) (xs : List Fragment) (hash : ℕ) → Tiles low high xs → low ≤ hash → hash < high → (i : ℕ) × IsPlace xs hash i
some_place low high [] hash t from below = absurd (omega (arith, t))
some_place low high (f ∷ fs) hash t from below =
    elim (cases_lt hash (low + span f.bits)) [
      | inl here ↦ (0, record { stands = omega arith; begins = omega (arith, t.1); ends = omega (arith, t.1, here) })
      | inr later ↦
          let w = some_place (low + span f.bits) high fs hash t.2 later below in
          (suc w.0, record { stands = omega (arith, w.1.stands); begins = w.1.begins; ends = w.1.ends })
    ]

-- a hash is in exactly one leaf, at the place of its low 24 bits
module _ (xs : List Fragment) (t : Tiles 0 (2 ^ 24) xs) (hash : ℕ) where
  fragment_at : (i : ℕ) → i < length xs → IsFragment (leaf_at xs i)
  fragment_at i stands = (between 0 (2 ^ 24) xs (leaf_at xs i) t (Contains-get_or xs i root_fragment stands)).0

  pub in_one : IsInExactlyOne xs hash
  in_one =
      let w = some_place 0 (2 ^ 24) xs (hash % 2 ^ 24) t (omega arith) (omega arith) in
      record {
        place = w.0;
        stands = w.1.stands;
        contains = Contains-from_range (leaf_at xs w.0) hash (fragment_at w.0 w.1.stands) w.1.begins w.1.ends;
        alone = λ other stands has.
            let r = range_from_Contains (leaf_at xs other) hash (fragment_at other stands) has in
            one_place 0 (2 ^ 24) xs (hash % 2 ^ 24) other w.0 t (record { stands = stands; begins = r.0; ends = r.1 }) w.1;
      }

pub covers : (xs : List Fragment) → Tiles 0 (2 ^ 24) xs → IsCover xs
covers xs t hash low = in_one xs t hash

-- a leaf stands in one of three parts of the list
in_parts : (xs ys zs : List Fragment) (g : Fragment) → HasLeaf (xs ++ (ys ++ zs)) g → (HasLeaf xs g ⊎ HasLeaf zs g) ⊎ HasLeaf ys g
in_parts xs ys zs g stands = elim (Contains-append_cases xs (ys ++ zs) g stands) [
  | inl here ↦ inl (inl here)
  | inr more ↦ elim (Contains-append_cases ys zs g more) [ inl mid ↦ inr mid | inr last ↦ inl (inr last) ]
]

pub of_parts : (xs ys zs : List Fragment) (g : Fragment) → (HasLeaf xs g ⊎ HasLeaf zs g) ⊎ HasLeaf ys g → HasLeaf (xs ++ (ys ++ zs)) g
of_parts xs ys zs g (inl (inl here)) = Contains-append_left xs (ys ++ zs) g here
of_parts xs ys zs g (inl (inr last)) = Contains-append_right xs (ys ++ zs) g (Contains-append_right ys zs g last)
of_parts xs ys zs g (inr mid) = Contains-append_right xs (ys ++ zs) g (Contains-append_left ys zs g mid)

-- between what tiles the hashes before f and behind it, new leaves that tile f in place of old ones
module _ (f : Fragment) (front old new back : List Fragment) (before : Tiles 0 f.value front) (after : Tiles (f.value + span f.bits) (2 ^ 24) back) where
  pub replaced_tiles : Tiles f.value (f.value + span f.bits) new → Tiles 0 (2 ^ 24) (front ++ (new ++ back))
  replaced_tiles t = tiles-append 0 f.value (2 ^ 24) front (new ++ back) before (tiles-append f.value (f.value + span f.bits) (2 ^ 24) new back t after)

  module _ (Stays Comes : Fragment → Type 0) (beside : (g : Fragment) → (g.value + span g.bits ≤ f.value) ⊎ (f.value + span f.bits ≤ g.value) → Stays g) (gone : (g : Fragment) → HasLeaf old g → Stays g → ⊥) (come : (g : Fragment) → HasLeaf new g ↔ Comes g) where
    stays : (g : Fragment) → HasLeaf front g ⊎ HasLeaf back g → Stays g
    stays g (inl stands) = beside g (inl (between 0 f.value front g before stands).2)
    stays g (inr stands) = beside g (inr (between (f.value + span f.bits) (2 ^ 24) back g after stands).1)

    pub replaced : (g : Fragment) → HasLeaf (front ++ (new ++ back)) g ↔ ((HasLeaf (front ++ (old ++ back)) g × Stays g) ⊎ Comes g)
    replaced g = (
      λ stands. elim (in_parts front new back g stands) [ inl out ↦ inl (of_parts front old back g (inl out), stays g out) | inr here ↦ inr ((come g).0 here) ],
      λ either. elim either [
        | inr comes ↦ of_parts front new back g (inr ((come g).1 comes))
        | inl was ↦ elim (in_parts front old back g was.0) [ inl out ↦ of_parts front new back g (inl out) | inr here ↦ absurd (gone g here was.1) ]
      ],
    )
