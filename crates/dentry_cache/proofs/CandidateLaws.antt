-- What is a candidate, and what one leaf's new size makes of the others.
use Rattle.dentry_cache.proofs.Common.{Bool, Fragment, IsFragment, IsLargeIn, IsResized, IsSmallIn, IsSome, None, Option, Sizes, Some, SomeIff, and_from, and_parts, ap, are_few, arith, both, cases_lt, child, child_of, cond, div-add-mod, entries_of_children, false, false_from_ne_true, inl, inr, is_few, is_large, leaf_or_apart, mod-mul-add, mul-le-mul_right, nat_le, nat_lt, nat_tests, one_leaf, pow_pos, refl, same_leaf, span, span-split, subst, suc, sym, together, true, unwrap_or, zero, ℕ, ◌%◌, ◌*◌, ◌+◌, ◌-◌, ◌/◌, ◌<◌, ◌∙◌, ◌≡◌, ◌≢◌, ◌≤◌, ◌⊎◌}
use Rattle.mds_types.specs.Leaf.{Leaf, leaf_is}

-- ---- large leaves

pub large_from : (sizes : Sizes) (leaf : Leaf) → is_large leaf (sizes leaf) ≡ true → IsLargeIn sizes leaf
large_from sizes leaf is = go (sizes leaf) refl is
  where
    go : (o : Option ℕ) → sizes leaf ≡ o → is_large leaf o ≡ true → IsLargeIn sizes leaf
    go None e is = let clash : false ≡ true = is in absurd cc
    go (Some n) e is =
        let parts = and_parts (nat_le leaf.1.bits 21) (nat_lt 10000 n) is in
        record { entries = n; cached = e; many = grind (arith, nat_tests, parts.1); bits = grind (arith, nat_tests, parts.0) }

pub large_to : (sizes : Sizes) (leaf : Leaf) → IsLargeIn sizes leaf → is_large leaf (sizes leaf) ≡ true
large_to sizes leaf is =
    ap (is_large leaf) is.cached ∙ and_from (nat_le leaf.1.bits 21) (nat_lt 10000 is.entries) (grind (arith, nat_tests, is.bits)) (grind (arith, nat_tests, is.many))

-- ---- eight children

-- what is told of the first children holds of each of them
record IsPart (sizes : Sizes) (whole : Leaf) (i total : ℕ) : Type 0 where
  entries : ℕ
  cached : sizes (child whole i) ≡ Some entries
  among : entries ≤ total

both_some : (a b : Option ℕ) (m : ℕ) → both a b ≡ Some m → (n : ℕ) × (k : ℕ) × (a ≡ Some n) × (b ≡ Some k) × (m ≡ n + k)
both_some None b m is = let clash : None ≡ Some m = is in absurd cc
both_some (Some n) None m is = let clash : None ≡ Some m = is in absurd cc
both_some (Some n) (Some k) m is = (n, k, refl, refl, let e : m ≡ n + k = cc in e)

part_of : (sizes : Sizes) (whole : Leaf) (n m i : ℕ) → together sizes whole n ≡ Some m → i < n → IsPart sizes whole i m
part_of sizes whole zero m i is lt = absurd (omega (arith, lt))
part_of sizes whole (suc n) m i is lt = go (λ k. part_of sizes whole n k i) (both_some (sizes (child whole n)) (together sizes whole n) m is) (last i n lt)
  where
    last : (i n : ℕ) → i < suc n → (i ≡ n) ⊎ (i < n)
    last i n less = elim (cases_lt i n) [
      | inl lt ↦ inr lt
      | inr le ↦ inl (omega (arith, less, le))
    ]

    go : ((k : ℕ) → together sizes whole n ≡ Some k → i < n → IsPart sizes whole i k) → (a : ℕ) × (k : ℕ) × (sizes (child whole n) ≡ Some a) × (together sizes whole n ≡ Some k) × (m ≡ a + k) → (i ≡ n) ⊎ (i < n) → IsPart sizes whole i m
    go rest (a, k, here, is, sum) (inl e) = record { entries = a; cached = ap (λ j. sizes (child whole j)) e ∙ here; among = omega (arith, sum) }
    go rest (a, k, here, is, sum) (inr less) =
        let p = rest k is less in
        record { entries = p.entries; cached = p.cached; among = omega (arith, sum, p.among) }

few_total : (o : Option ℕ) → is_few o ≡ true → (m : ℕ) × (o ≡ Some m) × (m < 50)
few_total None is = let clash : false ≡ true = is in absurd cc
few_total (Some m) is = (m, refl, grind (arith, nat_tests, is))

-- each of eight that are few together has few
pub few_each : (sizes : Sizes) (whole : Leaf) (i : ℕ) → i < 8 → are_few sizes whole ≡ true → is_few (sizes (child whole i)) ≡ true
few_each sizes whole i lt is =
    let t = few_total (together sizes whole 8) is in
    let p = part_of sizes whole 8 t.0 i t.1 lt in
    let less : nat_lt p.entries 50 ≡ true = grind (arith, nat_tests, p.among, t.2) in
    ap is_few p.cached ∙ less

-- a leaf that has few entries is cached
pub few_there : (o : Option ℕ) → is_few o ≡ true → IsSome o
few_there None is = is
few_there (Some n) is = refl

entries_are : (sizes : Sizes) (whole : Leaf) (n m : ℕ) → together sizes whole n ≡ Some m → entries_of_children sizes whole n ≡ m
entries_are sizes whole zero m is = let e : 0 ≡ m = cc in e
entries_are sizes whole (suc n) m is = go (entries_are sizes whole n) (both_some (sizes (child whole n)) (together sizes whole n) m is)
  where
    go : ((k : ℕ) → together sizes whole n ≡ Some k → entries_of_children sizes whole n ≡ k) → (a : ℕ) × (k : ℕ) × (sizes (child whole n) ≡ Some a) × (together sizes whole n ≡ Some k) × (m ≡ a + k) → unwrap_or (sizes (child whole n)) 0 + entries_of_children sizes whole n ≡ m
    go before (a, k, here, rest, sum) =
        let first : unwrap_or (sizes (child whole n)) 0 ≡ a = ap (λ o. unwrap_or o 0) here in
        omega (arith, first, sum, before k rest)

together_is : (sizes : Sizes) (whole : Leaf) (n : ℕ) → ((i : ℕ) → i < n → IsSome (sizes (child whole i))) → together sizes whole n ≡ Some (entries_of_children sizes whole n)
together_is sizes whole zero each = refl
together_is sizes whole (suc n) each = go (sizes (child whole n)) (each n (omega arith)) (together_is sizes whole n (λ i lt. each i (omega (arith, lt))))
  where
    go : (o : Option ℕ) → IsSome o → together sizes whole n ≡ Some (entries_of_children sizes whole n) → both o (together sizes whole n) ≡ Some (unwrap_or o 0 + entries_of_children sizes whole n)
    go None some rest = let clash : false ≡ true = some in absurd cc
    go (Some a) some rest = ap (both (Some a)) rest

pub small_from : (sizes : Sizes) (whole : Leaf) → IsFragment whole.1 → are_few sizes whole ≡ true → IsSmallIn sizes whole
small_from sizes whole fragment is =
    let t = few_total (together sizes whole 8) is in
    let total = entries_are sizes whole 8 t.0 t.1 in
    record { fragment = fragment; cached = λ i lt. few_there (sizes (child whole i)) (few_each sizes whole i lt is); few = omega (arith, total, t.2) }

pub small_to : (sizes : Sizes) (whole : Leaf) → IsSmallIn sizes whole → are_few sizes whole ≡ true
small_to sizes whole is =
    let less : nat_lt (entries_of_children sizes whole 8) 50 ≡ true = grind (arith, nat_tests, is.few) in
    ap is_few (together_is sizes whole 8 is.cached) ∙ less

-- the loop over eight children: what is missing, or too many, stays so
none_stays : (sizes : Sizes) (whole : Leaf) (n m : ℕ) → n ≤ m → is_few (together sizes whole n) ≡ false → is_few (together sizes whole m) ≡ false
none_stays sizes whole n zero le none = let same : 0 ≡ n = omega (arith, le) in ap (λ k. is_few (together sizes whole k)) same ∙ none
none_stays sizes whole n (suc m) le none = go (cases_lt m n) (λ less. none_stays sizes whole n m less none)
  where
    more : (a b : Option ℕ) → is_few b ≡ false → is_few (both a b) ≡ false
    more None b none = refl
    more (Some a) None none = refl
    more (Some a) (Some k) none = grind (arith, nat_tests, none)

    go : (m < n) ⊎ (n ≤ m) → (n ≤ m → is_few (together sizes whole m) ≡ false) → is_few (together sizes whole (suc m)) ≡ false
    go (inl less) rest = let same : suc m ≡ n = omega (arith, less, le) in ap (λ k. is_few (together sizes whole k)) same ∙ none
    go (inr below) rest = more (sizes (child whole m)) (together sizes whole m) (rest below)

pub ends_false : (sizes : Sizes) (whole : Leaf) (n : ℕ) → n ≤ 8 → is_few (together sizes whole n) ≡ false → false ≡ are_few sizes whole
ends_false sizes whole n le none = sym (none_stays sizes whole n 8 le none)

pub one_more : (sizes : Sizes) (whole : Leaf) (i n total entries now : ℕ) → n ≡ suc i → now ≡ entries + total → together sizes whole i ≡ Some total → sizes (child whole i) ≡ Some entries → together sizes whole n ≡ Some now
one_more sizes whole i n total entries now next sum before here =
    ap (together sizes whole) next ∙ ap (λ o. both o (together sizes whole i)) here ∙ ap (both (Some entries)) before ∙ ap (λ (k : ℕ). Some k) (sym sum)

pub none_more : (sizes : Sizes) (whole : Leaf) (i : ℕ) → i < 8 → sizes (child whole i) ≡ None → false ≡ are_few sizes whole
none_more sizes whole i lt here = ends_false sizes whole (suc i) (omega (arith, lt)) (ap (λ o. is_few (both o (together sizes whole i))) here)

pub many_more : (sizes : Sizes) (whole : Leaf) (i total entries : ℕ) → i < 8 → together sizes whole i ≡ Some total → sizes (child whole i) ≡ Some entries → 50 ≤ entries + total → false ≡ are_few sizes whole
many_more sizes whole i total entries lt before here many =
    let not_less : nat_lt (entries + total) 50 ≡ false = grind (arith, nat_tests, many) in
    ends_false sizes whole (suc i) (omega (arith, lt)) (ap is_few (one_more sizes whole i (suc i) total entries (entries + total) refl refl before here) ∙ not_less)

-- ---- the fragment of which a leaf is one of eight children

whole_value : (v i t n : ℕ) → v % (8 * t) ≡ 0 → i < 8 → 0 < t → n ≡ v + i * t → n - n % (8 * t) ≡ v
whole_value v i t n whole few some is =
    let q = v / (8 * t) in
    let v_is : v ≡ q * (8 * t) = omega (arith, div-add-mod v (8 * t), whole) in
    let less : i * t < 8 * t = part i few in
    let left : n % (8 * t) ≡ i * t = ap (λ m. m % (8 * t)) (is ∙ ap (λ m. m + i * t) v_is) ∙ mod-mul-add q (8 * t) (i * t) less in
    omega (arith, is, left)
  where
    part : (i : ℕ) → i < 8 → i * t < 8 * t
    part i lt =
        let steps : (i + 1) * t ≤ 8 * t = mul-le-mul_right t (omega (arith, lt)) in
        omega (arith, steps, some)

abbrev pub whole_frag : Fragment → Fragment
whole_frag f = record { bits = f.bits - 3; value = f.value - f.value % span (f.bits - 3) }

pub whole_is : (w f : Fragment) (i : ℕ) → IsFragment w → i < 8 → f.bits ≤ 24 → child_of w i 3 ≡ f → w ≡ whole_frag f
whole_is w f i fragment few low is =
    let bits : w.bits + 3 ≡ f.bits = ap (λ (g : Fragment). g.bits) is in
    let value : w.value + i * span (w.bits + 3) ≡ f.value = ap (λ (g : Fragment). g.value) is in
    let t = span (w.bits + 3) in
    let size : span w.bits ≡ 8 * t = span-split w.bits 3 (omega (arith, bits, low)) in
    let justified : w.value % (8 * t) ≡ 0 = ap (λ s. w.value % s) (sym size) ∙ fragment.justified in
    let at : w.bits ≡ f.bits - 3 = omega (arith, bits) in
    let core : f.value - f.value % (8 * t) ≡ w.value = whole_value w.value i t f.value justified few (pow_pos (24 - (w.bits + 3))) (sym value) in
    let here : w.value ≡ f.value - f.value % span (f.bits - 3) = sym core ∙ ap (λ s. f.value - f.value % s) (sym size ∙ ap span at) in
    λ i. record { bits = at i; value = here i }

pub whole_leaf : (q leaf : Leaf) (i : ℕ) → IsFragment q.1 → i < 8 → leaf.1.bits ≤ 24 → child q i ≡ leaf → q ≡ (leaf.0, whole_frag leaf.1)
whole_leaf q leaf i fragment few low is =
    let frag = whole_is q.1 leaf.1 i fragment few low (ap (λ (l : Leaf). l.1) is) in
    let dir : q.0 ≡ leaf.0 = ap (λ (l : Leaf). l.0) is in
    λ i. (dir i, frag i)

-- a fragment of three bits less that is found so
pub found_whole : (frag made : Fragment) (r : Option Fragment) → SomeIff r (IsFragment made) made → frag.bits ≤ 24 → made.bits ≡ frag.bits - 3 → made.value ≡ frag.value - frag.value % span (frag.bits - 3)
    → (whole : Fragment) (i : ℕ) → IsFragment whole → i < 8 → child_of whole i 3 ≡ frag → r ≡ Some whole
found_whole frag made r found low bits value whole i fragment few is =
    let one : made ≡ whole_frag frag = λ j. record { bits = bits j; value = value j } in
    let same : whole ≡ made = whole_is whole frag i fragment few low is ∙ sym one in
    some_of r found (subst IsFragment same fragment) ∙ ap (λ (f : Fragment). Some f) (sym same)
  where
    some_of : (r : Option Fragment) → SomeIff r (IsFragment made) made → IsFragment made → r ≡ Some made
    some_of None none is = absurd (none is)
    some_of (Some f) some is = ap (λ (g : Fragment). Some g) some.1

-- a leaf is one of so many children of a fragment, or none of them
pub child_or_none : (q leaf : Leaf) (n : ℕ) → ((i : ℕ) × (i < n) × (child q i ≡ leaf)) ⊎ ((i : ℕ) → i < n → child q i ≢ leaf)
child_or_none q leaf zero = inr (λ i lt is. absurd (omega (arith, lt)))
child_or_none q leaf (suc n) = go (child_or_none q leaf n) (leaf_or_apart (child q n) leaf)
  where
    go : ((i : ℕ) × (i < n) × (child q i ≡ leaf)) ⊎ ((i : ℕ) → i < n → child q i ≢ leaf) → (child q n ≡ leaf) ⊎ (leaf_is (child q n) leaf ≡ false) → ((i : ℕ) × (i < suc n) × (child q i ≡ leaf)) ⊎ ((i : ℕ) → i < suc n → child q i ≢ leaf)
    go (inl (i, lt, is)) here = inl (i, omega (arith, lt), is)
    go (inr none) (inl is) = inl (n, omega arith, is)
    go (inr none) (inr apart) = inr (λ i lt is. last i lt is)
      where
        at_end : (i : ℕ) → (i < n → ⊥) → i < suc n → i ≡ n
        at_end i not lt = omega (arith, not, lt)

        last : (i : ℕ) → i < suc n → child q i ≡ leaf → ⊥
        last i lt is =
            let e : i ≡ n = at_end i (λ less. none i less is) lt in
            let clash : true ≡ false = sym (same_leaf (child q n) leaf (ap (child q) (sym e) ∙ is)) ∙ apart in
            cc

-- ---- one leaf has another size

module _ (leaf : Leaf) (was now : Option ℕ) (old new : Sizes) (r : IsResized leaf was now old new) where
  not_leaf : (q : Leaf) → q ≢ leaf → leaf_is leaf q ≡ false
  not_leaf q apart = false_from_ne_true _ (λ same. apart (sym (one_leaf leaf q same)))

  -- it is counted anew, and every other leaf is what it was
  pub large_now : (before after : Leaf → Bool) → ((q : Leaf) → before q ≡ is_large q (old q)) → ((q : Leaf) → after q ≡ cond (leaf_is leaf q) (is_large leaf now) (before q)) → (q : Leaf) → after q ≡ is_large q (new q)
  large_now before after was_so each q = each q ∙ go (leaf_is leaf q) refl
    where
      go : (b : Bool) → leaf_is leaf q ≡ b → cond b (is_large leaf now) (before q) ≡ is_large q (new q)
      go true same = ap (is_large leaf) (sym r.after) ∙ ap (λ (l : Leaf). is_large l (new l)) (one_leaf leaf q same)
      go false apart = was_so q ∙ ap (is_large q) (sym (r.others q apart))

  together_same : (q : Leaf) (n : ℕ) → ((i : ℕ) → i < n → child q i ≢ leaf) → together new q n ≡ together old q n
  together_same q zero none = refl
  together_same q (suc n) none =
      ap (λ o. both o (together new q n)) (r.others (child q n) (not_leaf (child q n) (none n (omega arith))))
      ∙ ap (both (old (child q n))) (together_same q n (λ i lt. none i (omega (arith, lt))))

  -- a fragment of which it is no child has what it had
  pub beside : (q : Leaf) → ((i : ℕ) → i < 8 → child q i ≢ leaf) → are_few new q ≡ are_few old q
  beside q none = ap is_few (together_same q 8 none)

  -- where it neither had few entries nor has, none changes
  pub none_changes : is_few was ≡ false → is_few now ≡ false → (q : Leaf) → are_few new q ≡ are_few old q
  none_changes before after q = go (child_or_none q leaf 8)
    where
      not_few : (sizes : Sizes) (i : ℕ) → i < 8 → is_few (sizes (child q i)) ≡ false → are_few sizes q ≡ false
      not_few sizes i lt none = false_from_ne_true _ (λ is. let clash : true ≡ false = sym (few_each sizes q i lt is) ∙ none in cc)

      go : ((i : ℕ) × (i < 8) × (child q i ≡ leaf)) ⊎ ((i : ℕ) → i < 8 → child q i ≢ leaf) → are_few new q ≡ are_few old q
      go (inl (i, lt, is)) =
          not_few new i lt (ap is_few (ap new is ∙ r.after) ∙ after)
          ∙ sym (not_few old i lt (ap is_few (ap old is ∙ r.before) ∙ before))
      go (inr none) = beside q none

  -- a fragment that is small now and wasn't has it as a child
  pub newly_few : (q : Leaf) → are_few new q ≡ true → are_few old q ≡ false → (i : ℕ) × (i < 8) × (child q i ≡ leaf)
  newly_few q is wasnt = go (child_or_none q leaf 8)
    where
      go : ((i : ℕ) × (i < 8) × (child q i ≡ leaf)) ⊎ ((i : ℕ) → i < 8 → child q i ≢ leaf) → (i : ℕ) × (i < 8) × (child q i ≡ leaf)
      go (inl found) = found
      go (inr none) = let clash : true ≡ false = sym is ∙ beside q none ∙ wasnt in absurd cc
