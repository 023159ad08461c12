-- What loops over pairs do that put them into a map, or take their keys out of one.
use Rattle.std.proofs.Common.{◌<◌, Bool, true, false, cond, Option, Some, None, is_some, slice_get, length, Less, Equal, is_gt, arith, ◌≡◌, not, T, List, [], ◌∷◌, drop, Ordering, Greater, refl, sym, ap, ◌∙◌}
use Rattle.std.specs.Cmp.{IsTotalOrder}
use Rattle.std.proofs.lemmas.Bool.{false≢true}
use Rattle.std.specs.Ordering.{ordering_reverse, is_le, eq_by_cmp}
use Rattle.std.specs.FinMap as map
use Rattle.std.specs.FinMap.{IsAntisymmetric, entries-insert, entries_sorted, same_entries_map, same_map, get-entries, get-remove, len-entries, len-empty}
use Rattle.std.proofs.lemmas.List.{nil_from_length}
use Rattle.std.proofs.lemmas.Option.{none-some, same_Some}
use Rattle.std.specs.FinMap.Entries.{find, put, where_key, is_sorted, below_all}
use Rattle.sorted_map.proofs.Bools.{left_of, right_of}
use Rattle.sorted_map.specs.Overlay.{starts_below, with_pairs, overlaid, without_keys}
use Rattle.sorted_map.proofs.MapLaws.{get-without_keys, contents-entries}
use Rattle.sorted_map.specs.SortedMap.{is_from}
use Rattle.sorted_map.specs.Places.{puts}
use Rattle.sorted_map.proofs.ContentLaws.{retained}
use Rattle.sorted_map.proofs.PlaceLaws.{less}

module _ {K V : Type 0} {R : K → K → Ordering} (o : IsTotalOrder R) where
  -- a key that is less than all that are put keeps its place at the front
  pub behind : (e : K × V) (es fs : List (K × V)) → T (below_all R e.0 fs) → puts R (e ∷ es) fs ≡ e ∷ puts R es fs
  behind e es [] below = refl
  behind e es (f ∷ fs) below =
      let above : R f.0 e.0 ≡ Greater = o.antisymm f.0 e.0 ∙ ap ordering_reverse (less _ (left_of _ _ below)) in
      rw above (behind e (put R f.0 f.1 es) fs (right_of _ _ below))

  entries_with : (m : map.FinMap R V) (fs : List (K × V)) → map.entries (with_pairs m fs) ≡ puts R (map.entries m) fs
  entries_with m [] = refl
  entries_with m (f ∷ fs) = entries_with (map.insert m f.0 f.1) fs ∙ ap (λ es. puts R es fs) (entries-insert o m f.0 f.1)

module _ {K V W : Type 0} {R : K → K → Ordering} (o : IsTotalOrder R) (exact : IsAntisymmetric R) where
  -- to leave the pairs of the keys of a map out is to take those keys out
  pub taken_out : (gone : map.FinMap R W) (es fs : List (K × V)) → T (is_sorted R es) → fs ≡ where_key R (λ k. not (map.contains_key gone k)) es
      → T (is_sorted R fs) × (map.from_sorted {R = R} fs ≡ without_keys (map.from_sorted es) gone)
  unfolding without_keys
  taken_out gone es fs s e = retained o exact (λ k. not (map.contains_key gone k)) es fs s e

-- a map without so many keys, taken out one after the other
abbrev pub removals : {K V W : Type 0} {R : K → K → Ordering} → map.FinMap R V → List (K × W) → map.FinMap R V
removals m [] = m
removals m (e ∷ es) = removals (map.remove m e.0) es

-- ---- the loops that put and take one pair after the other

-- the first pair and the rest make up a list
pub popped : {A : Type 0} (es fs : List A) (o : Option A) (x : A) → o ≡ Some x → o ≡ slice_get es 0 → fs ≡ drop 1 es → es ≡ x ∷ fs
popped [] fs o x some is rest = absurd (none-some x (sym is ∙ some))
popped (e ∷ es) fs o x some is rest = let same : e ≡ x = same_Some e x (sym is ∙ some) in (λ i. same i ∷ sym rest i)

pub none_left : {A : Type 0} (es : List A) (o : Option A) → o ≡ None → o ≡ slice_get es 0 → es ≡ []
none_left [] o none is = refl
none_left (e ∷ es) o none is = absurd (none-some e (sym none ∙ is))

pub none_entries : {K V : Type 0} {R : K → K → Ordering} (n : map.FinMap R V) → n ≡ map.empty → map.entries n ≡ []
none_entries {K} {V} {R} n e = nil_from_length (map.entries n) (sym (len-entries n) ∙ ap map.len e ∙ len-empty R V)

module _ {K V : Type 0} {R : K → K → Ordering} (o : IsTotalOrder R) where
  puts_none : (es : List (K × V)) → T (is_sorted R es) → puts R [] es ≡ es
  puts_none [] s = refl
  puts_none (e ∷ es) s = behind o e [] es (left_of _ _ s) ∙ ap (λ t. e ∷ t) (puts_none es (right_of _ _ s))

  -- a map laid over the empty one
  pub overlaid_none : (m none : map.FinMap R V) → none ≡ map.empty → overlaid none m ≡ m
  unfolding overlaid
  overlaid_none m none is =
      same_entries_map _ _ (entries_with o none (map.entries m) ∙ ap (λ t. puts R t (map.entries m)) (none_entries none is) ∙ puts_none (map.entries m) (entries_sorted m))

module _ {K V W : Type 0} {R : K → K → Ordering} (o : IsTotalOrder R) where
  one_more : (b : Bool) (w : Option W) (x : W) (v : Option V) → cond (is_some w) None (cond b None v) ≡ cond (is_some (cond b (Some x) w)) None v
  one_more true None x v = refl
  one_more true (Some y) x v = refl
  one_more false None x v = refl
  one_more false (Some y) x v = refl

  get_removals : (m : map.FinMap R V) (es : List (K × W)) (q : K) → map.get (removals m es) q ≡ cond (is_some (find R q es)) None (map.get m q)
  get_removals m [] q = refl
  get_removals m (e ∷ es) q =
      get_removals (map.remove m e.0) es q ∙ ap (cond (is_some (find R q es)) None) (get-remove o m e.0 q) ∙ one_more (eq_by_cmp R q e.0) (find R q es) e.1 (map.get m q)

  pub removals_all : IsAntisymmetric R → (m : map.FinMap R V) (gone : map.FinMap R W) → removals m (map.entries gone) ≡ without_keys m gone
  removals_all exact m gone =
      same_map o exact _ _ (λ q. get_removals m (map.entries gone) q ∙ ap (λ f. cond (is_some f) None (map.get m q)) (sym (get-entries gone q)) ∙ sym (get-without_keys exact m gone q))

module _ {K V : Type 0} {R : K → K → Ordering} (o : IsTotalOrder R) where
  -- pairs that start no lower than k have no key below it
  all_from : (k : K) (es : List (K × V)) → ((x : K) → T (below_all R x es) → is_le (R k x) ≡ true → where_key R (is_from R k) es ≡ es)
  all_from k [] x below from = refl
  all_from k (e ∷ es) x below from =
      let here : is_le (R k e.0) ≡ true = go (R k x) refl from in
      rw here (ap (λ t. e ∷ t) (all_from k es x (right_of _ _ below) from))
    where
      go : (r : Ordering) → R k x ≡ r → is_le r ≡ true → is_le (R k e.0) ≡ true
      go Less p q = ap is_le (o.trans k x e.0 p (less _ (left_of _ _ below)))
      go Equal p q = ap is_le (o.congr k x e.0 p ∙ less _ (left_of _ _ below))
      go Greater p q = absurd (false≢true q)

  pub kept_from : (k : K) (es : List (K × V)) → T (is_sorted R es) → starts_below R k es ≡ false → where_key R (is_from R k) es ≡ es
  kept_from k [] s from = refl
  kept_from k (e ∷ es) s from =
      let here : is_le (R k e.0) ≡ true = go (R k e.0) from in
      rw here (ap (λ t. e ∷ t) (all_from k es e.0 (left_of _ _ s) here))
    where
      go : (r : Ordering) → is_gt r ≡ false → is_le r ≡ true
      go Less p = refl
      go Equal p = refl
      go Greater p = absurd (false≢true (sym p))

  -- one that starts below goes with the others
  pub one_goes : (k : K) (es fs : List (K × V)) → starts_below R k es ≡ true → fs ≡ drop 1 es → where_key R (is_from R k) fs ≡ where_key R (is_from R k) es
  one_goes k [] fs below is = absurd (false≢true below)
  one_goes k (e ∷ es) fs below is = ap (where_key R (is_from R k)) is ∙ go (R k e.0) refl below
    where
      go : (r : Ordering) → R k e.0 ≡ r → is_gt r ≡ true → where_key R (is_from R k) es ≡ where_key R (is_from R k) (e ∷ es)
      go Less p q = absurd (false≢true q)
      go Equal p q = absurd (false≢true q)
      go Greater p q = rw p refl

  -- so a map of which nothing is below k is what is kept
  pub kept_all : IsAntisymmetric R → (k : K) (now old : map.FinMap R V) → starts_below R k (map.entries now) ≡ false → where_key R (is_from R k) (map.entries now) ≡ where_key R (is_from R k) (map.entries old) → now ≡ map.retain_keys old (is_from R k)
  kept_all exact k now old from kept =
      let is : map.entries now ≡ where_key R (is_from R k) (map.entries old) = sym (kept_from k (map.entries now) (entries_sorted now) from) ∙ kept in
      sym (contents-entries now) ∙ (retained o exact (is_from R k) (map.entries old) (map.entries now) (entries_sorted old) is).1 ∙ ap (λ m. map.retain_keys m (is_from R k)) (contents-entries old)

  pub below_some : (k : K) (es : List (K × V)) → starts_below R k es ≡ true → 0 < length es
  below_some k [] below = absurd (false≢true below)
  below_some k (e ∷ es) below = omega arith

pub overlaid_is : {K V : Type 0} {R : K → K → Ordering} (m over : map.FinMap R V) → with_pairs m (map.entries over) ≡ overlaid m over
unfolding overlaid
overlaid_is m over = refl
