-- Laws of `contents`, for the crates that hold a map.
use Rattle.std.specs.Prelude.{◌≡◌, Bool, true, false, not, cond, T, List, [], ◌∷◌, Option, Some, None, refl}
use Rattle.std.specs.Option.{option_or}
use Rattle.std.proofs.Common.{sym, ap, ◌∙◌, subst}
use Rattle.std.specs.declared.cmp.Ordering.{Ordering}
use Rattle.std.specs.declared.cmp.Ordering.TheVariants.{Less, Equal, Greater}
use Rattle.std.specs.Ordering.{is_lt, is_eq, eq_by_cmp}
use Rattle.std.specs.Cmp.{IsTotalOrder}
use Rattle.std.specs.FinMap as map
use Rattle.std.specs.FinMap.Entries.{below_all}
use Rattle.std.specs.FinMap.{IsAntisymmetric, find, is_sorted, entries-from_sorted, entries_sorted, same_entries_map, get-entries, get-insert, get-retain_keys}
use Rattle.sorted_map.proofs.Bools.{left_of, right_of}
use Rattle.sorted_map.specs.SortedMap.{Shown, contents}
use Rattle.sorted_map.specs.Overlay.{with_pairs, overlaid, without_keys}
-- std's laws of `get` and `len`, under a path that an attribute can name: `#[tactic(auto, using(sorted_map::proofs::MapLaws::gets))]`
pub use Rattle.std.specs.FinMap.{gets}

module _ {K V : Type 0} (R : K → K → Ordering) where
  -- what `len` ensures shows that the pairs are those of the finite map
  pub entries-contents : (s : Shown K V) → T (is_sorted R s.entries) → map.entries (contents R s) ≡ s.entries
  entries-contents s sorted = entries-from_sorted R s.entries sorted

-- a finite map is the contents of its own pairs, which is what `get_mut` leaves
pub contents-entries : {K V : Type 0} {R : K → K → Ordering} (m : map.FinMap R V) → map.from_sorted {R = R} (map.entries m) ≡ m
contents-entries m = same_entries_map _ _ (entries-from_sorted _ _ (entries_sorted m))

-- for a caller of `get_mut`: `#[tactic(auto, using(sorted_map::proofs::MapLaws::written))]`
pub ruleset written = (contents-entries)

pub tie : (r : Ordering) → is_eq r ≡ true → r ≡ Equal
tie Less h = cc
tie Equal h = refl
tie Greater h = cc

pub swapped : {A : Type 0} (b : Bool) (x y : A) → cond (not b) x y ≡ cond b y x
swapped true x y = refl
swapped false x y = refl

module _ {K V : Type 0} {R : K → K → Ordering} (o : IsTotalOrder R) where
  -- a key that ties with one that is below all of a list isn't found there
  not_found : (q k : K) (es : List (K × V)) → R q k ≡ Equal → T (below_all R k es) → find R q es ≡ None
  not_found q k [] tied below = refl
  not_found q k (e ∷ es) tied below =
      let less : T (is_lt (R q e.0)) = subst (λ r. T (is_lt r)) (sym (o.congr q k e.0 tied)) (left_of _ _ below) in
      ap (λ b. cond b (Some e.1) (find R q es)) (apart (R q e.0) less) ∙ not_found q k es tied (right_of _ _ below)
    where
      apart : (r : Ordering) → T (is_lt r) → is_eq r ≡ false
      apart Less h = refl
      apart Equal h = absurd h
      apart Greater h = refl

  one_more : (b : Bool) (v : V) (later before : Option V) → (b ≡ true → later ≡ None) → option_or later (cond b (Some v) before) ≡ option_or (cond b (Some v) later) before
  one_more true v later before none = ap (λ l. option_or l (Some v)) (none refl)
  one_more false v later before none = refl

  get-with_pairs : (m : map.FinMap R V) (es : List (K × V)) (q : K) → T (is_sorted R es) → map.get (with_pairs m es) q ≡ option_or (find R q es) (map.get m q)
  get-with_pairs m [] q sorted = refl
  get-with_pairs m (e ∷ es) q sorted =
      get-with_pairs (map.insert m e.0 e.1) es q (right_of _ _ sorted)
      ∙ ap (option_or (find R q es)) (get-insert o m e.0 e.1 q)
      ∙ one_more (eq_by_cmp R q e.0) e.1 (find R q es) (map.get m q) (λ same. not_found q e.0 es (tie (R q e.0) same) (left_of _ _ sorted))

  -- a key that the upper map has is found there, each other key below
  pub get-overlaid : (m over : map.FinMap R V) (q : K) → map.get (overlaid m over) q ≡ option_or (map.get over q) (map.get m q)
  unfolding overlaid
  get-overlaid m over q = get-with_pairs m (map.entries over) q (entries_sorted over) ∙ ap (λ f. option_or f (map.get m q)) (sym (get-entries over q))

module _ {K V W : Type 0} {R : K → K → Ordering} (exact : IsAntisymmetric R) where
  -- a key that is gone isn't found, each other key as before
  pub get-without_keys : (m : map.FinMap R V) (gone : map.FinMap R W) (q : K) → map.get (without_keys m gone) q ≡ cond (map.contains_key gone q) None (map.get m q)
  unfolding without_keys
  get-without_keys m gone q =
      get-retain_keys m (λ k. not (map.contains_key gone k)) q (λ x tied. ap (λ k. not (map.contains_key gone k)) (sym (exact q x tied)))
      ∙ swapped (map.contains_key gone q) _ _
