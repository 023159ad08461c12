-- The leaves that aren't clean, as they are listed: each is so at its rank, no two are one, and none is left out.
use Rattle.mdcache.proofs.Common.{AllByRecursion, AreOfOtherLeaves, AreCaches, At, Bool, CacheMap, Dirfrag, IsFree, IsUncleanAt, Leaf, List, None, NotAmong, Option, Some, Unsaved, UnsavedLeaves, [], ap, arith, at_rank, cond, cond_both, drop, eq-eqb, false, get-empty, get_or, get_unclean, here, is_some, leaf-exact, leaf_cmp, leaf_is, leaf_of, leaves_of_places, len-empty, len-remove, length, list_any, list_any-append, map-append, or_cases, or_left, or_right, refl, rules, same_map, subst, suc, sym, take, true, unclean, unclean_among, unclean_from, unclean_places, unsaved_at, unsaved_in, zero, ℕ, ⊎_elim, ◌++◌, ◌+◌, ◌-◌, ◌<◌, ◌||◌, ◌∙◌, ◌∷◌, ◌≡◌, ◌≤◌}
use Rattle.std.proofs.lemmas.List.{length-map}
use Rattle.std.specs.List.{IsDistinct}
use Rattle.std.specs.FinMap as map
use Rattle.mds_types.proofs.LeafLaws.{get_left, get_removed, leaf-total, one_leaf, same_leaf, same_or_apart}

pub all_append : {A : Type 0} (P : A → Type 0) (xs ys : List A) → AllByRecursion P xs → AllByRecursion P ys → AllByRecursion P (xs ++ ys)
all_append P [] ys all more = more
all_append P (x ∷ xs) ys (one, all) more = (one, all_append P xs ys all more)

pub all_weaker : {A : Type 0} (P Q : A → Type 0) → ((x : A) → P x → Q x) → (xs : List A) → AllByRecursion P xs → AllByRecursion Q xs
all_weaker P Q so [] all = tt
all_weaker P Q so (x ∷ xs) (one, all) = (so x one, all_weaker P Q so xs all)

pub all_take : {A : Type 0} (P : A → Type 0) (n : ℕ) (xs : List A) → AllByRecursion P xs → AllByRecursion P (take n xs)
all_take P zero xs all = tt
all_take P (suc n) [] all = tt
all_take P (suc n) (x ∷ xs) (one, all) = (one, all_take P n xs all)

pub apart_take : (n : ℕ) (xs : List Leaf) → AreOfOtherLeaves xs → AreOfOtherLeaves (take n xs)
apart_take zero xs apart = tt
apart_take (suc n) [] apart = tt
apart_take (suc n) (x ∷ xs) (others, apart) = (all_take (λ (q : Leaf). q ≡ x → ⊥) n xs others, apart_take n xs apart)

pub all_drop : {A : Type 0} (P : A → Type 0) (n : ℕ) (xs : List A) → AllByRecursion P xs → AllByRecursion P (drop n xs)
all_drop P zero xs all = all
all_drop P (suc n) [] all = tt
all_drop P (suc n) (x ∷ xs) (one, all) = all_drop P n xs all

apart_append : (xs ys : List Leaf) → AreOfOtherLeaves xs → AreOfOtherLeaves ys → AllByRecursion (λ (x : Leaf). NotAmong x ys) xs → AreOfOtherLeaves (xs ++ ys)
apart_append [] ys apart more none = more
apart_append (x ∷ xs) ys (others, apart) more (other, none) = (all_append (λ (q : Leaf). q ≡ x → ⊥) xs ys others other, apart_append xs ys apart more none)

abbrev place_at : ℕ → Leaf → Dirfrag
place_at r leaf = record { dir = leaf.0; frag = leaf.1; rank = record { 0 = r } }

-- a fragment with something unsaved is at its rank, and at no other
free_there : (r : ℕ) (o : Option At) → is_some (unsaved_in (at_rank r o)) ≡ true → IsFree r o × (is_some (unsaved_at o) ≡ true)
free_there r o dirty = search rules

-- a leaf is in one of two lists where it is in both together
any_of_both : (q : Leaf) (these more : List Dirfrag) → list_any (leaf_is q) (leaves_of_places (these ++ more)) ≡ (list_any (leaf_is q) (leaves_of_places these) || list_any (leaf_is q) (leaves_of_places more))
any_of_both q these more = ap (list_any (leaf_is q)) (map-append (λ (a : Dirfrag). leaf_of a) these more) ∙ list_any-append (leaf_is q) (leaves_of_places these) (leaves_of_places more)

-- a map whose keys are all in a list has no more of them than the list is long
few_keys : (leaves : List Leaf) (m : UnsavedLeaves) → ((q : Leaf) → is_some (map.get m q) ≡ true → list_any (leaf_is q) leaves ≡ true) → map.len m ≤ length leaves
few_keys [] m all =
    let none : m ≡ map.empty = same_map leaf-total leaf-exact m map.empty (λ q. nothing (map.get m q) (all q) ∙ sym (get-empty leaf_cmp q)) in
    let len : map.len m ≡ 0 = ap (λ (w : UnsavedLeaves). map.len w) none ∙ len-empty leaf_cmp Unsaved in
    omega (arith, len)
  where
    nothing : (o : Option Unsaved) → (is_some o ≡ true → false ≡ true) → o ≡ None
    nothing None so = refl
    nothing (Some u) so = let clash : false ≡ true = so refl in absurd cc
few_keys (x ∷ leaves) m all =
    let few = few_keys leaves (map.remove m x) (λ q there. ⊎_elim (λ same. let clash : false ≡ true = sym (ap is_some (ap (map.get (map.remove m x)) same ∙ get_removed m x)) ∙ there in absurd cc)
    (λ apart. ⊎_elim (λ is. absurd (apart (one_leaf q x is))) (λ more. more) (or_cases (leaf_is q x) (list_any (leaf_is q) leaves) (all q (ap is_some (sym (get_left m x q apart)) ∙ there)))) (same_or_apart q x)) in
    let less = len-remove leaf-total m x in
    short (is_some (map.get m x)) (map.len m) (map.len (map.remove m x)) (length leaves) less few
  where
    short : (b : Bool) (n less k : ℕ) → less ≡ cond b (n - 1) n → less ≤ k → n ≤ suc k
    short true n less k is few = omega (arith, is, few)
    short false n less k is few = omega (arith, is, few)

module _ (c : CacheMap) where
  among_all : (r : ℕ) → r < length c.used → (leaves : List Leaf) → AllByRecursion (λ (a : Dirfrag). IsUncleanAt c a × (a.rank.0 ≡ r)) (unclean_among c r leaves)
  among_all r within [] = tt
  among_all r within (q ∷ leaves) = cond_both (is_some (unsaved_in (here c r q))) (place_at r q ∷ unclean_among c r leaves) (unclean_among c r leaves) (AllByRecursion (λ (a : Dirfrag). IsUncleanAt c a × (a.rank.0 ≡ r)))
      (λ dirty.
      let w = free_there r (map.get c.held q) dirty in
      ((record { holds = record { there = within; alone = w.0 }; dirty = ap is_some (get_unclean c q) ∙ w.1 }, refl), among_all r within leaves)) (λ clean. among_all r within leaves)

  from_all : (r : ℕ) (used : List (List Leaf)) → r + length used ≤ length c.used → AllByRecursion (λ (a : Dirfrag). IsUncleanAt c a × (r ≤ a.rank.0)) (unclean_from c r used)
  from_all r [] within = tt
  from_all r (leaves ∷ used) within =
      all_append (λ (a : Dirfrag). IsUncleanAt c a × (r ≤ a.rank.0)) (unclean_among c r leaves) (unclean_from c (r + 1) used)
      (all_weaker (λ (a : Dirfrag). IsUncleanAt c a × (a.rank.0 ≡ r)) (λ (a : Dirfrag). IsUncleanAt c a × (r ≤ a.rank.0)) (λ a is. (is.0, omega (arith, is.1))) (unclean_among c r leaves) (among_all r (omega (arith, within)) leaves))
      (all_weaker (λ (a : Dirfrag). IsUncleanAt c a × (r + 1 ≤ a.rank.0)) (λ (a : Dirfrag). IsUncleanAt c a × (r ≤ a.rank.0)) (λ a is. (is.0, omega (arith, is.1))) (unclean_from c (r + 1) used) (from_all (r + 1) used (omega (arith, within))))

  pub listed_unclean : AllByRecursion (IsUncleanAt c) (unclean_places c)
  listed_unclean = all_weaker (λ (a : Dirfrag). IsUncleanAt c a × (0 ≤ a.rank.0)) (IsUncleanAt c) (λ a is. is.0) (unclean_places c) (from_all 0 c.used (omega arith))

  -- ---- no two are one

  one_rank : (a b : Dirfrag) → IsUncleanAt c a → IsUncleanAt c b → leaf_of b ≡ leaf_of a → a.rank.0 ≡ b.rank.0
  one_rank a b this that same = elim (map.get c.held (leaf_of a)) as (λ o. map.get c.held (leaf_of a) ≡ o → IsFree a.rank.0 o → IsFree b.rank.0 o → a.rank.0 ≡ b.rank.0) [
    | None ↦ λ none first second. let clash : false ≡ true = ap is_some (sym (get_unclean c (leaf_of a) ∙ ap unsaved_at none)) ∙ this.dirty in absurd cc
    | Some x ↦ λ is first second. sym first ∙ second
  ] refl this.holds.alone (subst (λ q. IsFree b.rank.0 (map.get c.held q)) same that.holds.alone)

  not_in : (r : ℕ) (q : Leaf) (leaves : List Leaf) → AllByRecursion (λ y. leaf_is q y ≡ false) leaves → NotAmong q (leaves_of_places (unclean_among c r leaves))
  not_in r q [] others = tt
  not_in r q (y ∷ leaves) (other, others) = cond_both (is_some (unsaved_in (here c r y))) (place_at r y ∷ unclean_among c r leaves) (unclean_among c r leaves) (λ places. NotAmong q (leaves_of_places places))
      (λ dirty. ((λ same. let clash : true ≡ false = sym (same_leaf q y (sym same)) ∙ other in cc), not_in r q leaves others)) (λ clean. not_in r q leaves others)

  among_apart : (r : ℕ) (leaves : List Leaf) → IsDistinct leaf_is leaves → AreOfOtherLeaves (leaves_of_places (unclean_among c r leaves))
  unfolding IsDistinct
  among_apart r [] distinct = tt
  among_apart r (q ∷ leaves) (others, distinct) = cond_both (is_some (unsaved_in (here c r q))) (place_at r q ∷ unclean_among c r leaves) (unclean_among c r leaves) (λ places. AreOfOtherLeaves (leaves_of_places places))
      (λ dirty. (not_in r q leaves others, among_apart r leaves distinct)) (λ clean. among_apart r leaves distinct)

  crosses : (r : ℕ) (a : Dirfrag) → IsUncleanAt c a → a.rank.0 ≡ r → (bs : List Dirfrag) → AllByRecursion (λ (b : Dirfrag). IsUncleanAt c b × (r + 1 ≤ b.rank.0)) bs → NotAmong (leaf_of a) (leaves_of_places bs)
  crosses r a this at [] all = tt
  crosses r a this at (b ∷ bs) ((that, later), all) = ((λ same. let one = one_rank a b this that same in absurd (omega (arith, one, at, later))), crosses r a this at bs all)

  each_crosses : (r : ℕ) (these bs : List Dirfrag) → AllByRecursion (λ (a : Dirfrag). IsUncleanAt c a × (a.rank.0 ≡ r)) these → AllByRecursion (λ (b : Dirfrag). IsUncleanAt c b × (r + 1 ≤ b.rank.0)) bs → AllByRecursion (λ (x : Leaf). NotAmong x (leaves_of_places bs)) (leaves_of_places these)
  each_crosses r [] bs all more = tt
  each_crosses r (a ∷ these) bs ((this, at), all) more = (crosses r a this at bs more, each_crosses r these bs all more)

  from_apart : (r : ℕ) (used : List (List Leaf)) → r + length used ≤ length c.used → AllByRecursion (IsDistinct leaf_is) used → AreOfOtherLeaves (leaves_of_places (unclean_from c r used))
  from_apart r [] within distinct = tt
  from_apart r (leaves ∷ used) within (one, distinct) =
      subst AreOfOtherLeaves (sym (map-append (λ (a : Dirfrag). leaf_of a) (unclean_among c r leaves) (unclean_from c (r + 1) used)))
      (apart_append (leaves_of_places (unclean_among c r leaves)) (leaves_of_places (unclean_from c (r + 1) used)) (among_apart r leaves one) (from_apart (r + 1) used (omega (arith, within)) distinct)
      (each_crosses r (unclean_among c r leaves) (unclean_from c (r + 1) used) (among_all r (omega (arith, within)) leaves) (from_all (r + 1) used (omega (arith, within)))))

  each_order : (used : List (List Leaf)) → ((r : ℕ) → IsDistinct leaf_is (get_or used r [])) → AllByRecursion (IsDistinct leaf_is) used
  each_order [] distinct = tt
  each_order (leaves ∷ used) distinct = (distinct 0, each_order used (λ r. distinct (suc r)))

  pub listed_apart : AreCaches c → AreOfOtherLeaves (leaves_of_places (unclean_places c))
  listed_apart valid = from_apart 0 c.used (omega arith) (each_order c.used valid.distinct)

  -- ---- none is left out

  among_has : (r : ℕ) (q : Leaf) (leaves : List Leaf) → list_any (leaf_is q) leaves ≡ true → is_some (unsaved_in (here c r q)) ≡ true → list_any (leaf_is q) (leaves_of_places (unclean_among c r leaves)) ≡ true
  among_has r q [] has dirty = has
  among_has r q (x ∷ leaves) has dirty = cond_both (is_some (unsaved_in (here c r x))) (place_at r x ∷ unclean_among c r leaves) (unclean_among c r leaves) (λ places. list_any (leaf_is q) (leaves_of_places places) ≡ true)
      (λ unclean. ⊎_elim (λ same. or_left (leaf_is q x) (list_any (leaf_is q) (leaves_of_places (unclean_among c r leaves))) same) (λ more. or_right (leaf_is q x) (list_any (leaf_is q) (leaves_of_places (unclean_among c r leaves))) (among_has r q leaves more dirty))
      (or_cases (leaf_is q x) (list_any (leaf_is q) leaves) has))
      (λ clean. ⊎_elim (λ same. let clash : false ≡ true = sym clean ∙ ap (λ y. is_some (unsaved_in (here c r y))) (sym (one_leaf q x same)) ∙ dirty in absurd cc) (λ more. among_has r q leaves more dirty)
      (or_cases (leaf_is q x) (list_any (leaf_is q) leaves) has))

  from_has : (r : ℕ) (used : List (List Leaf)) (k : ℕ) (q : Leaf) → list_any (leaf_is q) (get_or used k []) ≡ true → is_some (unsaved_in (here c (r + k) q)) ≡ true → list_any (leaf_is q) (leaves_of_places (unclean_from c r used)) ≡ true
  from_has r [] k q has dirty = let clash : false ≡ true = has in absurd cc
  from_has r (leaves ∷ used) zero q has dirty =
      any_of_both q (unclean_among c r leaves) (unclean_from c (r + 1) used)
      ∙ or_left _ _ (among_has r q leaves has (subst (λ n. is_some (unsaved_in (here c n q)) ≡ true) (let at : r + 0 ≡ r = omega arith in at) dirty))
  from_has r (leaves ∷ used) (suc k) q has dirty =
      any_of_both q (unclean_among c r leaves) (unclean_from c (r + 1) used)
      ∙ or_right _ _ (from_has (r + 1) used k q has (subst (λ n. is_some (unsaved_in (here c n q)) ≡ true) (let at : r + suc k ≡ (r + 1) + k = omega arith in at) dirty))

  is_listed : AreCaches c → (q : Leaf) → (o : Option At) → map.get c.held q ≡ o → is_some (unsaved_at o) ≡ true → list_any (leaf_is q) (leaves_of_places (unclean_places c)) ≡ true
  is_listed valid q None is dirty = let clash : false ≡ true = dirty in absurd cc
  is_listed valid q (Some a) is dirty =
      let at : here c a.rank q ≡ Some a.frag = ap (at_rank a.rank) is ∙ ap (λ b. cond b (Some a.frag) None) (eq-eqb a.rank a.rank refl) in
      from_has 0 c.used a.rank q (valid.placed a.rank q (ap is_some at)) (subst (λ n. is_some (unsaved_in (here c n q)) ≡ true) (let same : a.rank ≡ 0 + a.rank = omega arith in same) (ap (λ o. is_some (unsaved_in o)) at ∙ dirty))

  pub listed_all : AreCaches c → map.len (unclean c) ≤ length (unclean_places c)
  listed_all valid =
      let few = few_keys (leaves_of_places (unclean_places c)) (unclean c) (λ q there. is_listed valid q (map.get c.held q) refl (ap is_some (sym (get_unclean c q)) ∙ there)) in
      let each = length-map (unclean_places c) (λ (a : Dirfrag). leaf_of a) in
      omega (arith, few, each)
