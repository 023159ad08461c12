-- Stores without objects, and objects without pairs.
use Rattle.mdcache.proofs.Common.{Bool, Fragment, IsTrue, List, NameList, None, Objects, Omap, Option, PairMap, PairPage, Some, [], all_kept, ap, arith, bytes_eq-Decides, cond, empty_of_len, exact_bytes, false, first_names, get_beside, get_put, header_at, key_cmp, key_or_apart, len-empty, len-entries, length, lt-ltb, nat_list_cmp_total, nat_tests, not, not-false, option_map, page_at, page_of, pointwise, refl, rules, same_Some, same_map, sym, tree_bytes, tree_object, true, with_tree_at, ℕ, ⊎_elim, ◌==◌, ◌↔◌, ◌∙◌, ◌∷◌, ◌≡◌, ◌≤◌}
use Rattle.std.specs.Prelude.{take, map as each}
use Rattle.std.specs.FinMap as map
use Rattle.objstore.specs.Omap.{pairs_after}
use Rattle.objstore.specs.Objects.{object_names_after}

-- a map without entries is empty, and one with entries isn't
no_entries : {X : Type 0} (m : map.FinMap key_cmp X) → map.entries m ≡ [] → m ≡ map.empty
no_entries m is = empty_of_len m (len-entries m ∙ ap length is)

some_entry : {X : Type 0} (m : map.FinMap key_cmp X) (e : List ℕ × X) (es : List (List ℕ × X)) → map.entries m ≡ e ∷ es → m ≡ map.empty → ⊥
some_entry {X = X} m e es is same = omega (arith, ap map.len same ∙ len-empty key_cmp X, len-entries m ∙ ap length is)

-- a page of one name is empty where there is no object, and only there
pub page_told : (objects : Objects) (page : NameList) (some : Bool) → page ≡ first_names 1 (object_names_after objects None) → some ≡ not (length page.names == 0) → IsTrue some ↔ (objects ≡ map.empty → ⊥)
unfolding object_names_after
page_told objects page some is told = elim (map.entries objects) as (λ es. map.entries objects ≡ es → IsTrue some ↔ (objects ≡ map.empty → ⊥)) [
  | [] ↦ λ none. (λ holds. let clash : true ≡ false = sym holds ∙ told_of [] none in absurd cc, λ apart. absurd (apart (no_entries objects none)))
  | e ∷ es ↦ λ has. (λ holds. some_entry objects e es has, λ apart. told_of (e ∷ es) has ∙ ap not (one_of_some e.0 (each (λ (x : List ℕ × Omap). x.0) es)))
] refl
  where
    one_of_some : {A : Type 0} (x : A) (xs : List A) → (length (take 1 (x ∷ xs)) == 0) ≡ false
    one_of_some x xs = grind (arith, nat_tests)

    told_of : (es : List (List ℕ × Omap)) → map.entries objects ≡ es → some ≡ not (length (take 1 (each (λ (e : List ℕ × Omap). e.0) es)) == 0)
    told_of es has = told ∙ ap (λ (p : NameList). not (length p.names == 0)) is ∙ ap (λ xs. not (length (take 1 (each (λ (e : List ℕ × Omap). e.0) xs)) == 0)) (all_kept (map.entries objects) ∙ has)

-- ---- an object

-- an object whose page of one pair is empty has no pairs
none_taken : {X : Type 0} (xs : List X) → length (take 1 xs) ≡ 0 → xs ≡ []
none_taken xs none = search rules

no_pairs : (pairs : PairMap) → length (take 1 (pairs_after pairs None)) ≡ 0 → pairs ≡ map.empty
unfolding pairs_after
no_pairs pairs none = no_entries pairs (sym (all_kept (map.entries pairs)) ∙ none_taken (pairs_after pairs None) none)

-- an object is told by its header and a page without pairs
pub object_told : (objects : Objects) (name header : List ℕ) (page : PairPage) → Some header ≡ header_at objects name → Some page ≡ page_at objects name None 1 → length page.pairs ≡ 0 → map.get objects name ≡ Some (record { header = header; pairs = map.empty })
object_told objects name header page is_header is_page none = go (map.get objects name) is_header is_page
  where
    go : (o : Option Omap) → Some header ≡ option_map (λ (o : Omap). o.header) o → Some page ≡ option_map (λ (o : Omap). page_of o.pairs None 1) o → o ≡ Some (record { header = header; pairs = map.empty })
    go None h p = let clash : Some header ≡ None = h in absurd cc
    go (Some o) h p =
        let empty = no_pairs o.pairs (sym (ap (λ (q : PairPage). length q.pairs) (same_Some page (page_of o.pairs None 1) p)) ∙ none) in
        λ i. Some (record { header = sym (same_Some header o.header h) i; pairs = empty i })

-- objects that aren't some are none
pub none_if_not : (objects : Objects) (some : Bool) → IsTrue some ↔ (objects ≡ map.empty → ⊥) → some ≡ false → objects ≡ map.empty
none_if_not objects some tells is = elim (map.entries objects) as (λ es. map.entries objects ≡ es → objects ≡ map.empty) [
  | [] ↦ λ none. no_entries objects none
  | e ∷ es ↦ λ has. let clash : true ≡ false = sym (tells.1 (some_entry objects e es has)) ∙ is in absurd cc
] refl

-- the object of a tree that is so already
pub written_already : (objects new : Objects) (name header : List ℕ) (leaves : List Fragment) → header ≡ tree_bytes leaves → 2 ≤ length leaves → map.get objects name ≡ Some (record { header = header; pairs = map.empty }) → new ≡ objects → new ≡ with_tree_at objects name leaves
written_already objects new name header leaves spelled several there same =
    same ∙ sym (same_map nat_list_cmp_total exact_bytes (map.insert objects name (tree_object leaves)) objects at)
    ∙ sym (ap (λ (b : Bool). cond b (map.insert objects name (tree_object leaves)) (map.remove objects name)) (lt-ltb 1 (length leaves) several))
  where
    here : map.get objects name ≡ Some (tree_object leaves)
    here = there ∙ ap (λ (h : List ℕ). Some (record { header = h; pairs = map.empty })) spelled

    at : (q : List ℕ) → map.get (map.insert objects name (tree_object leaves)) q ≡ map.get objects q
    at q = ⊎_elim
        (λ is. ap (map.get (map.insert objects name (tree_object leaves))) is ∙ get_put objects name (tree_object leaves) ∙ sym here ∙ ap (map.get objects) (sym is))
        (get_beside objects name (tree_object leaves) q) (key_or_apart q name)

pub same_header : (a b : List ℕ) (differ : Bool) → differ ≡ not (pointwise ◌==◌ a b) → differ ≡ false → a ≡ b
same_header a b differ told is = (bytes_eq-Decides a b).0 (not-false (pointwise ◌==◌ a b) (sym told ∙ is))
