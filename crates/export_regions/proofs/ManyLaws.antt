-- As many fragments are sent as leaves were found that aren't clean.
use Rattle.export_regions.proofs.Common.{AllByRecursion, AreUncleanAt, Bool, CacheMap, Cached, Dirfrag, Export, IsDistinct, IsDistinct-head, IsDistinct-tail, IsExportFrom, Leaf, List, None, Option, Rank, SentFrag, Some, [], ap, arith, cond, false, gathered, get_tabulate, here, is_some, leaf-total, leaf_cmp, leaf_is, len-empty, len-entries, len-insert, length, length-map, list_any, option_map, refl, sent_from, suc, sym, tabulate, true, unclean_in, with_some, ◌+◌, ◌∙◌, ◌∷◌, ◌≡◌}
use Rattle.std.specs.FinMap as map

pub all_so : (P Q : Leaf → Type 0) → ((q : Leaf) → P q → Q q) → (xs : List Leaf) → AllByRecursion P xs → AllByRecursion Q xs
all_so P Q so [] all = tt
all_so P Q so (x ∷ xs) all = (so x all.0, all_so P Q so xs all.1)

-- a map of as many leaves as are named, where each has a value
many_tabulated : {X : Type 0} (f : Leaf → Option X) (ks : List Leaf) → IsDistinct leaf_is ks → AllByRecursion (λ (k : Leaf). is_some (f k) ≡ true) ks → map.len (tabulate f ks) ≡ length ks
many_tabulated {X} f [] distinct all = len-empty leaf_cmp X
many_tabulated {X} f (k ∷ ks) distinct all = go (f k) refl all.0 (many_tabulated f ks (IsDistinct-tail leaf_is k ks distinct) all.1)
  where
    none_of : (xs : List Leaf) → AllByRecursion (λ (y : Leaf). leaf_is k y ≡ false) xs → list_any (leaf_is k) xs ≡ false
    none_of [] none = refl
    none_of (y ∷ ys) none = rw none.0 (none_of ys none.1)

    absent : map.contains_key (tabulate f ks) k ≡ false
    absent = ap (λ (o : Option X). is_some o) (get_tabulate f ks k) ∙ ap (λ (b : Bool). is_some (cond b (f k) None)) (none_of ks (IsDistinct-head leaf_is k ks distinct))

    go : (o : Option X) → f k ≡ o → is_some o ≡ true → map.len (tabulate f ks) ≡ length ks → map.len (with_some (tabulate f ks) k o) ≡ suc (length ks)
    go None seen some rest = let clash : false ≡ true = some in absurd cc
    go (Some x) seen some rest =
        let more : map.len (map.insert (tabulate f ks) k x) ≡ map.len (tabulate f ks) + 1 = len-insert leaf-total (tabulate f ks) k x ∙ ap (λ (b : Bool). cond b (map.len (tabulate f ks)) (map.len (tabulate f ks) + 1)) absent in
        omega (arith, more, rest)

-- as many fragments are sent as leaves were found
pub as_many : (c : CacheMap) (leaves : List Leaf) (root : Dirfrag) (to : Rank) (export : Export) → IsDistinct leaf_is leaves → AreUncleanAt c root.rank.0 leaves → IsExportFrom c leaves root to export → length export.frags ≡ length leaves
as_many c leaves root to export distinct dirty is =
    ap (λ (xs : List SentFrag). length xs) is.frags ∙ length-map (map.entries (gathered c root.rank.0 leaves)) (λ (e : Leaf × SentFrag). e.1) ∙ sym (len-entries (gathered c root.rank.0 leaves))
    ∙ many_tabulated (λ (leaf : Leaf). option_map (sent_from leaf) (here c root.rank.0 leaf)) leaves distinct (all_so (λ (leaf : Leaf). unclean_in (here c root.rank.0 leaf) ≡ true) (λ (leaf : Leaf). is_some (option_map (sent_from leaf) (here c root.rank.0 leaf)) ≡ true) (λ q is. some q (here c root.rank.0 q) is) leaves dirty)
  where
    some : (q : Leaf) (o : Option Cached) → unclean_in o ≡ true → is_some (option_map (sent_from q) o) ≡ true
    some q None is = let clash : false ≡ true = is in absurd cc
    some q (Some f) is = refl
