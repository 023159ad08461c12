-- What a page of one pair tells of an object.
use Rattle.cold_store.proofs.Common.{HasPairs, List, None, Omap, Option, PairMap, PairPage, Some, [], all_kept, ap, empty_of_len, key_cmp, len-empty, len-entries, length, not, option_map, page_of, refl, same_Some, subst, sym, take, ℕ, ◌==◌, ◌∙◌, ◌∷◌, ◌≡◌}
use Rattle.std.specs.FinMap as map
use Rattle.objstore.specs.Omap.{pairs_after}

all_pairs : (pairs : PairMap) → pairs_after pairs None ≡ map.entries pairs
unfolding pairs_after
all_pairs pairs = all_kept (map.entries pairs)

told : (object : Omap) (es : List (List ℕ × List ℕ)) → map.entries object.pairs ≡ es → HasPairs (Some object) (not (length (take 1 es) == 0))
told object [] is = empty_of_len object.pairs (len-entries object.pairs ∙ ap (length {A = List ℕ × List ℕ}) is)
told object (e ∷ es) is = λ none. let clash : 0 ≡ length (e ∷ es) = sym (len-empty key_cmp (List ℕ)) ∙ sym (ap map.len none) ∙ len-entries object.pairs ∙ ap (length {A = List ℕ × List ℕ}) is in absurd cc

pub has_pairs : (o : Option Omap) (page : PairPage) → Some page ≡ option_map (λ (object : Omap). page_of object.pairs None 1) o → HasPairs o (not (length page.pairs == 0))
has_pairs None page is = tt
has_pairs (Some object) page is =
    let same : page ≡ page_of object.pairs None 1 = same_Some page (page_of object.pairs None 1) is in
    subst (λ (ps : List (List ℕ × List ℕ)). HasPairs (Some object) (not (length ps == 0))) (sym (ap (λ (p : PairPage). p.pairs) same ∙ ap (take 1) (all_pairs object.pairs)))
    (told object (map.entries object.pairs) refl)
