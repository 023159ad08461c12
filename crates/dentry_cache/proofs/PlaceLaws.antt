-- The places of one cache, and those of its rank in the caches of all.
use Rattle.dentry_cache.proofs.Common.{AllByRecursion, CacheMap, IsDistinct, Leaf, Place, Places, Some, [], ap, cached, fragment_in, here, in_place, keys_of, leaf_is, lookup, map, refl, sym, ℕ, ◌∙◌, ◌∷◌, ◌≡◌}
use Rattle.dentry_cache.proofs.UncleanPlaces.{each_found}

module _ (c : CacheMap) (r : ℕ) (all : Places) (seen : (q : Leaf) → cached all q ≡ here c r q) where
  walked : (es : Places) → AllByRecursion (λ (d : Leaf × Place). lookup (leaf_is d.0) all ≡ Some d.1) es → map in_place es ≡ map (λ (leaf : Leaf). (leaf, here c r leaf)) (keys_of es)
  walked [] found = refl
  walked (e ∷ es) (one, found) =
      let there : fragment_in (Some e.1) ≡ here c r e.0 = ap fragment_in (sym one) ∙ seen e.0 in
      λ i. (e.0, there i) ∷ walked es found i

  pub places_are : IsDistinct leaf_is (keys_of all) → map in_place all ≡ map (λ (leaf : Leaf). (leaf, here c r leaf)) (keys_of all)
  places_are distinct = walked all (each_found all distinct)
