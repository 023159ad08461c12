-- A root that is one already.
use Rattle.export_steps.proofs.Common.{Leaf, Rank, Roots, Some, ap, get_beside, get_put, inl, inr, leaf-exact, leaf-total, same_map, same_or_apart, sym, ◌∙◌, ◌≡◌}
use Rattle.std.proofs.Common.{◌⊎◌}
use Rattle.std.specs.FinMap as map

pub rooted_again : (roots : Roots) (root : Leaf) (rank : Rank) → map.get roots root ≡ Some rank → roots ≡ map.insert roots root rank
rooted_again roots root rank is = same_map leaf-total leaf-exact _ _ (λ q. go q (same_or_apart q root))
  where
    go : (q : Leaf) → (q ≡ root) ⊎ (q ≡ root → ⊥) → map.get roots q ≡ map.get (map.insert roots root rank) q
    go q (inl same) = ap (map.get roots) same ∙ is ∙ sym (ap (map.get (map.insert roots root rank)) same ∙ get_put roots root rank)
    go q (inr apart) = sym (get_beside roots root rank q apart)
