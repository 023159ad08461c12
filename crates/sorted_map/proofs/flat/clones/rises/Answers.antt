use Rattle.sorted_map.proofs.Common.{always_returns_same, is_lt, rules}
use Rattle.sorted_map.proofs.PlaceLaws.{rises_as}
use Rattle.sorted_map.proofs.flat.clones.rises.Goals as goal

pub returns : goal.returns
returns g c =
    rises_as g.met.K.Ord.total _ _ (c.is_sorted_by.ensures.cases (λ x y. is_lt (g.K.Ord.cmp x.0 y.0)) (always_returns_same _ _ _ (λ a r f called. search rules)))
