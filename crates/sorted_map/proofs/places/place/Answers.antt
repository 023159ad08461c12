use Rattle.sorted_map.proofs.Common.{always_returns_same, ordering_reverse, rules}
use Rattle.sorted_map.proofs.PlaceLaws.{searched}
use Rattle.sorted_map.proofs.places.place.Goals as goal

-- the closure turns what the probe compares as
pub returns-clause-place : goal.returns-clause-place
returns-clause-place g c =
    let found = c.binary_search_by.ensures in
    searched g.met.K.Ord.total _ _ _ c.requires found.bound (found.position (λ y. ordering_reverse (g.K.Ord.cmp (g.Q.Probe.key c.args.q.now) y.0)) (always_returns_same _ _ _ (λ a r f called. search rules)))
