use Rattle.sorted_map.proofs.Common.{is_from, where_key, ◌∙◌}
use Rattle.sorted_map.proofs.ContentLaws.{rest_shown}
use Rattle.sorted_map.proofs.flat.map.FlatMap.iter_from.Goals as goal

pub returns : goal.returns
returns g c =
    let part = where_key g.K.Ord.cmp (is_from g.K.Ord.cmp (g.Q.Probe.key c.args.q.now)) in
    rw (← c.self.view_is) (c.of_pairs.ensures ∙ rest_shown _ _ c.self.invariant part _ _ c.deref-2.ensures.value (rw (c.deref.ensures.value, ← c.deref-2.ensures.value) at c.place_from-from.ensures.rest))
