use Rattle.sorted_map.proofs.Common.{after, ap, entries-from_sorted, flat, sym, ◌∙◌}
use Rattle.sorted_map.proofs.chunked.map.ChunkMap.iter_after.Goals as goal

pub returns : goal.returns
returns g c =
    rw (← c.self.view_is) (c.pairs_after.ensures ∙ ap (after g.K.Ord.cmp (g.Q.Probe.key c.args.q.now)) (ap flat c.row.ensures.row ∙ sym (entries-from_sorted _ _ c.self.invariant.0)))
