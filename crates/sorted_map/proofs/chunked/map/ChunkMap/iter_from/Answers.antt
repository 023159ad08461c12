use Rattle.sorted_map.proofs.Common.{ap, entries-from_sorted, flat, is_from, sym, where_key, ◌∙◌}
use Rattle.sorted_map.proofs.chunked.map.ChunkMap.iter_from.Goals as goal

pub returns : goal.returns
returns g c =
    rw (← c.self.view_is) (c.pairs_from.ensures ∙ ap (where_key g.K.Ord.cmp (is_from g.K.Ord.cmp (g.Q.Probe.key c.args.q.now))) (ap flat c.row.ensures.row ∙ sym (entries-from_sorted _ _ c.self.invariant.0)))
