use Rattle.sorted_map.proofs.Common.{ap, contents, sym, ◌∙◌}
use Rattle.sorted_map.proofs.OverlayLaws.{removals, removals_all}
use Rattle.sorted_map.proofs.chunked.map.ChunkMap.remove_all.Goals as goal

pub loop-pair-preserved : goal.loop-pair-preserved
loop-pair-preserved g c = record {
  whole = ap (λ m. removals m c.next.new.self) c.remove.ensures.removed ∙ ap (removals (contents g.K.Ord.cmp c.loop-pair.self)) (sym c.in-Some.ensures.steps) ∙ c.loop-pair.invariant.whole;
}

pub returns : goal.returns
returns g c = record {
  kept = sym (ap (removals (contents g.K.Ord.cmp c.loop-pair.self)) c.in-None.ensures.steps.0) ∙ c.loop-pair.invariant.whole ∙ removals_all g.met.K.Ord.total g.met.K.ExactOrd.exact _ _;
}
