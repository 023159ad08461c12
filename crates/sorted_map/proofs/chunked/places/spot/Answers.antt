use Rattle.sorted_map.proofs.Common.{IsPlace, T, [], eqb-true, is_sorted, subst, sym, ◌∙◌}
use Rattle.sorted_map.proofs.ChunkLaws.{got}
use Rattle.sorted_map.proofs.HomeLaws.{place_home, place_none, sorted_part}
use Rattle.sorted_map.proofs.chunked.places.spot.Goals as goal

pub place-requires : goal.place-requires
place-requires g c =
    let here = c.pairs.ensures.pairs ∙ got _ _ c.index-chunks-home.result [] c.home-home.ensures.within c.index-chunks-home.is in
    subst (λ s. T (is_sorted g.K.Ord.cmp s)) (sym here) (sorted_part g.K.Ord.cmp c.args.chunks.now c.home-home.result c.requires.sorted)

pub returns-clause-place : goal.returns-clause-place
returns-clause-place g c =
    let here = c.pairs.ensures.pairs ∙ got _ _ c.index-chunks-home.result [] c.home-home.ensures.within c.index-chunks-home.is in
    place_home g.K.Ord.cmp (g.Q.Probe.key c.args.q.now) c.args.chunks.now c.home-home.result c.place.result c.home-home.ensures.home
    (subst (λ s. IsPlace g.K.Ord.cmp (g.Q.Probe.key c.args.q.now) s c.place.result) here c.place.ensures.place)

pub returns-then-is_empty-clause-place : goal.returns-then-is_empty-clause-place
returns-then-is_empty-clause-place g c = place_none g.K.Ord.cmp (g.Q.Probe.key c.args.q.now) c.args.chunks.now (eqb-true _ 0 (sym c.is_empty.ensures ∙ c.if-is_empty.true))
