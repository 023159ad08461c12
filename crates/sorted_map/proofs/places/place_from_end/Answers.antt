use Rattle.sorted_map.proofs.Common.{IsGap, IsPlace, T, arith, drop, is_sorted, subst, suc, sym, take, take-append-drop, zero, ◌-◌, ◌∙◌, ◌≡◌}
use Rattle.sorted_map.proofs.PlaceLaws.{gap_behind, at_tied, gap_more}
use Rattle.sorted_map.proofs.HomeLaws.{place_front, sorted_front}
use Rattle.sorted_map.proofs.places.place_from_end.Goals as goal

pub loop-high-preserved : goal.loop-high-preserved
loop-high-preserved g c =
    let i = c.loop-high.high - 1 in
    let next : c.loop-high.high ≡ suc i = omega (arith, c.loop-high-test.true) in
    let here = sym c.order.ensures ∙ c.in-Less.is in
    let rest = subst (λ n. IsGap g.K.Ord.cmp (g.Q.Probe.key c.args.q.now) (drop n c.args.pairs.now) zero) next c.loop-high.invariant.above in
    record {
      within = omega (arith, c.loop-high.invariant.within);
      above = gap_more g.K.Ord.cmp (g.Q.Probe.key c.args.q.now) c.args.pairs.now i c.index-pairs-high.result (omega (arith, next, c.loop-high.invariant.within)) here rest;
    }

pub returns-in-Greater-clause-place : goal.returns-in-Greater-clause-place
returns-in-Greater-clause-place g c =
    let i = c.loop-high.high - 1 in
    let next : c.loop-high.high ≡ suc i = omega (arith, c.loop-high-test.true) in
    let here = sym c.order.ensures ∙ c.in-Greater.is in
    let rest = subst (λ n. IsGap g.K.Ord.cmp (g.Q.Probe.key c.args.q.now) (drop n c.args.pairs.now) zero) next c.loop-high.invariant.above in
    subst (IsGap g.K.Ord.cmp (g.Q.Probe.key c.args.q.now) c.args.pairs.now) (sym next)
    (gap_behind g.met.K.Ord.total (g.Q.Probe.key c.args.q.now) c.args.pairs.now i c.index-pairs-high.result c.requires (omega (arith, next, c.loop-high.invariant.within)) here rest)

pub returns-in-Equal-clause-place : goal.returns-in-Equal-clause-place
returns-in-Equal-clause-place g c =
    let i = c.loop-high.high - 1 in
    let next : c.loop-high.high ≡ suc i = omega (arith, c.loop-high-test.true) in
    let here = sym c.order.ensures ∙ c.in-Equal.is in
    let rest = subst (λ n. IsGap g.K.Ord.cmp (g.Q.Probe.key c.args.q.now) (drop n c.args.pairs.now) zero) next c.loop-high.invariant.above in
    at_tied g.met.K.Ord.total (g.Q.Probe.key c.args.q.now) c.args.pairs.now i c.index-pairs-high.result c.requires (omega (arith, next, c.loop-high.invariant.within)) here rest

pub place-requires : goal.place-requires
place-requires g c =
    let n = c.loop-high.high in
    let es = c.args.pairs.now in
    sorted_front g.K.Ord.cmp (take n es) (drop n es) (subst (λ l. T (is_sorted g.K.Ord.cmp l)) (sym (take-append-drop n es)) c.requires)

pub returns-clause-place : goal.returns-clause-place
returns-clause-place g c =
    let n = c.loop-high.high in
    let es = c.args.pairs.now in
    subst (λ l. IsPlace g.K.Ord.cmp (g.Q.Probe.key c.args.q.now) l c.place.result) (take-append-drop n es)
    (place_front g.K.Ord.cmp (g.Q.Probe.key c.args.q.now) (take n es) (drop n es) c.place.result c.place.ensures.place c.loop-high.invariant.above)
