use Rattle.sorted_map.proofs.Common.{ap, arith, drop, flat, length, items_before, suc, sym, ◌+◌, ◌∙◌, ◌≡◌}
use Rattle.sorted_map.proofs.ChunkLaws.{total_part}
use Rattle.sorted_map.proofs.PlaceLaws.{after_at, after_gap}
use Rattle.sorted_map.proofs.chunked.ranges.pairs_after.Goals as goal

pub overflow_add-at : goal.overflow_add-at
overflow_add-at g c =
    let found = rw c.in_default-Ok.is-1 at c.spot.ensures in
    omega (arith, c.requires.fits, found.within, total_part length c.args.row.now c.spot.result.0 found.found)

pub returns-in_default-Ok : goal.returns-in_default-Ok
returns-in_default-Ok g c =
    let cs = c.args.row.now in
    let next : items_before cs c.spot.result.0 + (c.in_default-Ok.at + 1) ≡ suc (items_before cs c.spot.result.0 + c.in_default-Ok.at) = omega arith in
    c.pairs_at.ensures ∙ ap (λ n. drop n (flat cs)) next ∙ sym (after_at g.K.Ord.cmp (g.Q.Probe.key c.args.q.now) _ _ (rw c.in_default-Ok.is-1 at c.spot.ensures.place))

pub returns-in_default-Err : goal.returns-in_default-Err
returns-in_default-Err g c = c.pairs_at-in_default-Err.ensures ∙ sym (after_gap g.K.Ord.cmp (g.Q.Probe.key c.args.q.now) _ _ (rw c.in_default-Err.is-1 at c.spot.ensures.place))
