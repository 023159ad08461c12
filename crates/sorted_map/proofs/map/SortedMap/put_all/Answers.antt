use Rattle.sorted_map.proofs.Common.{ap, arith, contents, len-entries, length, sym, with_pairs, ◌∙◌}
use Rattle.sorted_map.proofs.OverlayLaws.{overlaid_is}
use Rattle.sorted_map.proofs.map.SortedMap.put_all.Goals as goal

pub loop-pair-init : goal.loop-pair-init
loop-pair-init g c =
    let is = c.into_iter-pair-iterator.ensures.into_iter_gives in
    let over = contents g.K.Ord.cmp c.args.over in
    record {
      whole = ap (with_pairs (contents g.K.Ord.cmp c.args.self.now)) is;
      few = omega (arith, c.requires, ap length is, len-entries over);
      room = omega (arith, ap length is, len-entries over);
    }

pub put-requires : goal.put-requires
put-requires g c = omega (arith, c.loop-pair.invariant.few, ap length c.in-Some.ensures.steps)

pub loop-pair-preserved : goal.loop-pair-preserved
loop-pair-preserved g c =
    let inv = c.loop-pair.invariant in
    let steps = c.in-Some.ensures.steps in
    record {
      whole = ap (λ m. with_pairs m c.next.new.self) c.put.ensures.put ∙ sym (ap (with_pairs (contents g.K.Ord.cmp c.loop-pair.self)) steps) ∙ inv.whole;
      few = omega (arith, inv.few, ap length steps, c.put.ensures.room);
      room = omega (arith, inv.room, ap length steps, c.put.ensures.room);
    }

pub returns-clause-laid : goal.returns-clause-laid
returns-clause-laid g c =
    sym (ap (with_pairs (contents g.K.Ord.cmp c.loop-pair.self)) c.in-None.ensures.steps.0) ∙ c.loop-pair.invariant.whole ∙ overlaid_is _ _
