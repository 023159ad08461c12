use Rattle.export_regions.proofs.Common.{Leaf, ap, arith, contents, drop, gathered, leaf_cmp, sym, ◌-◌, ◌∙◌, ◌∷◌}
use Rattle.export_regions.proofs.GatherLaws.{all_dropped_of, none_sendable, one_gathered, one_sendable, this_drop, this_may}
use Rattle.export_regions.proofs.gathering.gather.Goals as goal

pub loop-i-init : goal.loop-i-init
loop-i-init c =
    let none = c.in_ok-reserve.ensures.same ∙ c.new-sent.ensures.empty in
    record {
      few = omega arith;
      room = c.in_ok-reserve.ensures.ok;
      sent = none ∙ sym (ap (gathered c.args.caches.now c.args.rank.0) (all_dropped_of c.args.leaves.now));
      sendable = none_sendable (contents leaf_cmp c.reserve.new.self) none;
    }

pub sent_at-requires-clause-may : goal.sent_at-requires-clause-may
sent_at-requires-clause-may c =
    this_may c.args.caches.now c.args.rank.0 c.args.leaves.now (c.loop-i.i - 1) c.index-leaves-i.result (drop c.loop-i.i c.args.leaves.now) c.requires.may
    (this_drop c.args.leaves.now c.loop-i.i c.index-leaves-i.result c.loop-i-test.true c.loop-i.invariant.few ∙ ap (λ (l : Leaf). l ∷ drop c.loop-i.i c.args.leaves.now) (sym c.index-leaves-i.is))

pub loop-i-preserved : goal.loop-i-preserved
loop-i-preserved c =
    let split = this_drop c.args.leaves.now c.loop-i.i c.index-leaves-i.result c.loop-i-test.true c.loop-i.invariant.few ∙ ap (λ (l : Leaf). l ∷ drop c.loop-i.i c.args.leaves.now) (sym c.index-leaves-i.is) in
    record {
      few = omega (arith, c.loop-i-test.true, c.loop-i.invariant.few);
      room = omega (arith, c.loop-i-test.true, c.loop-i.invariant.room, c.put.ensures.room);
      sent = one_gathered c.args.caches.now c.args.rank.0 c.index-leaves-i.result (drop c.loop-i.i c.args.leaves.now) (contents leaf_cmp c.loop-i.sent) (contents leaf_cmp c.put.new.sent) c.in_ok-frag.frag c.loop-i.invariant.sent c.in_ok-frag.ensures.sent c.put.ensures.inserted
          ∙ sym (ap (gathered c.args.caches.now c.args.rank.0) split);
      sendable = one_sendable (contents leaf_cmp c.loop-i.sent) (contents leaf_cmp c.put.new.sent) c.index-leaves-i.result c.in_ok-frag.frag c.loop-i.invariant.sendable c.in_ok-frag.ensures.sendable c.put.ensures.inserted;
    }
