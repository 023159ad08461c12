use Rattle.export_regions.proofs.Common.{contents, leaf_cmp}
use Rattle.export_regions.proofs.GatherLaws.{left_sendable, one_ordered, ordered_sent}
use Rattle.export_regions.proofs.gathering.in_order.Goals as goal

pub loop-frag-preserved : goal.loop-frag-preserved
loop-frag-preserved c = record {
  all = one_ordered (contents leaf_cmp c.loop-frag.sent) (contents leaf_cmp c.pop_first.new.self) (contents leaf_cmp c.args.sent) c.in-Some.field-0-0 c.in-Some.frag c.in-Some.ensures.value c.in-Some.ensures.rest c.loop-frag.frags.items c.push.new.self.items c.loop-frag.invariant.all c.in_ok-push.ensures.items;
  sent = ordered_sent (contents leaf_cmp c.loop-frag.sent) (contents leaf_cmp c.pop_first.new.self) (contents leaf_cmp c.args.sent) c.in-Some.field-0-0 c.in-Some.frag c.in-Some.ensures.value c.in-Some.ensures.rest c.loop-frag.frags.items c.push.new.self.items c.loop-frag.invariant.to_come c.loop-frag.invariant.sent c.in_ok-push.ensures.items;
  to_come = left_sendable (contents leaf_cmp c.loop-frag.sent) (contents leaf_cmp c.pop_first.new.self) (contents leaf_cmp c.args.sent) c.in-Some.field-0-0 c.in-Some.frag c.in-Some.ensures.value c.in-Some.ensures.rest c.loop-frag.invariant.to_come c.in-Some.ensures.removed;
}
