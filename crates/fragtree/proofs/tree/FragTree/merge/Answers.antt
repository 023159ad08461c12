-- Descents end at the fragment, so it is a leaf in place of those inside it.
use Rattle.fragtree.proofs.Common.{contents, frag_cmp}
use Rattle.fragtree.proofs.Kept.{beyond, inside_below, merge_done}
use Rattle.fragtree.proofs.tree.FragTree.merge.Goals as goal

pub close-requires-clause-beyond : goal.close-requires-clause-beyond
close-requires-clause-beyond c = beyond (contents frag_cmp c.self.inside.splits) (contents frag_cmp c.reserve.new.self) (contents frag_cmp c.reserve.new.self) c.self.inside.count c.args.self.now c.self.invariant c.self.view_is c.reserve.ensures.same c.args.f c.bits.ensures.valid c.in_default.ensures.can

pub overflow_sub-self : goal.overflow_sub-self
overflow_sub-self c = inside_below (contents frag_cmp c.self.inside.splits) (contents frag_cmp c.reserve.new.self) (contents frag_cmp c.close.new.splits) c.self.inside.count c.args.self.now c.self.invariant c.self.view_is c.reserve.ensures.same c.args.f _ c.count_inside-inside.ensures

pub invariant_of-self-2 : goal.invariant_of-self-2
invariant_of-self-2 c = (merge_done (contents frag_cmp c.self.inside.splits) (contents frag_cmp c.reserve.new.self) (contents frag_cmp c.close.new.splits) c.self.inside.count c.args.self.now c.self.invariant c.self.view_is c.reserve.ensures.same c.args.f _ c.bits.ensures.valid c.in_default.ensures.can c.count_inside-inside.ensures c.close.ensures.some c.close.ensures.closed).0

pub returns-clause-merged : goal.returns-clause-merged
returns-clause-merged c = (merge_done (contents frag_cmp c.self.inside.splits) (contents frag_cmp c.reserve.new.self) (contents frag_cmp c.close.new.splits) c.self.inside.count c.args.self.now c.self.invariant c.self.view_is c.reserve.ensures.same c.args.f _ c.bits.ensures.valid c.in_default.ensures.can c.count_inside-inside.ensures c.close.ensures.some c.close.ensures.closed).1

pub returns-clause-valid : goal.returns-clause-valid
returns-clause-valid c = (merge_done (contents frag_cmp c.self.inside.splits) (contents frag_cmp c.reserve.new.self) (contents frag_cmp c.close.new.splits) c.self.inside.count c.args.self.now c.self.invariant c.self.view_is c.reserve.ensures.same c.args.f _ c.bits.ensures.valid c.in_default.ensures.can c.count_inside-inside.ensures c.close.ensures.some c.close.ensures.closed).0.tree
