-- One split more, and the leaf's children in its place.
use Rattle.fragtree.proofs.Common.{arith, contents, frag_cmp}
use Rattle.fragtree.proofs.Kept.{some_leaf, split_done}
use Rattle.fragtree.proofs.tree.FragTree.split.Goals as goal

pub overflow_sub-self : goal.overflow_sub-self
overflow_sub-self c = some_leaf (contents frag_cmp c.self.inside.splits) (contents frag_cmp c.reserve.new.self) (contents frag_cmp c.insert.new.self) c.self.inside.count c.args.self.now c.self.invariant c.self.view_is c.reserve.ensures.same

pub overflow_add-self : goal.overflow_add-self
overflow_add-self c = omega (arith, (split_done (contents frag_cmp c.self.inside.splits) (contents frag_cmp c.reserve.new.self) (contents frag_cmp c.insert.new.self) c.self.inside.count c.args.self.now c.self.invariant c.self.view_is c.reserve.ensures.same c.args.f c.args.nb _ c.in_default.ensures.can c.insert.ensures.inserted c.child_count.ensures.count).0)

pub invariant_of-self-2 : goal.invariant_of-self-2
invariant_of-self-2 c = (split_done (contents frag_cmp c.self.inside.splits) (contents frag_cmp c.reserve.new.self) (contents frag_cmp c.insert.new.self) c.self.inside.count c.args.self.now c.self.invariant c.self.view_is c.reserve.ensures.same c.args.f c.args.nb _ c.in_default.ensures.can c.insert.ensures.inserted c.child_count.ensures.count).1

pub returns-clause-split : goal.returns-clause-split
returns-clause-split c = (split_done (contents frag_cmp c.self.inside.splits) (contents frag_cmp c.reserve.new.self) (contents frag_cmp c.insert.new.self) c.self.inside.count c.args.self.now c.self.invariant c.self.view_is c.reserve.ensures.same c.args.f c.args.nb _ c.in_default.ensures.can c.insert.ensures.inserted c.child_count.ensures.count).2

pub returns-clause-valid : goal.returns-clause-valid
returns-clause-valid c = (split_done (contents frag_cmp c.self.inside.splits) (contents frag_cmp c.reserve.new.self) (contents frag_cmp c.insert.new.self) c.self.inside.count c.args.self.now c.self.invariant c.self.view_is c.reserve.ensures.same c.args.f c.args.nb _ c.in_default.ensures.can c.insert.ensures.inserted c.child_count.ensures.count).1.tree
