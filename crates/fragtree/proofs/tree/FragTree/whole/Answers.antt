-- Where nothing is split, `*` is the leaf.
use Rattle.fragtree.proofs.Common.{contents, frag_cmp}
use Rattle.fragtree.proofs.Made.{whole_keeps}
use Rattle.fragtree.proofs.tree.FragTree.whole.Goals as goal

pub invariant_of-result : goal.invariant_of-result
invariant_of-result c = (whole_keeps (contents frag_cmp c.new.result) c.new.ensures.empty).1

pub returns : goal.returns
returns c = (whole_keeps (contents frag_cmp c.new.result) c.new.ensures.empty).0
