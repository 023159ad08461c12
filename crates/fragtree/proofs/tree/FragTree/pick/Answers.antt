-- The descent of the low 24 bits ends at the leaf that contains the hash.
use Rattle.fragtree.proofs.Common.{contents, frag_cmp}
use Rattle.fragtree.proofs.Kept.{pick_ends, pick_is}
use Rattle.fragtree.proofs.tree.FragTree.pick.Goals as goal

pub leaf_of-requires-clause-ends : goal.leaf_of-requires-clause-ends
leaf_of-requires-clause-ends c = pick_ends (contents frag_cmp c.self.inside.splits) _ c.self.invariant.tree c.self.invariant.spells c.args.hash

pub returns : goal.returns
returns c = rw (← c.self.view_is) (pick_is (contents frag_cmp c.self.inside.splits) _ c.self.invariant.tree c.self.invariant.spells c.args.hash c.leaf_of.result c.leaf_of.ensures)
