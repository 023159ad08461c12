-- Leaves that are spelled are the tree's.
use Rattle.fragtree.proofs.Common.{IsTree, arith, contents, frag_cmp, refl}
use Rattle.fragtree.proofs.Spelled.{is_kept, leaves_of-is}
use Rattle.fragtree.proofs.tree.FragTree.from_leaves.Goals as goal

pub invariant_of-result : goal.invariant_of-result
invariant_of-result c =
    (is_kept (contents frag_cmp c.in_ok-splits.splits) c.args.leaves.now _ (record { tiles = c.do_tile.ensures.0 c.if-not-do_tile.false; few = omega (arith, c.if-leaves-gt-MAX_LEAVES.false) }) c.in_ok-splits.ensures.spelled refl).1

pub returns : goal.returns
returns c =
    let tree : IsTree c.args.leaves.now = record { tiles = c.do_tile.ensures.0 c.if-not-do_tile.false; few = omega (arith, c.if-leaves-gt-MAX_LEAVES.false) } in
    record { made = (tree, leaves_of-is (contents frag_cmp c.in_ok-splits.splits) c.args.leaves.now tree c.in_ok-splits.ensures.spelled); memory = tt; several = tt }
