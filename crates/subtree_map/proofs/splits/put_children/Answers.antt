use Rattle.subtree_map.proofs.Common.{Fragment, ap, arith, leaf_in_dir, one_shl, refl, subst, ◌+◌, ◌<◌, ◌^◌, ◌∙◌}
use Rattle.std.specs.FinMap as map
use Rattle.subtree_map.proofs.ChildRows.{children_more, children_none}
use Rattle.subtree_map.proofs.splits.put_children.Goals as goal

pub insert-requires : goal.insert-requires
insert-requires c =
    let below : c.loop-i.i < 2 ^ c.args.bits = subst (λ n. c.loop-i.i < n) (one_shl c.args.bits 32 (omega arith)) c.loop-i-test.true in
    omega (arith, c.loop-i.invariant.room, c.requires.room)

pub loop-i-init : goal.loop-i-init
loop-i-init c = record { children = children_none c.args.dir.0 c.args.frag c.args.bits c.args.rank _; promises = refl; room = omega arith }

pub loop-i-preserved : goal.loop-i-preserved
loop-i-preserved c = record {
  children =
      children_more c.args.dir.0 c.args.frag c.args.bits c.args.rank _ c.loop-i.roots.roots _ c.loop-i.i (c.loop-i.i + 1) (omega arith) c.loop-i.invariant.children
      (c.insert.ensures.roots ∙ ap (λ (g : Fragment). map.insert c.loop-i.roots.roots (leaf_in_dir c.args.dir.0 g) c.args.rank) c.child.ensures);
  promises = c.insert.ensures.promises ∙ c.loop-i.invariant.promises;
  room = omega (arith, c.loop-i.invariant.room, c.insert.ensures.room);
}
