use Rattle.subtree_map.proofs.Common.{Leaf, ap, arith, contents, get_left, leaf_cmp, ◌∙◌}
use Rattle.std.specs.FinMap as map
use Rattle.subtree_map.proofs.TakenOut.{shorter}
use Rattle.subtree_map.proofs.list_changes.drop_rows.Goals as goal

pub loop-leaf-smaller : goal.loop-leaf-smaller
loop-leaf-smaller c = shorter (contents leaf_cmp c.loop-leaf.rows) _ c.in-Some.leaf c.in-Some.ensures.1 c.remove.ensures.removed

pub loop-leaf-preserved : goal.loop-leaf-preserved
loop-leaf-preserved c = record {
  others = λ leaf apart.
      ap (λ m. map.get m leaf) c.remove.ensures.removed ∙ get_left (contents leaf_cmp c.loop-leaf.rows) c.in-Some.leaf leaf (λ same. apart (ap (λ (k : Leaf). k.0.0) same ∙ c.in-Some.ensures.0))
      ∙ c.loop-leaf.invariant.others leaf apart;
  room = omega (arith, c.remove.ensures.room, c.loop-leaf.invariant.room);
}
