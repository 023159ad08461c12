-- The leaves inside f up to the last one that was picked are counted.
use Rattle.fragtree.proofs.Common.{span, ◌+◌, ◌-◌}
use Rattle.fragtree.proofs.Counted.{Counts}
use Rattle.fragtree.proofs.tree.FragTree.count_inside.Given as goal

abbrev pub invariant-loop-f : goal.invariant-loop-f
invariant-loop-f l = Counts l.self l.f l.leaf l.count

abbrev pub decreases-loop-f : goal.decreases-loop-f
decreases-loop-f l = l.f.value + span l.f.bits - (l.leaf.value + span l.leaf.bits)
