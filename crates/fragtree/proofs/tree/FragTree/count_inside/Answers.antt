-- The leaves inside f are counted from its first hash on.
use Rattle.fragtree.proofs.Common.{IsPick, arith, subst, sym}
use Rattle.fragtree.proofs.Counted.{none_counted, first_counted, next_counted, all_counted}
use Rattle.fragtree.proofs.Walks.{inside_few}
use Rattle.fragtree.proofs.tree.FragTree.count_inside.Goals as goal

pub returns-then-bits : goal.returns-then-bits
returns-then-bits c =
    sym (none_counted c.args.self.now c.len.ensures.valid c.args.f c.value.ensures.valid c.pick-leaf.result (subst (λ n. IsPick c.args.self.now n c.pick-leaf.result) c.value.ensures.value c.pick-leaf.ensures) (omega (arith, c.if-bits.true, c.bits.ensures.bits, c.bits-2.ensures.bits)))

pub loop-f-init : goal.loop-f-init
loop-f-init c =
    first_counted c.args.self.now c.len.ensures.valid c.args.f c.value.ensures.valid c.pick-leaf.result (subst (λ n. IsPick c.args.self.now n c.pick-leaf.result) c.value.ensures.value c.pick-leaf.ensures) (omega (arith, c.if-bits.false, c.bits.ensures.bits, c.bits-2.ensures.bits))

pub overflow_add-count : goal.overflow_add-count
overflow_add-count c = omega (arith, c.loop-f.invariant.left, inside_few c.args.f c.args.self.now, c.len.ensures.valid.few)

pub loop-f-preserved : goal.loop-f-preserved
loop-f-preserved c =
    next_counted c.args.self.now c.len.ensures.valid c.args.f c.value.ensures.valid c.loop-f.leaf c.loop-f.count c.loop-f.invariant c.pick-leaf-in-loop-f.result
    (omega (arith, c.loop-f-test.true, c.last_hash.ensures.last, c.last_hash-in-loop-f.ensures.last))
    (subst (λ n. IsPick c.args.self.now n c.pick-leaf-in-loop-f.result) c.last_hash-in-loop-f-2.ensures.last c.pick-leaf-in-loop-f.ensures)

pub returns : goal.returns
returns c =
    all_counted c.args.self.now c.len.ensures.valid c.args.f c.value.ensures.valid c.loop-f.leaf c.loop-f.count c.loop-f.invariant
    (omega (arith, c.loop-f-test.false, c.last_hash.ensures.last, c.last_hash-in-loop-f.ensures.last))
