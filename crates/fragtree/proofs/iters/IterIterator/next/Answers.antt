-- The pick of the hash where the leaves to come begin is the next of them.
use Rattle.fragtree.proofs.Common.{arith, drop, sym, ◌^◌, ◌∙◌}
use Rattle.fragtree.proofs.Walks.{none_at_end, next_stands, next_is, next_tiles}
use Rattle.fragtree.proofs.iters.IterIterator.next.Goals as goal

pub returns-then-self-clause-steps : goal.returns-then-self-clause-steps
returns-then-self-clause-steps c =
    let none = sym c.self.view_is ∙ none_at_end c.self.inside.next (2 ^ 24) (drop c.self.inside.done c.self.inside.tree.now) c.self.invariant.2 c.if-self.true in
    (none, none)

pub invariant_of-self : goal.invariant_of-self
invariant_of-self c =
    let (few, tree, tiles) = c.self.invariant in (
      omega (arith, next_stands c.self.inside.tree.now c.self.inside.done c.self.inside.next tiles c.if-self.false c.pick-leaf.result c.pick-leaf.ensures),
      tree,
      next_tiles c.self.inside.tree.now c.self.inside.done c.self.inside.next tiles c.if-self.false c.pick-leaf.result c.pick-leaf.ensures _ c.last_hash.ensures.last,
    )

pub returns-clause-steps : goal.returns-clause-steps
returns-clause-steps c = sym c.self.view_is ∙ next_is c.self.inside.tree.now c.self.inside.done c.self.inside.next c.self.invariant.2 c.if-self.false c.pick-leaf.result c.pick-leaf.ensures
