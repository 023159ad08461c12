use Rattle.subtree_map.proofs.Common.{ap, arith, length, rows_from, sym, ◌∙◌}
use Rattle.subtree_map.proofs.RootRows.{next_rows}
use Rattle.subtree_map.proofs.roots.RootsIterator.next.Goals as goal

pub returns-clause-steps : goal.returns-clause-steps
returns-clause-steps c =
    sym c.self.view_is ∙ ap (rows_from c.self.inside.lists.now.roots) c.in_ok-leaf.was
    ∙ next_rows c.self.inside.lists.now.roots c.in_ok-leaf.leaf c.in-Some.rank c.first_after-self-inside.result (sym c.in-Some.ensures) c.first_after-self-inside.ensures

pub returns-clause-goes : goal.returns-clause-goes
returns-clause-goes c =
    let longer = ap length (returns-clause-steps c) in
    record { on = λ finite. (tt, tt, omega (arith, longer)); keeps = tt; rests = λ finite. tt }
