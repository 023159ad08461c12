use Rattle.subtree_map.proofs.Common.{ap, sym, ◌==◌, ◌∙◌}
use Rattle.subtree_map.proofs.Listed.{some_bound}
use Rattle.subtree_map.proofs.ListsLaws.{on_err}
use Rattle.subtree_map.proofs.subtrees.Subtrees.tell_bounds.Goals as goal

pub returns-clause-memory : goal.returns-clause-memory
returns-clause-memory c =
    on_err c.learn.result
    (some_bound c.args.self.now.roots c.args.dirs.now.homes c.args.dirs.now.trees (c.args.dir, c.args.frag) c.in-Ok.bounds.items
    (ap (λ n. n == 0) (sym c.in-Ok.bounds.ok.0) ∙ sym c.is_empty.ensures ∙ c.if-is_empty.false) c.in-Ok.ensures.bounds)
