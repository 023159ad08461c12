use Rattle.std.proofs.Common.{arith}
use Rattle.sqlite_trees.specs.View.{IsClean}
use Rattle.kept_store.proofs.KeptLaws.{settled_on}
use Rattle.kept_store.proofs.kept.Kept.settle.Goals as goal

pub invariant_of-self : goal.invariant_of-self
invariant_of-self g c clean =
    let tables = c.self.inside.tables in
    let old = g.T.Store.view tables in
    let early : IsClean old = omega (arith, c.settle.ensures.quiet.clean) in
    settled_on old (g.T.Store.view c.settle.new.self) (g.T.Store.recovers tables) (g.T.Store.recovers c.settle.new.self) c.self.inside.objects c.self.inside.changes
    (c.self.invariant early) c.settle.ensures.same c.settle.ensures.quiet.outcomes
