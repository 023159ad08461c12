use Rattle.std.proofs.Common.{arith}
use Rattle.sqlite_trees.specs.View.{IsClean}
use Rattle.kept_store.proofs.KeptLaws.{opened}
use Rattle.kept_store.proofs.kept.Kept.open.Goals as goal

pub invariant_of-result : goal.invariant_of-result
invariant_of-result g c = rw c.none.ensures (λ clean.
    let old = g.T.Store.view c.args.tables in
    let new = g.T.Store.view c.read_objects.new.trees in
    let early : IsClean old = omega (arith, c.read_objects.ensures.quiet.clean) in
    let fresh = c.requires early in
    opened old new (g.T.Store.recovers c.args.tables) (g.T.Store.recovers c.read_objects.new.trees) c.in-Ok.objects fresh (c.in-Ok.ensures.same clean)
    (c.in-Ok.ensures.ok clean) c.read_objects.ensures.quiet.outcomes (λ db may. g.met.T.Store.settled c.args.tables db fresh.is_open may))
