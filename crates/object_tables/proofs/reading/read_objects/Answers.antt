use Rattle.std.proofs.Common.{ap, arith, refl}
use Rattle.sqlite_trees.specs.View.{IsClean, View}
use Rattle.object_tables.proofs.ReadLaws.{all_read}
use Rattle.object_tables.proofs.reading.read_objects.Goals as goal

pub returns-clause-ok : goal.returns-clause-ok
returns-clause-ok g c clean =
    let old = g.T.Store.view c.args.trees.now in
    let mid = g.T.Store.view c.read_headers.new.trees in
    let early : IsClean mid = omega (arith, c.read_pairs.ensures.quiet.clean) in
    all_read (old.trees 0) (mid.trees 1) _ old.trees refl (ap (λ (v : View). v.trees 1) (c.in_ok-read_headers.ensures.same early))
    (c.in_ok-read_pairs.ensures.ok clean (old.trees 0) (c.in_ok-read_headers.ensures.ok early))
