use Rattle.std.proofs.Common.{arith}
use Rattle.std.proofs.lemmas.Result.{on_ok_weaker}
use Rattle.sqlite_trees.specs.View.{IsClean}
use Rattle.sqlite_store.specs.FileStore.{view}
use Rattle.store_file.proofs.OpenLaws.{fresh_on}
use Rattle.store_file.proofs.versions.set_version.Goals as goal

pub returns : goal.returns
returns g c = on_ok_weaker c.commit.result
    (λ done clean.
    let mid = view c.set_version.new.self in
    let early : IsClean mid = omega (arith, c.commit.ensures.clean) in
    let first : IsClean (view c.args.store.now) = omega (arith, c.set_version.ensures.quiet.clean) in
    fresh_on (view c.args.store.now) mid (view c.commit.new.self) _ _ (c.requires first) (c.in_ok-set_version.ensures.ok early) (done clean))
    c.commit.ensures.ok
