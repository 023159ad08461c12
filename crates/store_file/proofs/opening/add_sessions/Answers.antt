use Rattle.std.proofs.Common.{arith, subst, sym}
use Rattle.std.proofs.lemmas.Result.{on_ok_weaker}
use Rattle.sqlite_trees.specs.View.{IsClean}
use Rattle.sqlite_store.specs.FileStore.{schema_of, view}
use Rattle.store_file.specs.Names.{HasNoName}
use Rattle.store_file.proofs.OpenLaws.{free_for, fresh_added}
use Rattle.store_file.proofs.opening.add_sessions.Goals as goal

pub create-requires : goal.create-requires
create-requires g c clean =
    free_for c.args.store.now c.sessions_table.result c.requires.numbered c.requires.shapes
    (subst (HasNoName (schema_of c.args.store.now)) (sym c.sessions_table.ensures.name) c.requires.free) c.sessions_table.ensures.shape

pub returns : goal.returns
returns g c = on_ok_weaker c.commit.result
    (λ done clean.
    let mid = view c.create.new.self in
    let early : IsClean mid = omega (arith, c.commit.ensures.clean) in
    let first : IsClean (view c.args.store.now) = omega (arith, c.create.ensures.quiet.clean) in
    fresh_added c.args.store.now mid (view c.commit.new.self) c.sessions_table.result c.requires.ready c.requires.shapes c.sessions_table.ensures.shape
    (c.in_ok-create.ensures.ok early) (done clean) first)
    c.commit.ensures.ok
