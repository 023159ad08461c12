use Rattle.cluster_core.proofs.Common.{[], table}
use Rattle.cluster_core.proofs.ImportLaws.{handed_so, imported_so, kept_by, refused_by}
use Rattle.cluster_core.proofs.clusters.Cluster.import.Goals as goal

pub returns-in_err-import-clause-imported : goal.returns-in_err-import-clause-imported
returns-in_err-import-clause-imported g c past =
    let w = c.self.inside.parts.waiting in
    let given = c.self.inside.parts.given in
    let e = c.in_err-import.ensures in
    rw (← c.self.view_is) (refused_by c.self.inside.parts.tree c.import.new.self c.import.ensures.roots given.numbers.items w.inboxes w.pins (table given.sessions) past (c.args.ino, c.args.frag) c.args.bytes.now
    c.from_residual.result c.in_err-import.field-0.0 c.from_residual.ensures.0 c.from_residual.ensures.1 e.refused e.left e.stands)

pub returns-in_err-import-clause-uses : goal.returns-in_err-import-clause-uses
returns-in_err-import-clause-uses g c =
    let w = c.self.inside.parts.waiting in
    let given = c.self.inside.parts.given in
    rw (← c.self.view_is) (kept_by c.self.inside.parts.tree c.import.new.self c.import.ensures.roots given.numbers.items w.inboxes w.pins (table given.sessions) [] (c.args.ino, c.args.frag) c.args.bytes.now
    c.from_residual.result c.in_err-import.field-0.0 c.from_residual.ensures.0 c.from_residual.ensures.1 c.in_err-import.ensures.caches)

pub returns-clause-imported : goal.returns-clause-imported
returns-clause-imported g c past =
    let w = c.self.inside.parts.waiting in
    let given = c.self.inside.parts.given in
    rw (← c.self.view_is) (imported_so c.self.inside.parts.tree c.import.new.self c.import.ensures.roots given.numbers.items w.inboxes w.pins (table given.sessions) past (c.args.ino, c.args.frag) c.args.bytes.now
    c.in_ok-import.ensures.imported c.import.ensures.shown)

pub returns-clause-uses : goal.returns-clause-uses
returns-clause-uses g c =
    let w = c.self.inside.parts.waiting in
    let given = c.self.inside.parts.given in
    rw (← c.self.view_is) (handed_so c.self.inside.parts.tree c.import.new.self c.import.ensures.roots given.numbers.items w.inboxes w.pins (table given.sessions) [] (c.args.ino, c.args.frag) c.args.bytes.now
    c.in_ok-import.ensures.imported)
