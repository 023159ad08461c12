use Rattle.cluster_core.proofs.Common.{table}
use Rattle.cluster_core.proofs.clusters.Cluster.freeze.Goals as goal

pub returns-clause-frozen : goal.returns-clause-frozen
returns-clause-frozen g c past =
    let w = c.self.inside.parts.waiting in
    let given = c.self.inside.parts.given in
    rw (← c.self.view_is) (c.freeze_at.ensures.frozen given.numbers.items w.inboxes (table given.sessions) past)
