use Rattle.cluster_core.proofs.Common.{sym, table, ◌∙◌}
use Rattle.cluster_core.proofs.Worked.{at_rank}
use Rattle.cluster_core.proofs.clusters.Cluster.start.Goals as goal

pub returns-clause-started : goal.returns-clause-started
returns-clause-started g c past =
    let w = c.self.inside.parts.waiting in
    let given = c.self.inside.parts.given in
    at_rank _ _ _ (sym c.is_rank.ensures ∙ c.if-not-is_rank.false)
    (at_rank _ _ _ (sym c.is_rank-2.ensures ∙ c.if-not-is_rank-2.false)
    (rw (← c.self.view_is) (c.start_at.ensures.started given.numbers.items w.inboxes w.pins (table given.sessions) past)))
