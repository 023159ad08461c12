use Rattle.cluster_core.proofs.Common.{sym, table, ◌∙◌}
use Rattle.cluster_core.proofs.Worked.{at_rank}
use Rattle.cluster_core.proofs.clusters.Cluster.begin_commit.Goals as goal

pub returns-clause-begun : goal.returns-clause-begun
returns-clause-begun g c past =
    at_rank _ _ _ (sym c.is_rank.ensures ∙ c.if-not-is_rank.false)
    (rw (← c.self.view_is) (c.begin_at.ensures.begun c.self.inside.parts.given.numbers.items c.self.inside.parts.waiting.inboxes c.self.inside.parts.waiting.pins (table c.self.inside.parts.given.sessions) past))

pub returns-clause-uses : goal.returns-clause-uses
returns-clause-uses g c = at_rank _ _ _ (sym c.is_rank.ensures ∙ c.if-not-is_rank.false) (rw (← c.self.view_is) c.begin_at.ensures.came)
