use Rattle.cluster_core.proofs.Common.{sym, table, ◌∙◌}
use Rattle.cluster_core.proofs.Worked.{at_rank}
use Rattle.cluster_core.proofs.clusters.Cluster.merge.Goals as goal

pub returns-clause-merged : goal.returns-clause-merged
returns-clause-merged g c past =
    at_rank _ _ _ (sym c.is_rank.ensures ∙ c.if-not-is_rank.false)
    (rw (← c.self.view_is) (c.merge_at.ensures.merged c.self.inside.parts.given.numbers.items c.self.inside.parts.waiting.inboxes (table c.self.inside.parts.given.sessions) past))

pub returns-clause-uses : goal.returns-clause-uses
returns-clause-uses g c = at_rank _ _ _ (sym c.is_rank.ensures ∙ c.if-not-is_rank.false) (rw (← c.self.view_is) c.merge_at.ensures.came)
