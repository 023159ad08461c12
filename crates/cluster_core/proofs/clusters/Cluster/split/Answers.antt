use Rattle.cluster_core.proofs.Common.{sym, table, ◌∙◌}
use Rattle.cluster_core.proofs.Worked.{at_rank}
use Rattle.cluster_core.proofs.clusters.Cluster.split.Goals as goal

pub returns-clause-split : goal.returns-clause-split
returns-clause-split g c past =
    at_rank _ _ _ (sym c.is_rank.ensures ∙ c.if-not-is_rank.false)
    (rw (← c.self.view_is) (c.split_at.ensures.split c.self.inside.parts.given.numbers.items c.self.inside.parts.waiting.inboxes (table c.self.inside.parts.given.sessions) past))

pub returns-clause-uses : goal.returns-clause-uses
returns-clause-uses g c = at_rank _ _ _ (sym c.is_rank.ensures ∙ c.if-not-is_rank.false) (rw (← c.self.view_is) c.split_at.ensures.came)
