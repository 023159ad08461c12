use Rattle.cluster_core.proofs.Common.{sym, ◌∙◌}
use Rattle.cluster_core.proofs.Worked.{at_rank}
use Rattle.cluster_core.proofs.clusters.Cluster.grant.Goals as goal

pub returns-clause-granted : goal.returns-clause-granted
returns-clause-granted g c past = at_rank _ _ _ (sym c.is_rank.ensures ∙ c.if-not-is_rank.false) (rw (← c.self.view_is) (c.grant_first.ensures.granted past))

pub returns-clause-uses : goal.returns-clause-uses
returns-clause-uses g c = at_rank _ _ _ (sym c.is_rank.ensures ∙ c.if-not-is_rank.false) (rw (← c.self.view_is) c.grant_first.ensures.uses)
