use Rattle.cluster_core.proofs.clusters.Cluster.end_commit.Goals as goal

pub returns-in-Err-clause-uses : goal.returns-in-Err-clause-uses
returns-in-Err-clause-uses g c = rw (← c.self.view_is) c.in-Err.ensures.came

pub returns-clause-uses : goal.returns-clause-uses
returns-clause-uses g c = rw (← c.self.view_is) c.in_default.ensures.came
