use Rattle.cluster_core.proofs.clusters.Cluster.is_under.Goals as goal

pub returns : goal.returns
returns g c = rw (← c.self.view_is) c.is_under.ensures
