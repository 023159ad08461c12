use Rattle.cluster_core.proofs.Common.{Core, ap, arith}
use Rattle.cluster_core.proofs.Counted.{arrive_free}
use Rattle.cluster_core.proofs.clusters.Cluster.arrive.Goals as goal

pub returns-in-Err-clause-counted : goal.returns-in-Err-clause-counted
returns-in-Err-clause-counted g c =
    let old = c.self.inside.parts.waiting.inboxes in
    let none = arrive_free old c.arrive.new.self c.args.rank c.args.request c.in-Err.refusal c.in-Err.ensures in
    omega (arith, none, ap (λ (k : Core). k.faults) c.self.view_is)
