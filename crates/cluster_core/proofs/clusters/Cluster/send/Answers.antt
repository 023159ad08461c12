use Rattle.cluster_core.proofs.Common.{table}
use Rattle.cluster_core.proofs.SendLaws.{sent_so}
use Rattle.cluster_core.proofs.clusters.Cluster.send.Goals as goal

pub returns-clause-sent : goal.returns-clause-sent
returns-clause-sent g c past =
    let w = c.self.inside.parts.waiting in
    let given = c.self.inside.parts.given in
    rw (← c.self.view_is) (sent_so c.self.inside.parts.tree c.send.new.self given.numbers.items w.inboxes w.pins (table given.sessions) past (c.args.ino, c.args.frag) c.send.ensures.tree c.send.ensures.roots c.in_ok-bytes.bytes c.in_ok-bytes.ensures.sent)
