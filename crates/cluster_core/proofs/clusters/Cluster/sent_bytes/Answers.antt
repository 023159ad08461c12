use Rattle.cluster_core.proofs.Common.{table}
use Rattle.cluster_core.proofs.ToldBytes.{tells_so}
use Rattle.cluster_core.proofs.clusters.Cluster.sent_bytes.Goals as goal

pub returns : goal.returns
returns g c =
    let w = c.self.inside.parts.waiting in
    let given = c.self.inside.parts.given in
    rw (← c.self.view_is) (tells_so c.self.inside.parts.tree given.numbers.items w.inboxes w.pins (table given.sessions) (c.args.ino, c.args.frag) c.sent_bytes.result c.sent_bytes.ensures.spelled c.sent_bytes.ensures.refused)
