use Rattle.namespace_ops.proofs.OtherLeaves.{others_show_the_same}
use Rattle.namespace_ops.proofs.laws.changes_leave_others.Goals as goal

pub returns : goal.returns
returns c = others_show_the_same
