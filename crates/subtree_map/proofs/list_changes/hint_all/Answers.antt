use Rattle.subtree_map.proofs.RowLaws.{hints_same}
use Rattle.subtree_map.proofs.list_changes.hint_all.Goals as goal

pub loop-init : goal.loop-init
loop-init c = hints_same c.args.rows.now
