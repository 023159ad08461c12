use Rattle.subtree_map.proofs.Common.{Hint, arith}
use Rattle.subtree_map.proofs.RowLaws.{hinted_row}
use Rattle.subtree_map.proofs.list_changes.hint.Goals as goal

pub returns-in-Some : goal.returns-in-Some
returns-in-Some c =
    hinted_row c.args.rows.now c.replace.new.self c.args.leaf.now c.args.rank c.in-Some.entry (record { known = Hint c.args.rank; promised = c.in-Some.entry.promised }) c.in-Some.ensures.0 (c.in-Some.ensures.1 c.args.rank) c.replace.ensures.inserted
    (omega (arith, c.replace.ensures.room))
