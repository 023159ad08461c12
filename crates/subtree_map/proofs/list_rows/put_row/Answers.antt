use Rattle.subtree_map.proofs.RowLaws.{put_in, put_out}
use Rattle.subtree_map.proofs.list_rows.put_row.Goals as goal

pub returns-in-Some : goal.returns-in-Some
returns-in-Some c = rw c.in-Some.is (put_in c.args.rows.now c.insert.new.self c.args.leaf c.in-Some.entry c.insert.result c.insert.ensures.value c.insert.ensures.inserted c.insert.ensures.room)

pub returns-in-None : goal.returns-in-None
returns-in-None c = rw c.in-None.is (put_out c.args.rows.now c.remove.new.self c.args.leaf c.remove.ensures.removed c.remove.ensures.room)
