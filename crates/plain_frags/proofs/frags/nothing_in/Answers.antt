use Rattle.plain_frags.proofs.Rows.{empty_told}
use Rattle.plain_frags.proofs.frags.nothing_in.Goals as goal

pub returns : goal.returns
returns c = empty_told (λ row. (row.now.0.name, row.now.1)) _ c.args.dir.0 c.next_in.result _ _ c.is_none.result c.rows_after-rows.ensures c.next_in.ensures.run c.is_none.ensures
