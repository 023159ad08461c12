use Rattle.sessions.proofs.Common.{contents, nat_cmp, rules}
use Rattle.sessions.proofs.RowLaws.{rows_alike, both_behind}
use Rattle.sessions.proofs.session_table.Sessions.clear_changed.Goals as goal

pub returns-clause-stored : goal.returns-clause-stored
returns-clause-stored c =
    rw (← c.self.view_is) (both_behind c.self.inside.forgotten _ _ _ _ (rows_alike (contents nat_cmp c.self.inside.indices) c.self.inside.sessions.items c.clear.new.sessions.items c.clear.ensures.rows) (search rules))
