-- The numbers of what is kept ascend.
use Rattle.sessions.specs.Rooms.{table}
use Rattle.session_rows.proofs.KeptLaws.{kept_ascend}
use Rattle.session_rows.proofs.storing.client_edit.Goals as goal

pub row_value-requires : goal.row_value-requires
row_value-requires c =
    rw (c.in-Some.ensures.1, c.in-Some.ensures.2) (kept_ascend c.requires.0 c.args.history.now (table c.args.sessions.now) c.args.client c.requires.1)
