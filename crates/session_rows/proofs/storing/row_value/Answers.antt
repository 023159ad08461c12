-- One reply more is written.
use Rattle.session_rows.proofs.WriteLaws.{write_one}
use Rattle.session_rows.proofs.storing.row_value.Goals as goal

pub loop-tid-preserved : goal.loop-tid-preserved
loop-tid-preserved c =
    write_one c.args.kept.mark c.args.kept.replies c.loop-tid.tid-iterator c.next.new.self c.loop-tid.row c.push.new.self c.in-Some.tid c.in-Some.reply.now c.in-Some.ensures.steps c.in_ok-push.ensures.row c.loop-tid.invariant
