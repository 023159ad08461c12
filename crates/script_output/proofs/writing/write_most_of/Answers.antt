use Rattle.script_output.proofs.WriteLemmas.{appends_more}
use Rattle.script_output.proofs.writing.write_most_of.Goals as goal

pub loop-done-preserved : goal.loop-done-preserved
loop-done-preserved g c =
    appends_more _ _ _ c.args.bytes.now c.split_at.result.1.now c.loop-done.done c.in-Ok.taken c.loop-done.invariant.within c.split_at.ensures.back c.in-Ok.ensures.bound
    c.loop-done.invariant.written c.in-Ok.ensures.bytes
