use Rattle.script_output.proofs.Common.{escaped, take}
use Rattle.script_output.proofs.PushLemmas.{stopped}
use Rattle.script_output.proofs.escapes.push_escaped.Goals as goal

pub returns-in_err-push_escaped_byte : goal.returns-in_err-push_escaped_byte
returns-in_err-push_escaped_byte c = stopped c.args.out.now.items c.loop-byte.out.items c.push_escaped_byte.new.out.items (escaped (take c.loop-byte.byte-index c.args.bytes.now)) (escaped c.args.bytes.now) c.from_residual.result c.from_residual.ensures.0 c.loop-byte.invariant c.in_err-push_escaped_byte.ensures
