use Rattle.script_output.proofs.Common.{escaped, take, ◌≡◌}
use Rattle.script_output.proofs.escapes.all_plain.Given as goal

-- the bytes passed print as they are
abbrev pub invariant-loop-byte : goal.invariant-loop-byte
invariant-loop-byte l = escaped (take l.byte-index l.bytes) ≡ take l.byte-index l.bytes
