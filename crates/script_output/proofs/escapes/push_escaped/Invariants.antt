use Rattle.script_output.proofs.Common.{escaped, take, ◌++◌, ◌≡◌}
use Rattle.script_output.proofs.escapes.push_escaped.Given as goal

-- the bytes passed are in the text
abbrev pub invariant-loop-byte : goal.invariant-loop-byte
invariant-loop-byte l = l.out.items ≡ l.initial.out.items ++ escaped (take l.byte-index l.bytes)
