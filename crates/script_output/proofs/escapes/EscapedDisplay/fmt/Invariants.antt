use Rattle.script_output.proofs.Common.{HasWritten, IsPlainFormatter, escaped, take}
use Rattle.script_output.proofs.escapes.EscapedDisplay.fmt.Given as goal

-- the bytes passed are written
abbrev pub invariant-loop-byte : goal.invariant-loop-byte
invariant-loop-byte g l =
    IsPlainFormatter l.initial.f → HasWritten g.W.Write.write_str_gives l.initial.f (escaped (take l.byte-index l.byte-items)) l.f
