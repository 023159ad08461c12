use Rattle.script_output.proofs.Common.{Appends, length, take, ◌-◌, ◌≤◌}
use Rattle.script_output.proofs.writing.write_most_of.Given as goal

-- the bytes so far are written
abbrev pub invariant-loop-done : goal.invariant-loop-done
invariant-loop-done g l = record {
  within : l.done ≤ length l.bytes;
  written : Appends (g.W.Write.contents l.initial.writer) (g.W.Write.contents l.writer) (take l.done l.bytes);
}

abbrev pub decreases-loop-done : goal.decreases-loop-done
decreases-loop-done g l = length l.bytes - l.done
