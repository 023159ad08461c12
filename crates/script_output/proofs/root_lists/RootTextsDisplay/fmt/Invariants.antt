use Rattle.script_output.proofs.Common.{HasWritten, IsPlainFormatter, flat_map, root_text, take}
use Rattle.script_output.proofs.root_lists.RootTextsDisplay.fmt.Given as goal

-- the roots passed are written
abbrev pub invariant-loop-root : goal.invariant-loop-root
invariant-loop-root g l =
    IsPlainFormatter l.initial.f → HasWritten g.W.Write.write_str_gives l.initial.f (flat_map root_text (take l.root-index l.root-items)) l.f
