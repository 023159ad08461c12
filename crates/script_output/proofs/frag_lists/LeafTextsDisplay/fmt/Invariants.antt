use Rattle.script_output.proofs.Common.{HasWritten, IsPlainFormatter, flat_map, spaced_frag, take}
use Rattle.script_output.proofs.frag_lists.LeafTextsDisplay.fmt.Given as goal

-- the fragments passed are written
abbrev pub invariant-loop-leaf : goal.invariant-loop-leaf
invariant-loop-leaf g l =
    IsPlainFormatter l.initial.f → HasWritten g.W.Write.write_str_gives l.initial.f (flat_map spaced_frag (take l.leaf-index l.leaf-items)) l.f
