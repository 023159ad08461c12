-- What is left rises after the last one as the whole does.
use Rattle.export_bytes.proofs.Common.{None, drop, is_frag_before, option_copied, rise, ◌≡◌}
use Rattle.export_bytes.proofs.rising.frags_rise.Given as goal

abbrev pub invariant-loop-frag : goal.invariant-loop-frag
invariant-loop-frag l = rise is_frag_before (option_copied l.last) (drop l.frag-index l.frags) ≡ rise is_frag_before None l.frags
