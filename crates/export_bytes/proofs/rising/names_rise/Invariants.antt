-- What is left rises after the last one as the whole does.
use Rattle.export_bytes.proofs.Common.{None, drop, is_name_before, option_copied, rise, ◌≡◌}
use Rattle.export_bytes.proofs.rising.names_rise.Given as goal

abbrev pub invariant-loop-name : goal.invariant-loop-name
invariant-loop-name l = rise is_name_before (option_copied l.last) (drop l.name-index l.names) ≡ rise is_name_before None l.names
