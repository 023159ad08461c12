-- What is left goes on after the last one as the whole does.
use Rattle.export_bytes.proofs.Common.{None, after_rising, is_name_before, named_as, option_copied, option_map, sent_name_at, ◌≡◌}
use Rattle.export_bytes.proofs.checking.after_names.Given as goal

abbrev pub invariant-names : goal.invariant-names
invariant-names l = after_rising is_name_before sent_name_at (option_map named_as (option_copied l.last)) l.left l.rest ≡ after_rising is_name_before sent_name_at None l.count l.bytes

abbrev pub decreases-names : goal.decreases-names
decreases-names l = l.left
