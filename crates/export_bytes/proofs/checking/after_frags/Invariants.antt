-- What is left goes on after the last one as the whole does.
use Rattle.export_bytes.proofs.Common.{None, after_rising, is_frag_before, option_map, sent_as, sent_frag_at, ◌≡◌}
use Rattle.export_bytes.proofs.checking.after_frags.Given as goal

abbrev pub invariant-frags : goal.invariant-frags
invariant-frags l = after_rising is_frag_before sent_frag_at (option_map sent_as l.last) l.left l.rest ≡ after_rising is_frag_before sent_frag_at None l.count l.bytes

abbrev pub decreases-frags : goal.decreases-frags
decreases-frags l = l.left
