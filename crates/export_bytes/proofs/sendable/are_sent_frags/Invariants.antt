use Rattle.export_bytes.proofs.Common.{drop, is_sent_frag, list_all, ◌≡◌}
use Rattle.export_bytes.proofs.sendable.are_sent_frags.Given as goal

abbrev pub invariant-loop-frag : goal.invariant-loop-frag
invariant-loop-frag l = list_all is_sent_frag (drop l.frag-index l.frags) ≡ list_all is_sent_frag l.frags
