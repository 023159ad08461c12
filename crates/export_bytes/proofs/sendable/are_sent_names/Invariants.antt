use Rattle.export_bytes.proofs.Common.{drop, is_sent_name, list_all, ◌≡◌}
use Rattle.export_bytes.proofs.sendable.are_sent_names.Given as goal

abbrev pub invariant-loop-sent : goal.invariant-loop-sent
invariant-loop-sent l = list_all is_sent_name (drop l.sent-index l.names) ≡ list_all is_sent_name l.names
