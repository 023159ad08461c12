-- What is left to read goes on with the names so far as the whole does.
use Rattle.export_bytes.proofs.Common.{items_at, length, sent_name_at, ◌-◌, ◌≡◌, ◌≤◌}
use Rattle.export_bytes.proofs.Items.{preceded}
use Rattle.export_bytes.proofs.reading.names_at.Given as goal

abbrev pub invariant-names : goal.invariant-names
invariant-names l = record {
  few : length l.names.items ≤ l.count;
  parts : items_at sent_name_at l.count l.bytes ≡ preceded l.names.items (items_at sent_name_at (l.count - length l.names.items) l.rest);
}

abbrev pub decreases-names : goal.decreases-names
decreases-names l = l.count - length l.names.items
