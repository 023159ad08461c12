-- The whole list is the names so far and the names that are left.
use Rattle.reply_codec.proofs.Common.{list_at, length, ◌-◌, ◌≡◌, ◌≤◌}
use Rattle.reply_codec.proofs.Items.{preceded}
use Rattle.reply_codec.proofs.reading.list_at.Given as goal

abbrev pub invariant-names : goal.invariant-names
invariant-names l = record {
  few : length l.list.items ≤ l.count;
  parts : list_at l.count l.bytes ≡ preceded l.list.items (list_at (l.count - length l.list.items) l.rest);
}

abbrev pub decreases-names : goal.decreases-names
decreases-names l = l.count - length l.list.items
