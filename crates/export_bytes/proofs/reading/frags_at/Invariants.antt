-- What is left to read goes on with the fragments so far as the whole does. Where a fragment's head is left, one stands at the front.
use Rattle.export_bytes.proofs.Common.{StatesHead, items_at, length, sent_frag_at, ◌-◌, ◌≡◌, ◌≤◌}
use Rattle.export_bytes.proofs.Items.{preceded}
use Rattle.export_bytes.proofs.reading.frags_at.Given as goal

abbrev pub invariant-frags : goal.invariant-frags
invariant-frags l = record {
  few : length l.frags.items ≤ l.count;
  parts : items_at sent_frag_at l.count l.bytes ≡ preceded l.frags.items (items_at sent_frag_at (l.count - length l.frags.items) l.rest);
  first : StatesHead l.rest → StatesHead l.bytes;
}

abbrev pub decreases-frags : goal.decreases-frags
decreases-frags l = l.count - length l.frags.items
