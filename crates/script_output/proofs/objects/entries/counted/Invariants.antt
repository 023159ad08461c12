-- The counts so far, with the pairs to come, give what all pairs give; and there are no more than pairs were passed.
use Rattle.script_output.proofs.ObjectCommon.{counted_header, counted_after, drop, ◌+◌, ◌≡◌, ◌≤◌}
use Rattle.script_output.proofs.objects.entries.counted.Given as goal

abbrev pub invariant-loop-key : goal.invariant-loop-key
invariant-loop-key l = record {
  whole : counted_after (record { version = l.version; files = l.files; dirs = l.dirs }) (drop l.key-index l.pairs) ≡ counted_header l.fn.version l.fn.pairs;
  few : l.files + l.dirs ≤ l.key-index;
}
