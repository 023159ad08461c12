-- What is to come of the names makes of those that are clean what all of them would.
use Rattle.cached_frag.proofs.Common.{contents, key_cmp, length, patched, with_marks, ◌≡◌, ◌≤◌}
use Rattle.cached_frag.proofs.named.settling.make_clean.Given as goal

abbrev pub invariant-loop-name : goal.invariant-loop-name
invariant-loop-name l = record {
  whole : with_marks (contents key_cmp l.clean) l.name-iterator ≡ patched (contents key_cmp l.fn.clean) (contents key_cmp l.fn.dirty);
  few : length l.name-iterator ≤ l.clean.room;
}
