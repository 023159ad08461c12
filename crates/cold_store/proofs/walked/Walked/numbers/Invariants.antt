-- The entries to come lead to the number that all of them lead to.
use Rattle.cold_store.proofs.Common.{contents, dentry_cmp, end_number, first_number, length, passed_all, ◌≡◌, ◌≤◌}
use Rattle.std.specs.FinMap as map
use Rattle.cold_store.proofs.walked.Walked.numbers.Given as goal

abbrev pub invariant-loop-next : goal.invariant-loop-next
invariant-loop-next l = record {
  from : first_number l.rank.0 ≤ l.next;
  most : l.next ≤ end_number l.rank.0;
  end_is : l.end ≡ end_number l.rank.0;
  whole : passed_all l.next (end_number l.rank.0) l.rows ≡ passed_all (first_number l.rank.0) (end_number l.rank.0) (map.entries (contents dentry_cmp l.self.entries));
}

abbrev pub decreases-loop-next : goal.decreases-loop-next
decreases-loop-next l = length l.rows
