-- The entries before those that are left were counted.
use Rattle.inode_table.proofs.Common.{DirTable, contents, dentry_cmp, length, ◌≡◌}
use Rattle.inode_table.proofs.CountingLaws.{IsCountedTo}
use Rattle.inode_table.proofs.counting.count_entries.Given as goal

abbrev pub invariant-loop-entry : goal.invariant-loop-entry
invariant-loop-entry l = record {
  counted : IsCountedTo (contents dentry_cmp l.entries) l.rest l.dirs.counts l.dirs.pins;
  left : ◌≡◌ {A = DirTable} l.dirs (record l.fn.dirs { counts = l.dirs.counts; pins = l.dirs.pins });
}

abbrev pub decreases-loop-entry : goal.decreases-loop-entry
decreases-loop-entry l = length l.rest
