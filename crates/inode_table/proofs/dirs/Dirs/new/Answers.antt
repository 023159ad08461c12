-- The table of the root alone.
use Rattle.inode_table.proofs.Common.{None, ap, counts_with_root, covers_of, homes_of, pins_of, ◌∙◌}
use Rattle.inode_table.proofs.CountRows.{no_counts, no_pins}
use Rattle.inode_table.proofs.RowLaws.{no_homes, no_leaves}
use Rattle.inode_table.proofs.Tables.{empty_table}
use Rattle.inode_table.proofs.dirs.Dirs.new.Goals as goal

pub invariant_of-result : goal.invariant_of-result
invariant_of-result c = rw c.new.ensures.empty (rw no_homes (rw no_leaves empty_table))

pub returns : goal.returns
returns c = record {
  homes = ap homes_of c.new.ensures.empty ∙ no_homes;
  trees = ap (covers_of None) c.new.ensures.empty ∙ no_leaves;
  counts = ap (counts_with_root 0) c.new.ensures.empty ∙ no_counts;
  pins = ap pins_of c.new.ensures.empty ∙ no_pins;
}
