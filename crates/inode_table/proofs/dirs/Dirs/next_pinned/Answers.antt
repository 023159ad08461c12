use Rattle.inode_table.proofs.Common.{None, Some, contents, nat_cmp, sym, ◌∙◌}
use Rattle.std.specs.FinMap as map
use Rattle.sorted_map.proofs.Filters.{all_kept}
use Rattle.inode_table.proofs.PinnedRows.{left_sorted, next_of_rows}
use Rattle.inode_table.proofs.dirs.Dirs.next_pinned.Goals as goal

pub first_pinned-requires : goal.first_pinned-requires
first_pinned-requires c = left_sorted (contents nat_cmp c.self.inside.below) (Some c.in-Some.last) c.iter_after.result c.iter_after.ensures

pub first_pinned-requires-in-None : goal.first_pinned-requires-in-None
first_pinned-requires-in-None c = left_sorted (contents nat_cmp c.self.inside.below) None c.iter.result (c.iter.ensures ∙ sym (all_kept (map.entries (contents nat_cmp c.self.inside.below))))

pub returns-in-Some : goal.returns-in-Some
returns-in-Some c =
    rw (← c.self.view_is, c.in-Some.is)
    (next_of_rows (contents nat_cmp c.self.inside.below) (Some c.in-Some.last) c.iter_after.result c.iter_after.ensures c.first_pinned.result c.first_pinned.ensures)

pub returns-in-None : goal.returns-in-None
returns-in-None c =
    rw (← c.self.view_is, c.in-None.is)
    (next_of_rows (contents nat_cmp c.self.inside.below) None c.iter.result (c.iter.ensures ∙ sym (all_kept (map.entries (contents nat_cmp c.self.inside.below)))) c.first_pinned-in-None.result c.first_pinned-in-None.ensures)
