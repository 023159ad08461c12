-- The rows that were taken in and those that are left are the whole.
use Rattle.mdcache.proofs.Common.{IsPageOf, List, NamedInode, T, is_sorted, key_cmp, length, puts, rows_left, ◌≡◌}
use Rattle.mdcache.proofs.page.Page.take_rows.Given as goal

abbrev pub invariant-loop-name : goal.invariant-loop-name
invariant-loop-name l = record {
  most : l.self.most ≡ l.fn.self.most;
  page : (whole : List NamedInode) → IsPageOf whole l.fn.self → T (is_sorted key_cmp (rows_left l.fn.rows)) → (now : List NamedInode) × IsPageOf now l.self × (puts key_cmp now (rows_left l.rows) ≡ puts key_cmp whole (rows_left l.fn.rows)) × T (is_sorted key_cmp (rows_left l.rows));
}

abbrev pub decreases-loop-name : goal.decreases-loop-name
decreases-loop-name l = length (rows_left l.rows)
