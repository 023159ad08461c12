-- The names to come are as new as all of them, and add what all of them add.
use Rattle.cold_store.proofs.Common.{IsMetDir, are_new, contents, key_cmp, rows_of, with_rows, ◌≡◌}
use Rattle.std.specs.FinMap as map
use Rattle.cold_store.proofs.reading.add_names.Given as goal

abbrev pub invariant-loop-name : goal.invariant-loop-name
invariant-loop-name l = record {
  ready : IsMetDir l.found.shape l.dir.0;
  covers : l.found.covers ≡ l.fn.found.covers;
  fresh : are_new l.found.shape (rows_of (l.dir, l.frag) l.name-iterator) ≡ are_new l.fn.found.shape (rows_of (l.dir, l.frag) (map.entries (contents key_cmp l.fn.names)));
  whole : with_rows l.found.shape (rows_of (l.dir, l.frag) l.name-iterator) ≡ with_rows l.fn.found.shape (rows_of (l.dir, l.frag) (map.entries (contents key_cmp l.fn.names)));
}
