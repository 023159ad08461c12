-- The records so far, and those of the names to come, are the whole.
use Rattle.cached_frag.proofs.Common.{AllByRecursion, IsDirtyName, with_records, ◌≡◌}
use Rattle.std.specs.FinMap as map
use Rattle.cached_frag.proofs.writes.set_of.Given as goal

abbrev pub invariant-loop-name : goal.invariant-loop-name
invariant-loop-name l = record {
  whole : with_records l.set l.name-iterator ≡ with_records map.empty (map.entries l.fn.names);
  dirty : AllByRecursion (λ e. IsDirtyName e.0 e.1) l.name-iterator;
}
