-- The keys so far, and those of the names to come, are the whole.
use Rattle.cached_frag.proofs.Common.{keys_after_marks, ◌≡◌}
use Rattle.std.specs.FinMap as map
use Rattle.cached_frag.proofs.writes.gone_of.Given as goal

abbrev pub invariant-loop-name : goal.invariant-loop-name
invariant-loop-name l = keys_after_marks l.keys l.name-iterator ≡ keys_after_marks map.empty (map.entries l.fn.names)
