use Rattle.objstore.proofs.Common.{length, map, string_bytes, ◌++◌, ◌≡◌, ◌≤◌}
use Rattle.objstore.proofs.name_pages.first_names.Given as goal

-- the names so far and those of the objects to come make up all
abbrev pub invariant-loop-name : goal.invariant-loop-name
invariant-loop-name l = record { whole : map string_bytes l.names.items ++ map (λ e. e.0) l.rest ≡ map (λ e. e.0) l.fn.rest; few : length l.names.items ≤ l.max }

abbrev pub decreases-loop-name : goal.decreases-loop-name
decreases-loop-name l = length l.rest
