use Rattle.std.proofs.Common.{◌≡◌, length}
use Rattle.std.specs.FinMap as map
use Rattle.kept_store.specs.Noting.{IsMore}
use Rattle.kept_store.proofs.NotingLaws.{NotedBut}
use Rattle.kept_store.proofs.noting.note_pairs.Given as goal

-- all that was noted still is, and the keys so far are
abbrev pub invariant-loop-key : goal.invariant-loop-key
invariant-loop-key l =
    IsMore l.fn.changes l.changes
    × (l.changes.names ≡ l.fn.changes.names)
    × NotedBut l.changes l.fn.name (map.entries l.fn.pairs) l.left

abbrev pub decreases-loop-key : goal.decreases-loop-key
decreases-loop-key l = length l.left
