use Rattle.std.proofs.Common.{length}
use Rattle.std.specs.FinMap as map
use Rattle.kept_store.specs.Noting.{IsMore}
use Rattle.kept_store.proofs.NotingLaws.{NotedBut}
use Rattle.kept_store.proofs.noting.note_keys.Given as goal

-- all that was noted still is, and the keys so far are
abbrev pub invariant-loop-gone : goal.invariant-loop-gone
invariant-loop-gone l = IsMore l.fn.changes l.changes × NotedBut l.changes l.fn.name (map.entries l.fn.keys) l.left

abbrev pub decreases-loop-gone : goal.decreases-loop-gone
decreases-loop-gone l = length l.left
