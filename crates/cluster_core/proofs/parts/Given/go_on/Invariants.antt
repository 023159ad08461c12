-- Each supply so far is raised.
use Rattle.cluster_core.proofs.Common.{◌≡◌}
use Rattle.sessions.specs.Rooms.{table}
use Rattle.cluster_core.proofs.ResumedLaws.{RaisedSoFar}
use Rattle.cluster_core.proofs.parts.Given.go_on.Given as goal

abbrev pub invariant-loop-rank : goal.invariant-loop-rank
invariant-loop-rank l =
    RaisedSoFar l.nexts l.rank l.fn.self.numbers.items l.self.numbers.items × (table l.self.sessions ≡ table l.fn.sessions)
