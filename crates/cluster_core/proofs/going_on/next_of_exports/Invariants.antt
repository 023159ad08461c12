-- No root before has a next step.
use Rattle.cluster_core.proofs.Common.{OfExport, sight_of, ℕ}
use Rattle.cluster_core.proofs.KindLaws.{Passes}
use Rattle.cluster_core.proofs.LeafPlaces.{left}
use Rattle.cluster_core.proofs.WalkLaws.{IsWalked}
use Rattle.cluster_core.proofs.going_on.next_of_exports.Given as goal

abbrev pub invariant-loop-found : goal.invariant-loop-found
invariant-loop-found g l = (ranks : ℕ) → IsWalked (Passes (sight_of l.tree l.grants ranks l.rank) OfExport) l.after

abbrev pub decreases-loop-found : goal.decreases-loop-found
decreases-loop-found g l = left l.after
