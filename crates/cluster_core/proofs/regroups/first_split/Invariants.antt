-- No candidate before passes.
use Rattle.cluster_core.proofs.Common.{OfLarge, sight_of, ℕ}
use Rattle.cluster_core.proofs.KindLaws.{Passes}
use Rattle.cluster_core.proofs.LeafPlaces.{left}
use Rattle.cluster_core.proofs.WalkLaws.{IsWalked}
use Rattle.cluster_core.proofs.regroups.first_split.Given as goal

abbrev pub invariant-loop-leaf : goal.invariant-loop-leaf
invariant-loop-leaf g l = (ranks : ℕ) → IsWalked (Passes (sight_of l.tree l.grants ranks l.rank) OfLarge) l.after

abbrev pub decreases-loop-leaf : goal.decreases-loop-leaf
decreases-loop-leaf g l = left l.after
