-- No candidate before passes.
use Rattle.cluster_core.proofs.Common.{OfSmall, sight_of, ℕ}
use Rattle.cluster_core.proofs.KindLaws.{Passes}
use Rattle.cluster_core.proofs.LeafPlaces.{left}
use Rattle.cluster_core.proofs.WalkLaws.{IsWalked}
use Rattle.cluster_core.proofs.regroups.first_merge.Given as goal

abbrev pub invariant-loop-whole : goal.invariant-loop-whole
invariant-loop-whole g l = (ranks : ℕ) → IsWalked (Passes (sight_of l.tree l.grants ranks l.rank) OfSmall) l.after

abbrev pub decreases-loop-whole : goal.decreases-loop-whole
decreases-loop-whole g l = left l.after
