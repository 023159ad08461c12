-- No root before is to start.
use Rattle.cluster_core.proofs.Common.{List, Pin, sight_of}
use Rattle.cluster_core.proofs.AwayLaws.{IsRootOf, Starts}
use Rattle.cluster_core.proofs.LeafPlaces.{left}
use Rattle.cluster_core.proofs.WalkLaws.{IsWalked}
use Rattle.cluster_core.proofs.pinned_away.first_root.Given as goal

abbrev pub invariant-loop-root : goal.invariant-loop-root
invariant-loop-root g l = (grants : List Pin) → IsWalked (Starts (sight_of l.tree grants l.ranks l.rank) (IsRootOf l.tree.subtrees.roots)) l.after

abbrev pub decreases-loop-root : goal.decreases-loop-root
decreases-loop-root g l = left l.after
