-- No leaf of a directory with a pin before is to start.
use Rattle.cluster_core.proofs.Common.{List, Pin, sight_of}
use Rattle.cluster_core.proofs.DirWalkLaws.{IsPast, dirs_left}
use Rattle.cluster_core.proofs.pinned_away.first_pinned.Given as goal

abbrev pub invariant-loop-dir : goal.invariant-loop-dir
invariant-loop-dir g l = (grants : List Pin) → IsPast (sight_of l.tree grants l.ranks l.rank) l.after

abbrev pub decreases-loop-dir : goal.decreases-loop-dir
decreases-loop-dir g l = dirs_left l.after
