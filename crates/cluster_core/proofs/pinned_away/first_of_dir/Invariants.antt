-- The leaves that begin before the hash aren't to start.
use Rattle.cluster_core.proofs.Common.{List, Pin, leaves_of, sight_of, ◌-◌, ◌^◌}
use Rattle.cluster_core.proofs.DirWalkLaws.{StaysHere}
use Rattle.cluster_core.proofs.GrantLaws.{Done}
use Rattle.cluster_core.proofs.pinned_away.first_of_dir.Given as goal

abbrev pub invariant-loop-hash : goal.invariant-loop-hash
invariant-loop-hash g l = (grants : List Pin) → Done (leaves_of l.tree.tree.covers l.dir.0) (StaysHere (sight_of l.tree grants l.ranks l.rank) l.dir) l.hash

abbrev pub decreases-loop-hash : goal.decreases-loop-hash
decreases-loop-hash g l = 2 ^ 24 - l.hash
