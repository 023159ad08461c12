-- The children before are idle.
use Rattle.cluster_core.proofs.Common.{IsIdle, child, sight_of, ℕ, ◌<◌}
use Rattle.cluster_core.proofs.regroups.may_merge.Given as goal

abbrev pub invariant-loop-i : goal.invariant-loop-i
invariant-loop-i g l = (ranks : ℕ) (j : ℕ) → j < l.i → IsIdle (sight_of l.tree l.grants ranks l.rank) (child (l.ino, l.frag) j)
