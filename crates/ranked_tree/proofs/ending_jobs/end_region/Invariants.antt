-- The jobs of the region have ended as far as the last leaf.
use Rattle.ranked_tree.proofs.Common.{IsSoundCore, state_of, ◌≡◌}
use Rattle.ranked_tree.proofs.EndedLaws.{HaveEnded, count_behind}
use Rattle.ranked_tree.proofs.ending_jobs.end_region.Given as goal

abbrev pub invariant-loop-leaf : goal.invariant-loop-leaf
invariant-loop-leaf g l = record {
  ended : HaveEnded l.roots.roots l.root (state_of l.fn.tree) (state_of l.tree) l.last;
  caches : l.tree.caches ≡ l.fn.tree.caches;
  faults : l.tree.faults ≡ l.fn.tree.faults;
  sound : IsSoundCore l.tree;
}

abbrev pub decreases-loop-leaf : goal.decreases-loop-leaf
decreases-loop-leaf g l = count_behind l.last l.fn.tree.jobs
