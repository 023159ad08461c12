-- The leaves inside that begin before the hash are not pinned.
use Rattle.cluster_core.proofs.Common.{Done, false, is_on, leaves_of, list_any, ◌-◌, ◌^◌, ◌≡◌, ◌≤◌}
use Rattle.cluster_core.proofs.pinned.some_pinned.Given as goal

abbrev pub invariant-loop-leaf : goal.invariant-loop-leaf
invariant-loop-leaf l = record {
  from : l.frag.value ≤ l.hash;
  done : Done (leaves_of l.dirs.trees l.dir.0) l.frag (λ g. list_any (is_on l.dir g) l.pins ≡ false) l.hash;
}

abbrev pub decreases-loop-leaf : goal.decreases-loop-leaf
decreases-loop-leaf l = 2 ^ 24 - l.hash
