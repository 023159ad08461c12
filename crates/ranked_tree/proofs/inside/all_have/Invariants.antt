-- The leaves inside that begin before the hash have the rank.
use Rattle.ranked_tree.proofs.Common.{HasAuthority, leaves_of, ◌-◌, ◌^◌, ◌≤◌}
use Rattle.ranked_tree.proofs.InsideLaws.{Done}
use Rattle.ranked_tree.proofs.inside.all_have.Given as goal

abbrev pub invariant-loop-leaf : goal.invariant-loop-leaf
invariant-loop-leaf l = record {
  from : l.frag.value ≤ l.hash;
  done : Done (leaves_of l.dirs.trees l.dir.0) l.frag (λ g. HasAuthority l.roots.roots l.dirs.homes l.dirs.trees (l.dir, g) l.rank) l.hash;
}

abbrev pub decreases-loop-leaf : goal.decreases-loop-leaf
decreases-loop-leaf l = 2 ^ 24 - l.hash
