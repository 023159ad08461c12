-- Each turn does the leaf that begins at the hash.
use Rattle.subtree_map.proofs.Common.{leaves_of, ◌-◌, ◌^◌, ◌≡◌}
use Rattle.subtree_map.proofs.Filled.{Walk}
use Rattle.subtree_map.proofs.moves.fill.Given as goal

abbrev pub invariant-loop-hash : goal.invariant-loop-hash
invariant-loop-hash l = record {
  promises : l.roots.promises ≡ l.initial.roots.promises;
  walk : Walk (leaves_of l.dirs.trees l.dir.0) l.hash l.initial.roots.roots l.roots.roots l.dir.0 l.rank l.initial.roots.room l.roots.room;
}

abbrev pub decreases-loop-hash : goal.decreases-loop-hash
decreases-loop-hash l = 2 ^ 24 - l.hash
