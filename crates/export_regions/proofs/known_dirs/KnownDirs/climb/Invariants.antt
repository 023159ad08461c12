-- All directories that were passed have the answer of the one where the climb is.
use Rattle.export_regions.proofs.Common.{All, Bool, IsRightAnswer, IsTable, climbed, leaf_of, ℕ}
use Rattle.std.specs.FinMap as map
use Rattle.export_regions.proofs.known_dirs.KnownDirs.climb.Given as goal

abbrev pub invariant-loop-holder : goal.invariant-loop-holder
invariant-loop-holder l = record {
  table : IsTable l.dirs.homes l.dirs.trees;
  first : (told : Bool) → IsRightAnswer l.subtrees.roots l.dirs.homes l.dirs.trees (leaf_of l.root) l.at.0 told → IsRightAnswer l.subtrees.roots l.dirs.homes l.dirs.trees (leaf_of l.root) l.fn.dir.0 told;
  passed : (told : Bool) → IsRightAnswer l.subtrees.roots l.dirs.homes l.dirs.trees (leaf_of l.root) l.at.0 told → All (λ (d : ℕ). IsRightAnswer l.subtrees.roots l.dirs.homes l.dirs.trees (leaf_of l.root) d told) l.way.items;
}

abbrev pub decreases-loop-holder : goal.decreases-loop-holder
decreases-loop-holder l = climbed (map.len l.dirs.homes) l.dirs.homes l.at.0
