-- One of the places has too many exactly where one of those to come has.
use Rattle.export_regions.proofs.Common.{AnyTooMany, IsOfRegion, leaf_of, length, places_at, ◌↔◌}
use Rattle.export_regions.proofs.counts.any_too_many.Given as goal

abbrev pub invariant-loop-leaf : goal.invariant-loop-leaf
invariant-loop-leaf l =
    AnyTooMany (IsOfRegion l.subtrees.roots l.dirs.homes l.dirs.trees (leaf_of l.root)) l.places ↔ AnyTooMany (IsOfRegion l.subtrees.roots l.dirs.homes l.dirs.trees (leaf_of l.root)) (places_at l.caches l.root.rank.0)

abbrev pub decreases-loop-leaf : goal.decreases-loop-leaf
decreases-loop-leaf l = length l.places
