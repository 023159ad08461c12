-- What is picked of the places to come stands behind what was picked.
use Rattle.export_regions.proofs.Common.{AreRightAnswers, IsOfRegion, leaf_of, length, places_at}
use Rattle.export_regions.proofs.PickLaws.{IsPicking}
use Rattle.export_regions.proofs.regions.leaves_of.Given as goal

abbrev pub invariant-loop-leaf : goal.invariant-loop-leaf
invariant-loop-leaf l = record {
  picking : IsPicking (IsOfRegion l.subtrees.roots l.dirs.homes l.dirs.trees (leaf_of l.root)) l.places (places_at l.caches l.root.rank.0) l.leaves;
  right : AreRightAnswers l.subtrees.roots l.dirs.homes l.dirs.trees (leaf_of l.root) l.known;
}

abbrev pub decreases-loop-leaf : goal.decreases-loop-leaf
decreases-loop-leaf l = length l.places
