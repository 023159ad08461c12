-- The words that are left go on with the leaves so far as all of them do.
use Rattle.dirfrag_codec.proofs.Common.{AllByRecursion, IsFragment, flat_map, leaf_bytes, length, ◌++◌, ◌≡◌}
use Rattle.dirfrag_codec.proofs.trees.leaves_of.Given as goal

abbrev pub invariant-loop-word : goal.invariant-loop-word
invariant-loop-word l = record {
  fragments : AllByRecursion IsFragment l.leaves.items;
  parts : l.words ≡ flat_map leaf_bytes l.leaves.items ++ l.rest;
}

abbrev pub decreases-loop-word : goal.decreases-loop-word
decreases-loop-word l = length l.rest
