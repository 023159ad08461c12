-- What is left tiles the hashes from here on exactly if all of it does so from 0 on.
use Rattle.dirfrag_codec.proofs.Common.{AreTilesFrom, length, ◌↔◌}
use Rattle.dirfrag_codec.proofs.trees.do_tile.Given as goal

abbrev pub invariant-loop-end : goal.invariant-loop-end
invariant-loop-end l = AreTilesFrom l.next l.rest ↔ AreTilesFrom 0 l.words

abbrev pub decreases-loop-end : goal.decreases-loop-end
decreases-loop-end l = length l.rest
