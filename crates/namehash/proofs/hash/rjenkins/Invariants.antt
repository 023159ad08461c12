use Rattle.namehash.proofs.Common.{hash_of, length, ◌≡◌}
use Rattle.namehash.proofs.Blocks.{hash_on}
use Rattle.namehash.proofs.hash.rjenkins.Given as goal

abbrev pub invariant-loop-block : goal.invariant-loop-block
invariant-loop-block l = hash_on l.state l.rest (length l.name) ≡ hash_of l.name

abbrev pub decreases-loop-block : goal.decreases-loop-block
decreases-loop-block l = length l.rest
