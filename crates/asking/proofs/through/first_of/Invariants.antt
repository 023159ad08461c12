-- None of the rank's roots so far froze.
use Rattle.cluster_core.proofs.LeafPlaces.{left}
use Rattle.asking.proofs.ThroughLaws.{AllBehind}
use Rattle.asking.proofs.through.first_of.Given as goal

abbrev pub invariant-loop-found : goal.invariant-loop-found
invariant-loop-found l = AllBehind l.exports l.rank l.after

abbrev pub decreases-loop-found : goal.decreases-loop-found
decreases-loop-found l = left l.after
