-- A history with nothing before it, and one behind stand-ins.
use Rattle.cluster_core.proofs.OpeningLaws.{legal_behind, legal_fresh}
use Rattle.cluster_core.proofs.laws.an_opening_may_be_a_tree.Goals as goal

pub returns : goal.returns
returns c = λ limit opening history. (legal_behind limit opening history, (legal_fresh limit opening.tree history).1)
