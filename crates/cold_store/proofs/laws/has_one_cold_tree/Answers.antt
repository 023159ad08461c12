use Rattle.cold_store.proofs.ColdLaws.{has_one_cold_tree}
use Rattle.cold_store.proofs.laws.has_one_cold_tree.Goals as goal

pub returns : goal.returns
returns c = has_one_cold_tree
