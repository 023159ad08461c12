use Rattle.fragtree.proofs.Covers.{tree_iff}
use Rattle.fragtree.proofs.laws.tree_is_ascending_cover.Goals as goal

pub returns : goal.returns
returns c = tree_iff
