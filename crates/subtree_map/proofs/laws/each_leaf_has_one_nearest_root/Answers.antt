use Rattle.subtree_map.proofs.Divided.{one_nearest}
use Rattle.subtree_map.proofs.laws.each_leaf_has_one_nearest_root.Goals as goal

pub returns : goal.returns
returns c = one_nearest
