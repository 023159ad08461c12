use Rattle.subtree_map.proofs.Divided.{one_region}
use Rattle.subtree_map.proofs.laws.regions_divide_the_leaves.Goals as goal

pub returns : goal.returns
returns c = one_region
