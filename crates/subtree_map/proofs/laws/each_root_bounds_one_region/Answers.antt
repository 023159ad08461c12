use Rattle.subtree_map.proofs.Divided.{one_bounded}
use Rattle.subtree_map.proofs.laws.each_root_bounds_one_region.Goals as goal

pub returns : goal.returns
returns c = one_bounded
