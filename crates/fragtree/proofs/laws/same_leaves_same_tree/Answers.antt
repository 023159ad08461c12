use Rattle.std.proofs.Common.{◌^◌}
use Rattle.fragtree.proofs.TreeLaws.{same_tiles}
use Rattle.fragtree.proofs.laws.same_leaves_same_tree.Goals as goal

pub returns : goal.returns
returns c = λ xs ys tree other same. same_tiles 0 (2 ^ 24) xs ys tree.tiles other.tiles (λ leaf. (same leaf).0)
