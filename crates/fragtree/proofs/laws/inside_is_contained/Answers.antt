use Rattle.fragtree.proofs.TreeLaws.{inside_iff}
use Rattle.fragtree.proofs.laws.inside_is_contained.Goals as goal

pub returns : goal.returns
returns c = inside_iff
