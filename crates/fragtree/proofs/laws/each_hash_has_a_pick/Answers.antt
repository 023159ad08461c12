use Rattle.fragtree.proofs.TreeLaws.{some_pick}
use Rattle.fragtree.proofs.laws.each_hash_has_a_pick.Goals as goal

pub returns : goal.returns
returns c = some_pick
