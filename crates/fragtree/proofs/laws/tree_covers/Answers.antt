use Rattle.fragtree.proofs.Tilings.{covers}
use Rattle.fragtree.proofs.laws.tree_covers.Goals as goal

pub returns : goal.returns
returns c = λ leaves tree. covers leaves tree.tiles
