use Rattle.subtree_map.proofs.RootRows.{all_rows}
use Rattle.subtree_map.proofs.lists.Lists.iter.Goals as goal

pub returns : goal.returns
returns c = all_rows c.args.self.now.roots c.first.result c.first.ensures
