use Rattle.subtree_map.proofs.Climbs.{finds_some}
use Rattle.subtree_map.proofs.subtrees.Subtrees.authority_by.Goals as goal

-- a leaf that stands has a nearest root
pub unreachable-requires : goal.unreachable-requires
unreachable-requires c = finds_some c.args.dirs.now.homes c.args.dirs.now.trees c.args.self.now.roots c.is_table.ensures c.requires.valid c.args.leaf c.requires.leaf c.climb.result c.climb.ensures c.in-None.is
