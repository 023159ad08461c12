use Rattle.subtree_map.proofs.Nearest.{some_root}
use Rattle.subtree_map.proofs.subtrees.Subtrees.root_of.Goals as goal

pub unreachable-requires : goal.unreachable-requires
unreachable-requires c =
    let near = some_root c.args.self.now.roots c.args.dirs.now.homes c.args.dirs.now.trees c.is_table.ensures c.requires.valid (c.args.dir, c.args.frag) c.requires.leaf in
    c.in-None.ensures near.0 near.1
