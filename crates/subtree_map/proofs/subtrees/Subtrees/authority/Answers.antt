use Rattle.subtree_map.proofs.Nearest.{some_authority}
use Rattle.subtree_map.proofs.subtrees.Subtrees.authority.Goals as goal

pub unreachable-requires : goal.unreachable-requires
unreachable-requires c =
    let its = some_authority c.args.self.now.roots c.args.dirs.now.homes c.args.dirs.now.trees c.is_table.ensures c.requires.valid (c.args.dir, c.args.frag) c.requires.leaf in
    c.in-None.ensures its.0 its.1
