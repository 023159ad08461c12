-- Leaves that tile the hashes are a tree's where they are few.
use Rattle.dirfrag_codec.proofs.Common.{arith}
use Rattle.dirfrag_codec.proofs.TileLaws.{too_many, tree_of_tiles}
use Rattle.dirfrag_codec.proofs.trees.are_tree.Goals as goal

pub returns-then-words : goal.returns-then-words
returns-then-words c = too_many c.args.words.now (omega (arith, c.if-words.true))

pub returns : goal.returns
returns c =
    let tree = tree_of_tiles c.args.words.now (omega (arith, c.if-words.false)) in
    (λ told. tree.0 (c.do_tile.ensures.0 told), λ is. c.do_tile.ensures.1 (tree.1 is))
