use Rattle.subtree_map.proofs.Common.{arith, leaves_of, refl, tree_of_row, ◌-◌, ◌<◌, ◌^◌, ◌∙◌}
use Rattle.subtree_map.proofs.Filled.{walk_starts, walk_room, walk_goes, walk_on, walk_ends}
use Rattle.subtree_map.proofs.moves.fill.Goals as goal

pub loop-hash-init : goal.loop-hash-init
loop-hash-init c = record {
  promises = refl;
  walk = walk_starts (leaves_of c.args.dirs.now.trees c.args.dir.0) c.args.roots.now.roots c.args.dir.0 c.args.rank c.args.roots.now.room (tree_of_row c.args.dirs.now.homes c.args.dirs.now.trees c.is_table.ensures c.args.dir.0) c.requires.room;
}

pub put_absent-requires : goal.put_absent-requires
put_absent-requires c = walk_room _ c.loop-hash.hash _ _ c.args.dir.0 c.args.rank _ _ c.loop-hash.invariant.walk (omega arith)

pub loop-hash-preserved : goal.loop-hash-preserved
loop-hash-preserved c = record {
  promises = c.put_absent.ensures.promises ∙ c.loop-hash.invariant.promises;
  walk = walk_goes _ c.loop-hash.hash _ _ c.args.dir.0 c.args.rank _ _ c.loop-hash.invariant.walk _ c.pick-leaf.result _ _ (omega arith) c.pick-leaf.ensures.pick c.put_absent.ensures.filled c.end_of-hash.ensures.end c.put_absent.ensures.room;
}

pub loop-hash-smaller : goal.loop-hash-smaller
loop-hash-smaller c =
    let on : c.loop-hash.hash < c.end_of-hash.result = walk_on _ c.loop-hash.hash _ _ c.args.dir.0 c.args.rank _ _ c.loop-hash.invariant.walk c.pick-leaf.result _ (omega arith) c.pick-leaf.ensures.pick c.end_of-hash.ensures.end in
    let nearer : 2 ^ 24 - c.end_of-hash.result < 2 ^ 24 - c.loop-hash.hash = omega arith in
    nearer

pub returns : goal.returns
returns c =
    let done = walk_ends _ c.loop-hash.hash _ _ c.args.dir.0 c.args.rank _ _ c.loop-hash.invariant.walk (omega arith) in
    record { filled = done.0; room = done.1; promises = c.loop-hash.invariant.promises }
