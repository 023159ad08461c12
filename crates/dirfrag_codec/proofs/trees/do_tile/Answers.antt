-- The leaves that are taken go on with those that are left.
use Rattle.dirfrag_codec.proofs.TileLaws.{tiles_cut_off, tiles_kept, tiles_told}
use Rattle.dirfrag_codec.proofs.trees.do_tile.Goals as goal

pub loop-end-preserved : goal.loop-end-preserved
loop-end-preserved c = tiles_kept c.args.words.now c.loop-end.rest.now c.loop-end.next c.loop-end.invariant c.in-Some.after.now c.in-Some.end c.in-Some.ensures

pub returns-then-is_empty : goal.returns-then-is_empty
returns-then-is_empty c = tiles_told c.args.words.now c.loop-end.rest.now c.loop-end.next c.loop-end.invariant c.is_empty.result c.in_default.ensures c.is_empty.ensures c.if-is_empty.true

pub returns-else-is_empty : goal.returns-else-is_empty
returns-else-is_empty c = tiles_cut_off c.args.words.now c.loop-end.rest.now c.loop-end.next c.loop-end.invariant c.is_empty.result c.in_default.ensures c.is_empty.ensures c.if-is_empty.false
