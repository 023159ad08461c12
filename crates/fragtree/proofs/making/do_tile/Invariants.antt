-- What is left tiles the hashes from here on exactly if all of it does so from 0 on.
use Rattle.fragtree.proofs.Common.{Tiles, drop, ◌^◌, ◌↔◌}
use Rattle.fragtree.proofs.making.do_tile.Given as goal

abbrev pub invariant-loop-leaf : goal.invariant-loop-leaf
invariant-loop-leaf l = Tiles l.next (2 ^ 24) (drop l.leaf-index l.leaves) ↔ Tiles 0 (2 ^ 24) l.leaves
