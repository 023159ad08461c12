use Rattle.std.proofs.Common.{arith}
use Rattle.mds_types.proofs.ByteOrderLaws.{at_once, word}
use Rattle.mds_types.proofs.byte_order.words_of_short.Goals as goal

pub returns-then-x-y : goal.returns-then-x-y
returns-then-x-y c = at_once _ _ 16 22 _ _ c.fronts-x.ensures c.if-x-y.true

pub returns-else-x-y : goal.returns-else-x-y
returns-else-x-y c =
    word c.args.a.now c.args.b.now c.type_inv.a c.type_inv.b 14 8 _ _ (omega arith) (omega arith) c.eight.ensures c.eight-else-x-y.ensures (λ k l. c.fronts-x.ensures.alike c.if-x-y.false k (omega arith))
