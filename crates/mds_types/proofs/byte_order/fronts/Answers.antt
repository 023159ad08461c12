use Rattle.std.proofs.Common.{ℕ, ◌+◌, ◌-◌, arith}
use Rattle.mds_types.proofs.ByteOrderLaws.{at_once, fewer, word}
use Rattle.mds_types.proofs.byte_order.fronts.Goals as goal

pub returns-then-x-y : goal.returns-then-x-y
returns-then-x-y c =
    let read = word c.args.a.now c.args.b.now c.type_inv.a c.type_inv.b in
    at_once _ _ 4 _ _ _ (read 0 4 _ _ (omega arith) (omega arith) c.four-x.ensures c.four-y.ensures (λ k l. absurd (omega arith))) c.if-x-y.true

pub returns-else-x-y : goal.returns-else-x-y
returns-else-x-y c =
    let xs = c.args.a.now in
    let ys = c.args.b.now in
    let last : ℕ = c.args.both - 4 in
    let read = word xs ys c.type_inv.a c.type_inv.b in
    let front = read 0 4 _ _ (omega arith) (omega arith) c.four-x.ensures c.four-y.ensures (λ k l. absurd (omega arith)) in
    fewer xs ys (last + 4) _ _ _ (omega arith) (read last 4 _ _ (omega arith) (omega arith) c.four.ensures c.four-else-x-y.ensures (λ k l. front.alike c.if-x-y.false k (omega arith)))

pub returns-then-x-y-2 : goal.returns-then-x-y-2
returns-then-x-y-2 c =
    let read = word c.args.a.now c.args.b.now c.type_inv.a c.type_inv.b in
    at_once _ _ 8 _ _ _ (read 0 8 _ _ (omega arith) (omega arith) c.eight-x.ensures c.eight-y.ensures (λ k l. absurd (omega arith))) c.if-x-y-2.true

pub returns-else-x-y-2 : goal.returns-else-x-y-2
returns-else-x-y-2 c =
    let xs = c.args.a.now in
    let ys = c.args.b.now in
    let next : ℕ = c.min-next.result in
    let is = c.min-next.ensures in
    let read = word xs ys c.type_inv.a c.type_inv.b in
    let front = read 0 8 _ _ (omega arith) (omega arith) c.eight-x.ensures c.eight-y.ensures (λ k l. absurd (omega arith)) in
    fewer xs ys (next + 8) _ _ _ (omega arith) (read next 8 _ _ (omega arith) (omega arith) c.eight.ensures c.eight-else-x-y-2.ensures (λ k l. front.alike c.if-x-y-2.false k (omega arith)))
