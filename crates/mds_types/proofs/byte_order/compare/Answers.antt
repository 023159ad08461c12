use Rattle.std.proofs.Common.{arith, sym, ◌∙◌}
use Rattle.mds_types.proofs.ByteOrderLaws.{by_lengths}
use Rattle.mds_types.proofs.byte_order.compare.Goals as goal

pub returns-then-both-le16 : goal.returns-then-both-le16
returns-then-both-le16 c =
    let is = c.min-both.ensures in
    c.cmp-then-both-le16.ensures ∙ sym (by_lengths c.args.a.now c.args.b.now (λ k l. c.fronts-x.ensures.alike c.if-x-y.false k (omega arith)))
