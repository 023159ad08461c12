use Rattle.script_output.proofs.Common.{arith}
use Rattle.script_output.proofs.TextLemmas.{longer, roomy, short_decimal}
use Rattle.script_output.proofs.text_ends.TextEnd.put_decimal.Goals as goal

pub write_digits-self-inside-requires : goal.write_digits-self-inside-requires
write_digits-self-inside-requires c =
    let room = roomy 20 c.self.inside.start c.self.inside.bytes c.args.self.now c.self.told c.self.invariant c.self.view_is c.requires in
    (omega (arith, room, short_decimal c.args.n (omega (arith, c.ranges.n))), omega (arith, c.self.told, c.self.invariant))

pub returns-clause-long : goal.returns-clause-long
returns-clause-long c = longer 20 _ c.args.self.now _ (short_decimal c.args.n (omega (arith, c.ranges.n))) (rw c.self.view_is at c.write_digits-self-inside.ensures.written)
