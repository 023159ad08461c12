use Rattle.script_output.proofs.Common.{arith}
use Rattle.script_output.proofs.TextLemmas.{longer, roomy, short_hexadecimal}
use Rattle.script_output.proofs.text_ends.TextEnd.put_hexadecimal.Goals as goal

pub write_digits_in-self-inside-requires-clause-room : goal.write_digits_in-self-inside-requires-clause-room
write_digits_in-self-inside-requires-clause-room c =
    let room = roomy 16 c.self.inside.start c.self.inside.bytes c.args.self.now c.self.told c.self.invariant c.self.view_is c.requires in
    omega (arith, room, short_hexadecimal c.args.n (omega (arith, c.ranges.n)))

pub returns-clause-long : goal.returns-clause-long
returns-clause-long c = longer 16 _ c.args.self.now _ (short_hexadecimal c.args.n (omega (arith, c.ranges.n))) (rw c.self.view_is at c.write_digits_in-self-inside.ensures.written)
