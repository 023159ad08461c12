use Rattle.script_output.proofs.Common.{arith}
use Rattle.script_output.proofs.TextLemmas.{longer, roomy, short_octal}
use Rattle.script_output.proofs.text_ends.TextEnd.put_mode.Goals as goal

pub write_digits_in-self-inside-requires-clause-room : goal.write_digits_in-self-inside-requires-clause-room
write_digits_in-self-inside-requires-clause-room c =
    let room = roomy 4 c.self.inside.start c.self.inside.bytes c.args.self.now c.self.told c.self.invariant c.self.view_is c.requires in
    rw c.bits-bits.ensures.bits (omega (arith, room, short_octal c.args.mode c.bits-bits.ensures.valid))

pub returns-clause-long : goal.returns-clause-long
returns-clause-long c = longer 4 _ c.args.self.now _ (short_octal c.args.mode c.bits-bits.ensures.valid) (rw (c.self.view_is, c.bits-bits.ensures.bits) at c.write_digits_in-self-inside.ensures.written)
