use Rattle.std.proofs.Common.{IsUtf8, ap, arith, false, subst, sym, ◌++◌, ◌∙◌, ◌∷◌}
use Rattle.std.specs.Fmt.{digits}
use Rattle.mds_types.specs.ObjectText.{word_text}
use Rattle.mds_types.proofs.ObjectTextBytes.{frag_spelt, frag_utf8, hex_few, word_few}
use Rattle.mds_types.proofs.object_names.frag_spelt.Goals as goal

pub write_digits_in-requires-clause-room : goal.write_digits_in-requires-clause-room
write_digits_in-requires-clause-room c = let few = word_few c.from.result (omega (arith, c.from.ensures, c.word.type_inv)) in omega (arith, few)

pub write_digits_in-start-requires-clause-room : goal.write_digits_in-start-requires-clause-room
write_digits_in-start-requires-clause-room c = hex_few c.args.ino (omega (arith, c.ranges.ino))

pub returns-clause-text : goal.returns-clause-text
returns-clause-text c =
    let word = c.write_digits_in.ensures in
    let is = c.from.ensures ∙ c.word.ensures in
    frag_spelt c.args.ino c.from.result (omega (arith, c.from.ensures, c.word.type_inv)) c.write_digits_in.new.bytes c.write_digits_in-start.new.bytes c.write_digits_in-start.result c.write_digits_in.result
    (omega (arith, c.write_digits_in.auto.bytes)) (omega (arith, c.write_digits_in-start.auto.bytes)) word.start word.before word.written c.write_digits_in-start.ensures.written
    ∙ ap (λ w. digits 16 false c.args.ino ++ 46 ∷ word_text w) is

pub returns-clause-utf8 : goal.returns-clause-utf8
returns-clause-utf8 c =
    let word = c.write_digits_in.ensures in
    let spelt = frag_spelt c.args.ino c.from.result (omega (arith, c.from.ensures, c.word.type_inv)) c.write_digits_in.new.bytes c.write_digits_in-start.new.bytes c.write_digits_in-start.result c.write_digits_in.result
    (omega (arith, c.write_digits_in.auto.bytes)) (omega (arith, c.write_digits_in-start.auto.bytes)) word.start word.before word.written c.write_digits_in-start.ensures.written in
    subst IsUtf8 (sym spelt) (frag_utf8 c.args.ino c.from.result (omega (arith, c.ranges.ino)) (omega (arith, c.from.ensures, c.word.type_inv)))

pub returns-clause-start : goal.returns-clause-start
returns-clause-start c = let ends = c.write_digits_in-start.ensures.start in omega (arith, ends)
