use Rattle.std.proofs.Common.{IsUtf8, arith, subst, sym}
use Rattle.std.proofs.lemmas.Str.{IsUtf8-append}
use Rattle.mds_types.proofs.ObjectTextBytes.{cut, hex_few, hex_utf8, tree_utf8}
use Rattle.mds_types.proofs.object_names.tree_spelt.Goals as goal

pub write_digits_in-start-requires-clause-room : goal.write_digits_in-start-requires-clause-room
write_digits_in-start-requires-clause-room c = hex_few c.args.ino (omega (arith, c.ranges.ino))

pub returns-clause-text : goal.returns-clause-text
returns-clause-text c = cut c.write_digits_in-start.new.bytes _ c.write_digits_in-start.result (omega (arith, c.write_digits_in-start.auto.bytes)) c.write_digits_in-start.ensures.written

pub returns-clause-utf8 : goal.returns-clause-utf8
returns-clause-utf8 c =
    let spelt = cut c.write_digits_in-start.new.bytes _ c.write_digits_in-start.result (omega (arith, c.write_digits_in-start.auto.bytes)) c.write_digits_in-start.ensures.written in
    subst IsUtf8 (sym spelt) (IsUtf8-append _ _ (hex_utf8 c.args.ino (omega (arith, c.ranges.ino))) tree_utf8)

pub returns-clause-start : goal.returns-clause-start
returns-clause-start c = let ends = c.write_digits_in-start.ensures.start in omega (arith, ends)
