use Rattle.script_words.proofs.Common.{eqb-false, length, sym, ◌∙◌}
use Rattle.script_words.proofs.NumberLemmas.{octal_given}
use Rattle.script_words.proofs.numbers.octal_mode.Goals as goal

pub returns : goal.returns
returns c =
    let given = octal_given c.args.word.now c.value.result (eqb-false (length c.args.word.now) 0 (sym c.is_empty.ensures ∙ c.if-is_empty.false)) c.if-word-gt-MODE_DIGITS.false c.value.ensures in
    record { value = given.0; small = given.1 }
