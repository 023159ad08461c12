use Rattle.script_words.proofs.Common.{ap, length, span, ◌*◌, ◌∙◌}
use Rattle.script_words.proofs.FragLemmas.{value_of-below, none_found, fragment_found}
use Rattle.script_words.proofs.fragments.frag_from.Goals as goal

pub returns-in_default : goal.returns-in_default
returns-in_default c = none_found c.args.digits.now c.if-digits-gt-FRAG_DIGITS.false c.in_default.ensures

pub justified-requires-clause-fits : goal.justified-requires-clause-fits
justified-requires-clause-fits c =
    rw c.in-Some.ensures.1 (value_of-below c.args.digits.now c.in-Some.ensures.0.0)

pub returns : goal.returns
returns c =
    fragment_found c.args.digits.now c.justified.result c.new.result c.if-digits-gt-FRAG_DIGITS.false c.in-Some.ensures.0.0
    (c.justified.ensures ∙ ap (λ number. number * span (length c.args.digits.now)) c.in-Some.ensures.1) c.new.ensures
