use Rattle.script_words.proofs.Common.{subst, sym, ◌*◌, ◌+◌, ◌<◌, ◌≤◌}
use Rattle.script_words.proofs.NumberLemmas.{not_digits, value_from-passes}
use Rattle.script_words.proofs.numbers.value.Goals as goal

pub returns-then-next-base : goal.returns-then-next-base
returns-then-next-base c = λ both.
    not_digits c.args.base c.loop-byte.byte-index c.args.word.now c.loop-byte-test.true (subst (λ d. c.args.base ≤ d) c.digit-next.ensures.value c.if-next-base.true) c.loop-byte.invariant.digits both.0

pub returns-in_default : goal.returns-in_default
returns-in_default c = λ both.
    value_from-passes c.args.base c.loop-byte.n c.loop-byte.byte-index _ 18446744073709551616 c.args.word.now c.requires c.loop-byte-test.true c.loop-byte.invariant.same
    (λ fits. c.in_default.ensures (subst (λ d. c.loop-byte.n * c.args.base + d < 18446744073709551616) (sym c.digit-next.ensures.value) fits)) both.1
