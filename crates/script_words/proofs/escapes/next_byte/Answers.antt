use Rattle.script_words.proofs.Common.{IfNone, None, Option, Some, ap, arith, bytes_of, onto, sym, ◌∙◌}
use Rattle.script_words.proofs.EscapeLemmas.{bytes_of-plain, bytes_of-escape, bytes_of-short}
use Rattle.script_words.proofs.escapes.next_byte.Goals as goal

pub returns-then-first-ne37-clause-found : goal.returns-then-first-ne37-clause-found
returns-then-first-ne37-clause-found c =
    bytes_of-plain c.in_ok-first.first.now c.in_ok-first.rest.now c.args.word.now c.in_ok-first.ensures.cases.0 c.if-first-ne37.true

-- a fact that holds anyway
anyway : {A : Type 0} {P : Type 0} (found : Option A) → P → IfNone found P
anyway None p = p
anyway (Some x) p = tt

pub returns-in_err-high-clause-none : goal.returns-in_err-high-clause-none
returns-in_err-high-clause-none c = anyway c.from_residual-in_err-high.result (λ _.
    bytes_of-short c.in_ok-first.first.now c.in_ok-first.rest.now c.args.word.now c.in_ok-first.ensures.cases.0 c.if-first-ne37.false (omega (arith, c.in_err-high.ensures.cases)))

pub returns-in_err-low-clause-none : goal.returns-in_err-low-clause-none
returns-in_err-low-clause-none c = anyway c.from_residual-in_err-low.result (λ _.
    bytes_of-short c.in_ok-first.first.now c.in_ok-first.rest.now c.args.word.now c.in_ok-first.ensures.cases.0 c.if-first-ne37.false
    (omega (arith, c.in_err-low.ensures.cases, c.in_ok-high.ensures.cases.1)))

pub returns-in_err-hex_byte-clause-none : goal.returns-in_err-hex_byte-clause-none
returns-in_err-hex_byte-clause-none c = anyway c.from_residual-in_err-hex_byte.result (λ _.
    bytes_of-escape c.in_ok-first.first.now c.in_ok-high.high.now c.in_ok-low.low.now c.in_ok-first.rest.now c.in_ok-high.rest.now c.in_ok-low.rest.now c.args.word.now
    c.in_ok-first.ensures.cases.0 c.if-first-ne37.false c.in_ok-high.ensures.cases.0 c.in_ok-low.ensures.cases.0
    ∙ ap (λ byte. onto byte (bytes_of c.in_ok-low.rest.now)) (sym c.in_err-hex_byte.ensures))

pub returns-clause-found : goal.returns-clause-found
returns-clause-found c =
    bytes_of-escape c.in_ok-first.first.now c.in_ok-high.high.now c.in_ok-low.low.now c.in_ok-first.rest.now c.in_ok-high.rest.now c.in_ok-low.rest.now c.args.word.now
    c.in_ok-first.ensures.cases.0 c.if-first-ne37.false c.in_ok-high.ensures.cases.0 c.in_ok-low.ensures.cases.0
    ∙ ap (λ byte. onto byte (bytes_of c.in_ok-low.rest.now)) (sym c.in_ok-hex_byte.ensures)
