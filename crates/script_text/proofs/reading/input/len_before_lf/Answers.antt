use Rattle.script_text.proofs.Common.{arith}
use Rattle.script_text.proofs.FirstLf.{lf_at, no_lf}
use Rattle.script_text.proofs.reading.input.len_before_lf.Goals as goal

pub returns-in-Some-clause-value : goal.returns-in-Some-clause-value
returns-in-Some-clause-value c = lf_at c.args.bytes.now c.in-Some.place (λ i lt. c.in-Some.ensures.0.before i (omega arith) lt) c.in-Some.ensures.0.high c.in-Some.ensures.1

pub returns-in-None-clause-value : goal.returns-in-None-clause-value
returns-in-None-clause-value c = no_lf c.args.bytes.now (λ i lt. c.in-None.ensures i (omega arith) lt)
