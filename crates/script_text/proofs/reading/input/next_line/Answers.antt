use Rattle.script_text.proofs.Common.{ap, arith, eqb-false, length, sym, ◌∙◌}
use Rattle.std.proofs.lemmas.Bool.{eqb-true}
use Rattle.script_text.proofs.LineLemmas.{line_read, last_read, end_read, fault_read, grows}
use Rattle.script_text.proofs.reading.input.next_line.Goals as goal

pub looks-smaller : goal.looks-smaller
looks-smaller g c =
    omega (arith, c.in-Ok-More.ensures.short, grows _ _ c.looks.line.line c.take_shown.new.line.line (rw c.in-Ok-More.field-0-is at c.in-Ok-More.ensures.moves))

pub returns-in-Ok-LineEnd-clause-line : goal.returns-in-Ok-LineEnd-clause-line
returns-in-Ok-LineEnd-clause-line g c = line_read _ _ _ _ _ c.looks.invariant.taken c.looks.invariant.one_line (rw c.in-Ok-LineEnd.field-0-is at c.in-Ok-LineEnd.ensures.moves)

pub returns-in-Err-clause-line : goal.returns-in-Err-clause-line
returns-in-Err-clause-line g c = fault_read _ _ (g.R.Read.remaining c.take_shown.new.reader) _ c.take_shown.new.line.line c.in-Err.fault c.looks.invariant.taken c.looks.invariant.one_line c.in-Err.ensures.long

pub returns-then-is_empty-clause-line : goal.returns-then-is_empty-clause-line
returns-then-is_empty-clause-line g c =
    end_read _ _ _ _ _ c.looks.invariant.taken (rw c.in-Ok-InputEnd.field-0-is at c.in-Ok-InputEnd.ensures.moves)
    (ap length (sym c.as_bytes.ensures.bytes) ∙ eqb-true (length c.as_bytes.result.now) 0 (sym c.is_empty.ensures ∙ c.if-is_empty.true))

pub returns-else-is_empty-clause-line : goal.returns-else-is_empty-clause-line
returns-else-is_empty-clause-line g c =
    last_read _ _ _ _ _ c.looks.invariant.taken c.looks.invariant.one_line (rw c.in-Ok-InputEnd.field-0-is at c.in-Ok-InputEnd.ensures.moves)
    (λ none. eqb-false (length c.as_bytes.result.now) 0 (sym c.is_empty.ensures ∙ c.if-is_empty.false) (ap length c.as_bytes.ensures.bytes ∙ none))
