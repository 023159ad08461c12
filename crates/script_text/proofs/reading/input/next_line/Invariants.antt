use Rattle.script_text.proofs.Common.{Consumes, IsOfOneLine, length, ◌-◌, ◌≡◌}
use Rattle.script_text.proofs.reading.input.next_line.Given as goal

-- the line so far was taken from the reader, and is a part of one line; no failure was noted
abbrev pub invariant-looks : goal.invariant-looks
invariant-looks g l = record {
  taken : Consumes (g.R.Read.remaining l.initial.reader) (g.R.Read.remaining l.reader) l.line.line;
  one_line : IsOfOneLine l.line.line;
  kept : l.line.failed ≡ l.fn.line.failed;
}

abbrev pub decreases-looks : goal.decreases-looks
decreases-looks g l = 16384 - length l.line.line
