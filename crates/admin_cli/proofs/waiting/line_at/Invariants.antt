use Rattle.admin_cli.proofs.Common.{drop, line_at, ◌≡◌}
use Rattle.admin_cli.proofs.waiting.line_at.Given as goal

-- no text of the marks passed has the byte
abbrev pub invariant-loop-mark : goal.invariant-loop-mark
invariant-loop-mark l = line_at (drop l.mark-index l.marks) l.place ≡ line_at l.marks l.place
