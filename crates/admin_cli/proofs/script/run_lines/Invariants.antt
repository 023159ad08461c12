use Rattle.admin_cli.proofs.Common.{◌+◌, ◌<◌}
use Rattle.admin_cli.proofs.Progress.{IsReached}
use Rattle.admin_cli.specs.Modes.{DoesUnder}
use Rattle.admin_cli.specs.Admin.{seen}
use Rattle.admin_cli.proofs.script.run_lines.Given as goal

-- the lines before this one were done, and as many of them at most were operations alone
abbrev pub invariant-loop-line : goal.invariant-loop-line
invariant-loop-line g l = record {
  few : l.admin.operations < l.initial.admin.operations + l.line;
  reached : IsReached (DoesUnder l.mode) (seen l.initial.admin) (seen l.admin) (g.R.Read.remaining l.initial.reader) (g.R.Read.remaining l.reader) (g.W.Write.contents l.initial.writer) (g.W.Write.contents l.writer) l.waiting.bytes.items l.waiting.marks.items l.line;
}
