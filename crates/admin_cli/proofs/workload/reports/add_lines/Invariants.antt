use Rattle.admin_cli.proofs.Common.{drop, path_lines, ◌++◌, ◌≡◌}
use Rattle.admin_cli.proofs.workload.reports.add_lines.Given as goal

-- what is written so far, with the lines of the paths that are left, is the whole
abbrev pub invariant-loop-path : goal.invariant-loop-path
invariant-loop-path l = l.text.items ++ path_lines (drop l.path-index l.paths.items) ≡ l.initial.text.items ++ path_lines l.paths.items
