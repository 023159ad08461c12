-- What is left decides, unless what was seen does.
use Rattle.std.specs.Prelude.{◌&&◌}
use Rattle.std.specs.List.{list_all}
use Rattle.script_words.proofs.Common.{◌≡◌, drop}
use Rattle.script_words.specs.Words.{is_printable}
use Rattle.script_words.proofs.words.is_printable.Given as goal

abbrev pub invariant-loop-i : goal.invariant-loop-i
invariant-loop-i l = (l.all && list_all is_printable (drop l.i l.fn.line)) ≡ list_all is_printable l.fn.line
