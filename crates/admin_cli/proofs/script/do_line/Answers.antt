use Rattle.admin_cli.proofs.Common.{Admin, AnswersLine, Errno, LacksForCommand, Line, PrintsOf, Some, inl, refl, subst, sym}
use Rattle.admin_cli.proofs.Carried.{none_forgotten, then_forgets_if}
use Rattle.admin_cli.proofs.Progress.{command_printed}
use Rattle.admin_cli.specs.Modes.{CarriesOut, DoesUnder}
use Rattle.admin_cli.specs.Admin.{seen}
use Rattle.admin_cli.proofs.script.do_line.Goals as goal

pub returns-in-BadWord-clause-prints : goal.returns-in-BadWord-clause-prints
returns-in-BadWord-clause-prints g c =
    subst (λ (l : Line). PrintsOf (AnswersLine (DoesUnder c.args.mode.now) (seen c.args.admin.now) (seen c.args.admin.now) l) c.args.waiting.now c.print-printed.new.waiting c.args.line (g.W.Write.contents c.args.writer.now) (g.W.Write.contents c.print-printed.new.writer) c.print-printed.result)
    (sym c.in-BadWord.is) (inl (Some (Errno c.in-BadWord.errno), (refl, refl), c.print-printed.ensures))

pub returns-in-Command-clause-prints : goal.returns-in-Command-clause-prints
returns-in-Command-clause-prints g c =
    let old = seen c.args.admin.now in
    let middle = seen c.carry-came.new.self in
    let new = seen c.forget_behind.new.self in
    let did = then_forgets_if c.args.mode.now.history (λ (m : Admin) line. CarriesOut c.args.mode.now old m c.in-Command.command line) middle new c.carry-came.result c.carry-came.ensures.line c.forget_behind.ensures.done in
    let lacks = none_forgotten c.carry-came.result (λ (a : Admin). LacksForCommand old a c.in-Command.command) middle new c.carry-came.ensures.err c.forget_behind.ensures.left in
    subst (λ (l : Line). PrintsOf (AnswersLine (DoesUnder c.args.mode.now) old new l) c.args.waiting.now c.print_came-printed.new.waiting c.args.line (g.W.Write.contents c.args.writer.now) (g.W.Write.contents c.print_came-printed.new.writer) c.print_came-printed.result)
    (sym c.in-Command.is)
    (command_printed (DoesUnder c.args.mode.now) old new c.in-Command.command c.args.waiting.now c.print_came-printed.new.waiting c.args.line (g.W.Write.contents c.args.writer.now) (g.W.Write.contents c.print_came-printed.new.writer) c.print_came-printed.result c.carry-came.result
    did lacks c.print_came-printed.ensures)
