use Rattle.admin_cli.proofs.Common.{Admin, LeavesAdmin, RunsOrNot, subst, sym}
use Rattle.admin_cli.proofs.PrintedLaws.{carries_as_one, leaves_over, prints_over}
use Rattle.admin_cli.specs.Admin.{seen}
use Rattle.admin_cli.specs.Left.{LeavesOneThread}
use Rattle.admin_cli.specs.Modes.{DoesUnder}
use Rattle.admin_cli.proofs.script.run_over.Goals as goal

pub returns-clause-one_thread : goal.returns-clause-one_thread
returns-clause-one_thread g c = prints_over (DoesUnder c.args.mode) (carries_as_one c.args.mode) c.args.book c.is_sound.ensures _ _ _ _
    (subst (λ (a : Admin). RunsOrNot (DoesUnder c.args.mode) a (g.R.Read.remaining c.args.reader) (g.W.Write.contents c.args.writer.now) (g.W.Write.contents c.run_input-ended.new.writer) c.run_input-ended.result)
    c.new-admin.ensures c.run_input-ended.ensures.runs)

pub returns-clause-leaves : goal.returns-clause-leaves
returns-clause-leaves g c = record {
  admin = seen c.run_input-ended.new.admin;
  leaves = subst (λ (a : Admin). LeavesAdmin (DoesUnder c.args.mode) a (seen c.run_input-ended.new.admin) (g.R.Read.remaining c.args.reader) (g.W.Write.contents c.args.writer.now) (g.W.Write.contents c.run_input-ended.new.writer) c.run_input-ended.result)
      c.new-admin.ensures c.run_input-ended.ensures.leaves;
  book_is = c.into_book.ensures;
}

pub returns-clause-left : goal.returns-clause-left
returns-clause-left g c =
    let its = returns-clause-leaves g c in λ opening past given.
    subst (λ b. LeavesOneThread opening past c.args.book b (g.R.Read.remaining c.args.reader) (g.W.Write.contents c.args.writer.now) (g.W.Write.contents c.run_input-ended.new.writer) c.run_input-ended.result)
    (sym its.book_is) (leaves_over (DoesUnder c.args.mode) (carries_as_one c.args.mode) c.args.book c.is_sound.ensures its.admin _ _ _ _ its.leaves opening past given)
