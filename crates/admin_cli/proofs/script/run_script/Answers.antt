use Rattle.admin_cli.proofs.Carried.{carries_plain}
use Rattle.admin_cli.proofs.Common.{subst}
use Rattle.admin_cli.specs.Scripts.{Doing, RunsNew}
use Rattle.admin_cli.proofs.script.run_script.Goals as goal

pub returns-clause-ran : goal.returns-clause-ran
returns-clause-ran g c =
    subst (λ (Does : Doing). RunsNew Does c.args.ranks c.args.cache c.args.limit (g.R.Read.remaining c.args.reader) (g.W.Write.contents c.args.writer.now) (g.W.Write.contents c.run_new.new.writer) c.run_new.result) carries_plain c.run_new.ensures.ran
