use Rattle.admin_cli.proofs.Common.{Option, Some, ap, inr, refl, rules, subst, sym, ◌∙◌, ◌≡◌}
use Rattle.std.specs.FinMap as map
use Rattle.cached_frag.specs.Commit.{carried}
use Rattle.cached_frag.specs.declared.jobs.Job.{Job as Begun}
use Rattle.cluster_core.specs.declared.events.Event.TheVariants.{CommitEnd}
use Rattle.admin_cli.specs.Admin.{seen}
use Rattle.admin_cli.specs.StoreLines.{EndsJob, EndsKept}
use Rattle.admin_cli.proofs.Committed.{on_err}
use Rattle.admin_cli.proofs.commands.Admin.end.Goals as goal

pub returns-in_err-copy-clause-err : goal.returns-in_err-copy-clause-err
returns-in_err-copy-clause-err g c = on_err c.from_residual.result (refl, (c.in-Some.job.now, search rules))

pub returns-in-Ok-clause-line : goal.returns-in-Ok-clause-line
returns-in-Ok-clause-line g c =
    let found : map.get c.args.self.now.jobs c.args.number ≡ Some c.in-Some.job.now = search rules in
    let same : c.in-Ok.encoded ≡ carried c.in-Some.job.now = c.in-Ok.ensures.ok ∙ ap carried c.in_ok-copy.ensures in
    subst (λ (kept : Option Begun). EndsKept (seen c.args.self.now) (seen c.end_job.new.self) c.args.number kept c.end_job.result) (sym found)
    (inr (subst (λ e. EndsJob (seen c.args.self.now) (seen c.end_job.new.self) c.args.number (CommitEnd e) c.end_job.result) same c.end_job.ensures))
