use Rattle.admin_cli.proofs.Common.{Ok, Option, ap, ℕ, ◌∙◌}
use Rattle.admin_cli.proofs.Committed.{ended, nothing_begun, refused, stopped}
use Rattle.admin_cli.specs.Admin.{seen}
use Rattle.admin_cli.proofs.commands.Admin.commit.Goals as goal

pub returns-in-Ok-Some-clause-line : goal.returns-in-Ok-Some-clause-line
returns-in-Ok-Some-clause-line g c =
    ended _ _ (seen c.end.new.self) c.args.rank c.args.ino c.args.frag _ c.in_ok-number.ensures.begun c.in-Ok-Some.number c.end.result (c.in-Ok-Some.is ∙ ap (λ (n : Option ℕ). Ok n) c.in-Ok-Some.field-0-is) c.end.ensures.line

pub returns-in-Ok-None-clause-line : goal.returns-in-Ok-None-clause-line
returns-in-Ok-None-clause-line g c =
    nothing_begun _ _ (seen c.begin.new.self) c.args.rank c.args.ino c.args.frag _ c.in_ok-number.ensures.begun (c.in-Ok-None.is ∙ ap (λ (n : Option ℕ). Ok n) c.in-Ok-None.field-0-is)

pub returns-in-Err-clause-line : goal.returns-in-Err-clause-line
returns-in-Err-clause-line g c = refused _ _ (seen c.begin.new.self) c.args.rank c.args.ino c.args.frag _ c.in_ok-number.ensures.begun c.in-Err.refusal c.in-Err.is

pub returns-in-Ok-Some-clause-err : goal.returns-in-Ok-Some-clause-err
returns-in-Ok-Some-clause-err g c =
    stopped _ _ (seen c.end.new.self) c.args.rank c.args.ino c.args.frag _ c.in_ok-number.ensures.begun c.in-Ok-Some.number c.end.result (c.in-Ok-Some.is ∙ ap (λ (n : Option ℕ). Ok n) c.in-Ok-Some.field-0-is) c.end.ensures.err
