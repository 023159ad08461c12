-- The line of a step that is neither a Send nor an Import.
use Rattle.admin_cli.specs.Admin.{seen}
use Rattle.admin_cli.proofs.OwnTurnLaws.{told_line}
use Rattle.admin_cli.proofs.commands.Admin.own_step.Goals as goal

pub returns-in_default : goal.returns-in_default
returns-in_default g c = record {
  line = told_line (seen c.args.self.now) (seen c.step-shown.new.self) c.args.name.now.step c.args.name.now.ino c.args.name.now.frag c.step-shown.result c.told-in_default.result c.args.event c.told-in_default.ensures c.requires c.in_default.not-Send c.in_default.not-Import c.step-shown.ensures;
  err = tt;
  count = c.step-shown.ensures.0;
}
