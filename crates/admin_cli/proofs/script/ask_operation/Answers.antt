use Rattle.admin_cli.proofs.Common.{Some, inl, refl}
use Rattle.admin_cli.proofs.Carried.{as_asked, then_forgets}
use Rattle.admin_cli.specs.Admin.{seen}
use Rattle.admin_cli.proofs.script.ask_operation.Goals as goal

pub returns-clause-prints : goal.returns-clause-prints
returns-clause-prints g c =
    inl (Some c.ask_operation-shown.result, (c.ask_operation-shown.result, then_forgets c.args.mode.now.history _ (seen c.ask_operation-shown.new.self) (seen c.forget.new.self) (as_asked c.args.mode.now.asks _ _ c.requires.asks c.ask_operation-shown.ensures) c.forget.ensures.forgot, refl), c.print-printed.ensures)
