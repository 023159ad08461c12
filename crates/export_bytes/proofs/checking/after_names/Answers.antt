-- One name more rises.
use Rattle.export_bytes.proofs.Common.{arith, option_copied, sym, ◌∙◌}
use Rattle.export_bytes.proofs.RisenItems.{name_rises}
use Rattle.export_bytes.proofs.checking.after_names.Goals as goal

pub names-preserved : goal.names-preserved
names-preserved c =
    name_rises (option_copied c.names.last) c.names.left c.names.rest.now c.in-Some.after.now c.in-Some.name.now _ (omega (arith, c.names-test.true)) c.in-Some.ensures
    (sym c.follows_name.ensures ∙ c.if-not-follows_name.false) c.names.invariant
