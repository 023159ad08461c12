use Rattle.script_text.proofs.Common.{HoldsName}
use Rattle.script_text.specs.Operations.{readdir_of}
use Rattle.script_text.proofs.FormLemmas.{after_fails, gives_text_fault}
use Rattle.script_text.proofs.operations.readdir.Goals as goal

pub returns-in_err-after : goal.returns-in_err-after
unfolding readdir_of
returns-in_err-after c =
    let from = c.from_residual-in_err-after.ensures in
    gives_text_fault HoldsName c.from_residual-in_err-after.result c.in_err-after.field-0.0 _ from.0 from.1 (rw (c.in_ok-dir.ensures, c.in_ok-dir-2.ensures, c.in_ok-max.ensures) (after_fails HoldsName _ (λ name. tt) _ _ c.in_err-after.ensures.dash c.in_err-after.ensures.name))
