use Rattle.script_text.proofs.Common.{HoldsName}
use Rattle.script_text.specs.Operations.{setpin_of}
use Rattle.script_text.proofs.FormLemmas.{gives_text_fault, name_text_fails}
use Rattle.script_text.proofs.operations.setpin.Goals as goal

pub returns-in_err-name : goal.returns-in_err-name
unfolding setpin_of
returns-in_err-name c =
    let from = c.from_residual-in_err-name.ensures in
    gives_text_fault HoldsName c.from_residual-in_err-name.result c.in_err-name.field-0.0 _ from.0 from.1 (rw (c.in_ok-dir.ensures, c.in_ok-dir-2.ensures, c.in_ok-pin.ensures) (name_text_fails HoldsName _ _ _ (λ name. tt) c.in_err-name.ensures))
