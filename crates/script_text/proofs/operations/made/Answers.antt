use Rattle.script_text.specs.Operations.{made_of}
use Rattle.script_text.proofs.FormLemmas.{gives_fault, name_fails}
use Rattle.script_text.proofs.operations.made.Goals as goal

pub returns-in_err-name : goal.returns-in_err-name
unfolding made_of
returns-in_err-name c =
    let from = c.from_residual-in_err-name.ensures in
    gives_fault _ c.from_residual-in_err-name.result c.in_err-name.field-0.0 _ from.0 from.1 (rw (c.in_ok-dir.ensures, c.in_ok-word.ensures, c.in_ok-digits.ensures, c.in_ok-dir-2.ensures, c.in_ok-mode.ensures, c.in_ok-birth.ensures) (name_fails _ _ _ c.in_err-name.ensures))
