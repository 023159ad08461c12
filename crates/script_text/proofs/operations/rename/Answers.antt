use Rattle.script_text.proofs.Common.{HoldsName}
use Rattle.script_text.specs.Operations.{rename_of}
use Rattle.script_text.proofs.FormLemmas.{gives_text_fault, names_fail}
use Rattle.script_text.proofs.operations.rename.Goals as goal

pub returns-in_err-bytes : goal.returns-in_err-bytes
unfolding rename_of
returns-in_err-bytes c =
    let from = c.from_residual-in_err-bytes.ensures in
    gives_text_fault HoldsName c.from_residual-in_err-bytes.result c.in_err-bytes.field-0.0 _ from.0 from.1 (rw (c.in_ok-dir.ensures, c.in_ok-dir-2.ensures, c.in_ok-to_dir.ensures) (names_fail HoldsName _ _ _ _ (λ name other. tt) c.in_err-bytes.ensures))
