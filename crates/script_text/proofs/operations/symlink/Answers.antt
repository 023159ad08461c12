use Rattle.script_text.proofs.Common.{HoldsName}
use Rattle.script_text.specs.Operations.{symlink_of}
use Rattle.script_text.proofs.FormLemmas.{gives_text_fault, target_fails}
use Rattle.script_text.proofs.operations.symlink.Goals as goal

pub returns-in_err-bytes : goal.returns-in_err-bytes
unfolding symlink_of
returns-in_err-bytes c =
    let from = c.from_residual-in_err-bytes.ensures in
    gives_text_fault HoldsName c.from_residual-in_err-bytes.result c.in_err-bytes.field-0.0 _ from.0 from.1 (rw (c.in_ok-dir.ensures, c.in_ok-word.ensures, c.in_ok-to.ensures, c.in_ok-dir-2.ensures, c.in_ok-birth.ensures) (target_fails HoldsName _ _ _ _ (λ name other. tt) c.in_err-bytes.ensures))
