-- Memory is taken where the fields are those of a link.
use Rattle.dirfrag_codec.proofs.Common.{sym}
use Rattle.dirfrag_codec.proofs.RecordLaws.{link_fields, on_err}
use Rattle.dirfrag_codec.proofs.records.inode_of.Goals as goal

pub returns-in_err-kind-clause-memory : goal.returns-in_err-kind-clause-memory
returns-in_err-kind-clause-memory c =
    on_err c.from_residual.result
    (link_fields _ c.in-Some-pin_of.pin c.in-Some.ensures.0 (sym c.if-not-fits_kind.ensures) c.in-Some-pin_of.ensures c.in_err-kind.ensures.memory)
