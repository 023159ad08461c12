-- Memory is taken where a fragment's head stands behind the front.
use Rattle.export_bytes.proofs.Common.{on_err}
use Rattle.export_bytes.proofs.reading.parts_at.Goals as goal

pub returns-in_err-frags-clause-memory : goal.returns-in_err-frags-clause-memory
returns-in_err-frags-clause-memory c = on_err c.from_residual.result (record { front = _; frags = c.in-Some.rest.now; fronted = c.in-Some.ensures; first = c.in_err-frags.ensures.memory })
