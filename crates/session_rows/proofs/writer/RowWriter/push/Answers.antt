-- A reply more.
use Rattle.session_rows.proofs.RowLaws.{pushed}
use Rattle.session_rows.proofs.writer.RowWriter.push.Goals as goal

pub returns-clause-row : goal.returns-clause-row
returns-clause-row c =
    let items = rw c.deref.ensures.value at c.extend_from_slice.ensures.items in
    rw (← c.self.view_is) (pushed c.extend_from_slice.result c.extend_from_slice.new.self.items c.self.inside.bytes.items c.in_ok-told.told.items _ items c.in_ok-told.ensures.bytes c.in_ok-told.ensures.told)
