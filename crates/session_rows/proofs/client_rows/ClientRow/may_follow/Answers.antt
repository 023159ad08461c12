-- The last number tells which may follow.
use Rattle.session_rows.proofs.Common.{sym}
use Rattle.session_rows.proofs.RowLaws.{may_follow}
use Rattle.session_rows.proofs.client_rows.ClientRow.may_follow.Goals as goal

pub returns-in-Some : goal.returns-in-Some
returns-in-Some c =
    let last = sym (rw c.deref.ensures.value at c.in-Some.ensures.value) in
    rw (← c.self.view_is) (λ low. may_follow c.self.inside.mark c.args.tid c.self.inside.replies.items c.in-Some.last.now last)
