use Rattle.sessions.proofs.Common.{contents, nat_cmp}
use Rattle.sessions.proofs.RowLaws.{none_left}
use Rattle.sessions.proofs.clients.Client.trim.Goals as goal

-- nothing is set aside
pub returns-else-not-is_empty-clause-row : goal.returns-else-not-is_empty-clause-row
returns-else-not-is_empty-clause-row c =
    let none = none_left (contents nat_cmp c.self.inside.aside) c.self.inside.mark (c.is_empty.ensures.0 c.if-not-is_empty.false) in
    rw (← c.self.view_is) (λ i. record { mark = c.self.inside.mark; kept = c.remove_below.ensures.kept i; aside = none i })
