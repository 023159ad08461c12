use Rattle.cluster_core.proofs.Common.{StandsBehind, subst, sym}
use Rattle.cluster_core.proofs.books.Book.drop_opening.Goals as goal

pub invariant_of-self : goal.invariant_of-self
invariant_of-self g c =
    let known = c.self.invariant.sound in
    rw c.take.ensures.after (record { sound = (known.0, known.1, record { opened = tt; behind = known.2.behind }); settled = c.self.invariant.settled })

pub returns-clause-goes_on : goal.returns-clause-goes_on
returns-clause-goes_on g c = λ opening past given.
    let goes = subst (StandsBehind opening past) (sym c.self.view_is) given in
    rw c.take.ensures.after (record { opened = tt; behind = goes.behind })
