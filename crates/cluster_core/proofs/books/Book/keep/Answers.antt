-- The book goes on, with no client changed any more.
use Rattle.cluster_core.proofs.Common.{KeptState, StandsBehind, subst, sym, ◌∙◌}
use Rattle.sessions.specs.Table.{all_stored}
use Rattle.cluster_core.proofs.StayLaws.{stored_behind}
use Rattle.cluster_core.proofs.Forgotten.{settled_with}
use Rattle.cluster_core.proofs.books.Book.keep.Goals as goal

pub invariant_of-self : goal.invariant_of-self
invariant_of-self g c =
    let b = c.self.inside in
    let known = c.self.invariant.sound in
    rw c.count_stored.ensures (record {
      sound = (known.0, known.1, stored_behind known.0 known.1 (record { opening = b.opening; history = b.history.items; core = b.cluster }) known.2);
      settled = settled_with b.cluster (all_stored b.cluster.state.sessions) b.settled.ranks.items c.self.invariant.settled;
    })

pub returns-clause-goes_on : goal.returns-clause-goes_on
returns-clause-goes_on g c = λ opening past given.
    let b = c.self.inside in
    let goes = subst (StandsBehind opening past) (sym (c.self.view_is ∙ c.in_ok-kept.ensures.same)) given in
    rw c.count_stored.ensures (stored_behind opening past (record { opening = b.opening; history = b.history.items; core = b.cluster }) goes)
