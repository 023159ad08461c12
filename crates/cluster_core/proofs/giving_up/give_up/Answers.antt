use Rattle.cluster_core.proofs.Common.{StandsBehind, subst, sym, waiting_at}
use Rattle.cluster_core.proofs.GivenUpLaws.{given_behind, given_settled}
use Rattle.cluster_core.proofs.giving_up.give_up.Goals as goal

pub invariant_of-book : goal.invariant_of-book
invariant_of-book g c =
    let b = c.book.inside in
    let known = c.book.invariant.sound in
    record {
      sound = (known.0, known.1, record { opened = known.2.opened; behind = given_behind known.0 known.1 b.history.items b.cluster c.give_up.new.self c.args.rank (waiting_at b.cluster.state.inboxes c.args.rank) c.give_up.ensures known.2.behind });
      settled = given_settled b.cluster c.give_up.new.self c.args.rank (waiting_at b.cluster.state.inboxes c.args.rank) b.settled.ranks.items c.give_up.ensures c.book.invariant.settled;
    }

pub returns-clause-sound : goal.returns-clause-sound
returns-clause-sound g c = (invariant_of-book g c).sound

pub returns-clause-goes_on : goal.returns-clause-goes_on
returns-clause-goes_on g c = λ opening past given.
    let b = c.book.inside in
    let goes = subst (StandsBehind opening past) (sym c.book.view_is) given in
    record { opened = goes.opened; behind = given_behind opening past b.history.items b.cluster c.give_up.new.self c.args.rank (waiting_at b.cluster.state.inboxes c.args.rank) c.give_up.ensures goes.behind }
