use Rattle.rank_threads.proofs.Common.{[], append-nil, map, plans_arrivals, refl, sym, vec_items, waiting_in}
use Rattle.rank_threads.proofs.AskedLaws.{begins_first, each_brings, serves_first}
use Rattle.rank_threads.proofs.StepLaws.{behind_first}
use Rattle.rank_threads.proofs.running.run_as.Goals as goal

-- nothing was done with the book
pub returns-in_default-clause-err : goal.returns-in_default-clause-err
returns-in_default-clause-err g c =
    record { sound = c.is_sound.ensures; goes_on = λ opening past given. given; same_opening = refl; same_past = refl; begins = ([], sym (append-nil c.args.book.history)) }

pub prepare-requires-clause-sent : goal.prepare-requires-clause-sent
prepare-requires-clause-sent g c = each_brings g.L.Handed.sent (waiting_in c.args.book.core.state.inboxes) (map vec_items c.args.asked.plans.items) c.requires.sent

pub invariant_of-new-clause-serves : goal.invariant_of-new-clause-serves
invariant_of-new-clause-serves g c = serves_first g.L.Handed.sent g.L.Handed.first c.args.book (plans_arrivals (map vec_items c.args.asked.plans.items)) c.requires.first c.requires.sent

pub invariant_of-new-clause-begins : goal.invariant_of-new-clause-begins
invariant_of-new-clause-begins g c = begins_first g.L.Handed.first c.args.book c.requires.first

pub invariant_of-new-clause-goes_on : goal.invariant_of-new-clause-goes_on
invariant_of-new-clause-goes_on g c = behind_first g.L.Handed.first c.args.book c.requires.first

pub returns-in-Ok-ran-clause-one_thread : goal.returns-in-Ok-ran-clause-one_thread
returns-in-Ok-ran-clause-one_thread g c = rw (← c.requires.sent, ← c.requires.first) c.settled.ensures.one_thread
