use Rattle.asking.proofs.Common.{NoneWaits, Refusal, Result, [], arith, places_of, receipt_in, refl, subst, whole_of}
use Rattle.std.specs.Prelude.{OnOk}
use Rattle.asking.proofs.AmongLaws.{asked_then, one_at_most}
use Rattle.asking.proofs.LoopLaws.{grows_behind}
use Rattle.asking.proofs.WaitingLaws.{among_as_one, held_as_one, order_then}
use Rattle.asking.proofs.asks.ask_among.Goals as goal

pub returns-clause-asked : goal.returns-clause-asked
returns-clause-asked g c opening past given =
    let its = c.drain-others.ensures in
    let on = its.goes_on opening past given in
    let none : NoneWaits c.drain-others.new.book.core.state.inboxes = subst (λ (r : Result (Unit {0}) Refusal). OnOk r (NoneWaits c.drain-others.new.book.core.state.inboxes)) c.in_default.is its.drained in
    asked_then (whole_of opening past c.args.book.now) (whole_of opening past c.drain-others.new.book) (whole_of opening past c.ask-answer.new.book) c.drain-others.result.receipts.items c.args.rank c.args.request c.ask-answer.result
    (record { served = its.served opening past given; sound = on.behind.sound; grows = grows_behind past c.args.book.now.history c.drain-others.new.book.history its.grows; same_opening = refl; none = none }) (c.ask-answer.ensures.asked opening past on)

pub returns-clause-few : goal.returns-clause-few
returns-clause-few g c =
    let known = c.drain-others.ensures.sound in
    let mid = whole_of known.0 known.1 c.drain-others.new.book in
    let new = whole_of known.0 known.1 c.ask-answer.new.book in
    let none : NoneWaits c.drain-others.new.book.core.state.inboxes = subst (λ (r : Result (Unit {0}) Refusal). OnOk r (NoneWaits c.drain-others.new.book.core.state.inboxes)) c.in_default.is c.drain-others.ensures.drained in
    omega (arith, one_at_most mid.core new.core mid.history new.history c.args.rank c.args.request none c.ask-answer.result (c.ask-answer.ensures.asked known.0 known.1 known.2))

pub returns-clause-stands : goal.returns-clause-stands
returns-clause-stands g c opening past given = c.ask-answer.ensures.stands opening past (c.drain-others.ensures.goes_on opening past given)

pub returns-clause-goes_on : goal.returns-clause-goes_on
returns-clause-goes_on g c opening past given = c.ask-answer.ensures.goes_on opening past (c.drain-others.ensures.goes_on opening past given)

pub returns-in-Err-clause-one_thread : goal.returns-in-Err-clause-one_thread
returns-in-Err-clause-one_thread g c opening past given =
    held_as_one (whole_of opening past c.args.book.now) (whole_of opening past c.drain-others.new.book) c.drain-others.result.receipts.items c.args.request (c.drain-others.ensures.goes_on opening past given).behind.sound (c.drain-others.ensures.served opening past given)

pub returns-in-Err-clause-in_order : goal.returns-in-Err-clause-in_order
returns-in-Err-clause-in_order g c =
    order_then (places_of c.args.book.now) (places_of c.drain-others.new.book) (places_of c.drain-others.new.book) c.drain-others.result.receipts.items [] c.drain-others.ensures.in_order refl

pub returns-clause-one_thread : goal.returns-clause-one_thread
returns-clause-one_thread g c opening past given =
    let on = c.drain-others.ensures.goes_on opening past given in
    (among_as_one (whole_of opening past c.args.book.now) (whole_of opening past c.drain-others.new.book) (whole_of opening past c.ask-answer.new.book) c.drain-others.result.receipts.items c.args.request 20 c.ask-answer.result
    (c.ask-answer.ensures.goes_on opening past on).behind.sound (c.drain-others.ensures.served opening past given) (c.ask-answer.ensures.reached opening past on)).one

pub returns-clause-in_order : goal.returns-clause-in_order
returns-clause-in_order g c =
    order_then (places_of c.args.book.now) (places_of c.drain-others.new.book) (places_of c.ask-answer.new.book) c.drain-others.result.receipts.items (receipt_in c.ask-answer.result) c.drain-others.ensures.in_order c.ask-answer.ensures.in_order
