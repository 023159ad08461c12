-- What was told is what one thread tells.
use Rattle.asking.proofs.Common.{whole_of}
use Rattle.asking.proofs.OneLaws.{order_kept}
use Rattle.asking.proofs.WaitingLaws.{waiting_as_one}
use Rattle.asking.proofs.drains.drain.Goals as goal

pub returns-clause-one_thread : goal.returns-clause-one_thread
returns-clause-one_thread g c opening past given =
    let its = c.answer_all-ended.ensures in
    (waiting_as_one (whole_of opening past c.args.book.now) (whole_of opening past c.answer_all-ended.new.book) c.answer_all-ended.new.receipts.items (its.goes_on opening past given).behind.sound (its.served opening past given)).one

pub returns-clause-in_order : goal.returns-clause-in_order
returns-clause-in_order g c =
    let known = c.is_sound.ensures in
    let its = c.answer_all-ended.ensures in
    let on = its.goes_on known.0 known.1 known.2 in
    order_kept known.0 known.1 c.args.book.now c.answer_all-ended.new.book c.answer_all-ended.new.receipts.items known.2 on
    (waiting_as_one (whole_of known.0 known.1 c.args.book.now) (whole_of known.0 known.1 c.answer_all-ended.new.book) c.answer_all-ended.new.receipts.items on.behind.sound (its.served known.0 known.1 known.2)).in_order
