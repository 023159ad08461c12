use Rattle.asking.proofs.AnswerLaws.{come_behind, never_frozen, none_waits_then, question, told_nothing}
use Rattle.asking.proofs.Common.{Arrive, Err, None, Ok, Some, [], arith, receipt_in, refl, whole_of, ◌∷◌}
use Rattle.std.specs.Result.{result_err}
use Rattle.cluster_core.proofs.NoReplyLaws.{tells_none}
use Rattle.asking.proofs.OneLaws.{asked_as_one, asked_keeps_limit, order_kept}
use Rattle.asking.proofs.ReachedLaws.{leads_by, leads_then, leads_within}
use Rattle.asking.proofs.asks.ask.Goals as goal

pub drop_nothing-requires : goal.drop_nothing-requires
drop_nothing-requires g c =
    let known = c.is_sound.ensures in
    told_nothing (whole_of known.0 known.1 c.args.book.now) (whole_of known.0 known.1 c.step.new.self) c.args.rank c.args.request c.in-Ok.answer (c.in-Ok.ensures.stepped known.0 known.1 known.2)

pub serve_first-requires : goal.serve_first-requires
serve_first-requires g c =
    let known = c.is_sound.ensures in (
      question known.0 known.1 c.args.book.now c.args.rank c.args.request,
      known.1,
      come_behind known.0 known.1 c.args.book.now c.step.new.self c.args.rank c.args.request known.2 (c.in-Ok.ensures.goes_on known.0 known.1 known.2) c.requires c.in-Ok.answer (c.in-Ok.ensures.stepped known.0 known.1 known.2) c.in-Ok.ensures.uses,
    )

pub returns-in-Ok-clause-asked : goal.returns-in-Ok-clause-asked
returns-in-Ok-clause-asked g c opening past given =
    c.serve_first.ensures.asked (question opening past c.args.book.now c.args.rank c.args.request) past
    (come_behind opening past c.args.book.now c.step.new.self c.args.rank c.args.request given (c.in-Ok.ensures.goes_on opening past given) c.requires c.in-Ok.answer (c.in-Ok.ensures.stepped opening past given) c.in-Ok.ensures.uses)

pub returns-in-Ok-clause-none : goal.returns-in-Ok-clause-none
returns-in-Ok-clause-none g c =
    let known = c.is_sound.ensures in
    let old = whole_of known.0 known.1 c.args.book.now in
    let new = whole_of known.0 known.1 c.serve_first.new.book in
    none_waits_then old.core new.core old.history new.history c.args.rank c.args.request c.serve_first.result c.requires (returns-in-Ok-clause-asked g c known.0 known.1 known.2)

pub returns-in-Ok-clause-stands : goal.returns-in-Ok-clause-stands
returns-in-Ok-clause-stands g c opening past given = c.serve_first.ensures.stands opening past (c.in-Ok.ensures.goes_on opening past given)

pub returns-in-Ok-clause-goes_on : goal.returns-in-Ok-clause-goes_on
returns-in-Ok-clause-goes_on g c opening past given = c.serve_first.ensures.goes_on opening past (c.in-Ok.ensures.goes_on opening past given)

pub returns-in-Ok-clause-reached : goal.returns-in-Ok-clause-reached
returns-in-Ok-clause-reached g c opening past given =
    let old = whole_of opening past c.args.book.now in
    let mid = whole_of opening past c.step.new.self in
    let on = c.in-Ok.ensures.goes_on opening past given in
    let stepped = c.in-Ok.ensures.stepped opening past given in
    leads_then c.args.request.client c.args.request.tid (c.args.request ∷ []) [] 1 19 20 [] (receipt_in c.serve_first.result) None (result_err c.serve_first.result) old mid (whole_of opening past c.serve_first.new.book) (omega arith)
    (leads_by c.args.request.client c.args.request.tid old mid (Ok c.in-Ok.answer) (Arrive c.args.rank c.args.request) (c.args.request ∷ []) [] refl
    (tells_none old.core mid.core old.history mid.history (Ok c.in-Ok.answer) (Arrive c.args.rank c.args.request) stepped.does) (refl, refl) stepped c.in-Ok.ensures.uses refl on.behind.sound) (c.serve_first.ensures.reached opening past on)

pub returns-in-Err-clause-reached : goal.returns-in-Err-clause-reached
returns-in-Err-clause-reached g c opening past given =
    let old = whole_of opening past c.args.book.now in
    let mid = whole_of opening past c.step.new.self in
    leads_within c.args.request.client c.args.request.tid (c.args.request ∷ []) 1 20 [] (Some c.in-Err.refusal) old mid (omega arith)
    (leads_by c.args.request.client c.args.request.tid old mid (Err c.in-Err.refusal) (Arrive c.args.rank c.args.request) (c.args.request ∷ []) [] refl refl (refl, refl) (c.in-Err.ensures.stepped opening past given) c.in-Err.ensures.uses refl
    (c.in-Err.ensures.goes_on opening past given).behind.sound)

pub returns-in-Ok-clause-one_thread : goal.returns-in-Ok-clause-one_thread
returns-in-Ok-clause-one_thread g c opening past given =
    (asked_as_one (whole_of opening past c.args.book.now) (whole_of opening past c.serve_first.new.book) c.args.request 20 c.serve_first.result c.requires (returns-in-Ok-clause-goes_on g c opening past given).behind.sound (returns-in-Ok-clause-reached g c opening past given)).one

pub returns-in-Err-clause-one_thread : goal.returns-in-Err-clause-one_thread
returns-in-Err-clause-one_thread g c opening past given =
    (asked_as_one (whole_of opening past c.args.book.now) (whole_of opening past c.step.new.self) c.args.request 20 (Err c.in-Err.refusal) c.requires (c.in-Err.ensures.goes_on opening past given).behind.sound (returns-in-Err-clause-reached g c opening past given)).one

pub returns-in-Ok-clause-in_order : goal.returns-in-Ok-clause-in_order
returns-in-Ok-clause-in_order g c =
    let known = c.is_sound.ensures in
    let on = returns-in-Ok-clause-goes_on g c known.0 known.1 known.2 in
    order_kept known.0 known.1 c.args.book.now c.serve_first.new.book (receipt_in c.serve_first.result) known.2 on
    (asked_as_one (whole_of known.0 known.1 c.args.book.now) (whole_of known.0 known.1 c.serve_first.new.book) c.args.request 20 c.serve_first.result c.requires on.behind.sound (returns-in-Ok-clause-reached g c known.0 known.1 known.2)).in_order

pub returns-in-Err-clause-in_order : goal.returns-in-Err-clause-in_order
returns-in-Err-clause-in_order g c =
    let known = c.is_sound.ensures in
    let on = c.in-Err.ensures.goes_on known.0 known.1 known.2 in
    order_kept known.0 known.1 c.args.book.now c.step.new.self [] known.2 on
    (asked_as_one (whole_of known.0 known.1 c.args.book.now) (whole_of known.0 known.1 c.step.new.self) c.args.request 20 (Err c.in-Err.refusal) c.requires on.behind.sound (returns-in-Err-clause-reached g c known.0 known.1 known.2)).in_order

pub returns-in-Ok-clause-limit : goal.returns-in-Ok-clause-limit
returns-in-Ok-clause-limit g c =
    let known = c.is_sound.ensures in
    asked_keeps_limit (whole_of known.0 known.1 c.args.book.now) (whole_of known.0 known.1 c.serve_first.new.book) c.args.request 20 c.serve_first.result (returns-in-Ok-clause-reached g c known.0 known.1 known.2)

pub returns-in-Err-clause-limit : goal.returns-in-Err-clause-limit
returns-in-Err-clause-limit g c = c.in-Err.ensures.limit

pub returns-in-Ok-clause-thawed : goal.returns-in-Ok-clause-thawed
returns-in-Ok-clause-thawed g c none =
    let known = c.is_sound.ensures in
    let old = whole_of known.0 known.1 c.args.book.now in
    let new = whole_of known.0 known.1 c.serve_first.new.book in
    never_frozen old.core new.core old.history new.history c.args.rank c.args.request c.serve_first.result (returns-in-Ok-clause-asked g c known.0 known.1 known.2) none
