use Rattle.asking.proofs.Common.{whole_of, ◌∙◌}
use Rattle.asking.proofs.OneLaws.{left_keeps_limit, places_still, refused_as_one}
use Rattle.asking.proofs.OnceLaws.{kept_once, none_waits_once, once}
use Rattle.asking.proofs.services.ask_once.Goals as goal

pub returns-in-Err-clause-asked : goal.returns-in-Err-clause-asked
returns-in-Err-clause-asked g c opening past given =
    once (whole_of opening past c.args.book.now) opening past c.ask.new.book c.leave.new.book c.args.rank c.args.request c.in-Err.refusal c.requires (c.in-Err.ensures.asked opening past given) c.leave.ensures.left

pub returns-in-Err-clause-goes_on : goal.returns-in-Err-clause-goes_on
returns-in-Err-clause-goes_on g c opening past given = c.leave.ensures.goes_on opening past (c.in-Err.ensures.goes_on opening past given)

pub returns-in-Err-clause-none : goal.returns-in-Err-clause-none
returns-in-Err-clause-none g c =
    let known = c.is_sound.ensures in
    none_waits_once (whole_of known.0 known.1 c.args.book.now) (whole_of known.0 known.1 c.leave.new.book) c.args.rank c.args.request c.in-Err.refusal c.requires (returns-in-Err-clause-asked g c known.0 known.1 known.2)

pub returns-in-Err-clause-one_thread : goal.returns-in-Err-clause-one_thread
returns-in-Err-clause-one_thread g c opening past given =
    let old = whole_of opening past c.args.book.now in
    let new = whole_of opening past c.leave.new.book in
    refused_as_one old new c.args.request given.behind.sound (kept_once old new c.args.rank c.args.request c.in-Err.refusal (returns-in-Err-clause-asked g c opening past given))

pub returns-in-Err-clause-in_order : goal.returns-in-Err-clause-in_order
returns-in-Err-clause-in_order g c =
    let known = c.is_sound.ensures in
    places_still known.0 known.1 c.args.book.now c.leave.new.book known.2 (returns-in-Err-clause-goes_on g c known.0 known.1 known.2)
    (kept_once (whole_of known.0 known.1 c.args.book.now) (whole_of known.0 known.1 c.leave.new.book) c.args.rank c.args.request c.in-Err.refusal (returns-in-Err-clause-asked g c known.0 known.1 known.2))

pub returns-in-Err-clause-limit : goal.returns-in-Err-clause-limit
returns-in-Err-clause-limit g c = left_keeps_limit c.ask.new.book c.leave.new.book c.leave.ensures.left ∙ c.in-Err.ensures.limit
