use Rattle.asking.proofs.Common.{Entry, Frozen, List, None, Opening, Some, StandsBehind, places_of, refl, whole_of, ◌∙◌}
use Rattle.asking.proofs.OneLaws.{places_still}
use Rattle.asking.proofs.OnceLaws.{kept_once}
use Rattle.asking.proofs.ThroughLaws.{asked_last, copy_refused, copy_replied, fewer_left, frozen_of, gone_none, gone_one, has_still, last_not, limit_taken, none_taken, order_on, refused_so, stopped, taken_on, taken_still, thawed, thread_on}
use Rattle.asking.proofs.through.ask_through.Goals as goal

pub loop-root-init : goal.loop-root-init
loop-root-init g c = record {
  gone = λ opening past given. gone_none c.args.cancel c.args.rank c.args.request (whole_of opening past c.args.book.now) c.args.kept.now;
  goes_on = λ opening past given. given;
  same = λ opening past given. refl;
  bytes = λ has. has;
  none = c.requires;
  same_opening = refl;
  limit = refl;
  sound = c.is_sound.ensures;
}

pub loop-root-smaller : goal.loop-root-smaller
loop-root-smaller g c =
    let known = c.is_sound.ensures in
    let h = c.loop-root.invariant in
    let old = whole_of known.0 known.1 c.args.book.now in
    let mid = whole_of known.0 known.1 c.loop-root.book in
    let asked = whole_of known.0 known.1 c.ask_copy.new.book in
    let new = whole_of known.0 known.1 c.end_export.new.book in
    let on = h.goes_on known.0 known.1 known.2 in
    let refused = refused_so mid asked c.args.rank c.args.request c.in-Err.refusal c.in_default-unless_frozen.ensures (c.in-Err.ensures.asked known.0 known.1 on) in
    fewer_left c.args.cancel c.args.rank c.args.request c.in-Some.root old mid asked new c.args.kept.now c.loop-root.kept c.end_export.new.kept (h.gone known.0 known.1 known.2) refused refl c.in-Some.ensures
    (c.in_default-end_export.ensures.ends known.0 known.1 (c.in-Err.ensures.goes_on known.0 known.1 on))

pub loop-root-preserved : goal.loop-root-preserved
loop-root-preserved g c =
    let known = c.is_sound.ensures in
    let h = c.loop-root.invariant in
    let refused = λ (opening : Opening) (past : List Entry) (given : StandsBehind opening past c.args.book.now).
    refused_so (whole_of opening past c.loop-root.book) (whole_of opening past c.ask_copy.new.book) c.args.rank c.args.request c.in-Err.refusal c.in_default-unless_frozen.ensures (c.in-Err.ensures.asked opening past (h.goes_on opening past given)) in
    let ends = λ (opening : Opening) (past : List Entry) (given : StandsBehind opening past c.args.book.now).
    c.in_default-end_export.ensures.ends opening past (c.in-Err.ensures.goes_on opening past (h.goes_on opening past given)) in
    let taken = λ (opening : Opening) (past : List Entry) (given : StandsBehind opening past c.args.book.now).
    taken_on c.args.cancel c.args.rank c.args.request c.in-Some.root (whole_of opening past c.args.book.now) (whole_of opening past c.loop-root.book) (whole_of opening past c.ask_copy.new.book) (whole_of opening past c.end_export.new.book)
    c.args.kept.now c.loop-root.kept c.end_export.new.kept (h.gone opening past given) (refused opening past given) refl c.in-Some.ensures (ends opening past given) in
    let once = taken known.0 known.1 known.2 in
    record {
      gone = λ opening past given.
          gone_one c.args.cancel c.args.rank c.args.request c.in-Some.root (whole_of opening past c.args.book.now) (whole_of opening past c.loop-root.book) (whole_of opening past c.ask_copy.new.book) (whole_of opening past c.end_export.new.book)
          c.args.kept.now c.loop-root.kept c.end_export.new.kept (h.gone opening past given) (refused opening past given) refl c.in-Some.ensures (ends opening past given);
      goes_on = λ opening past given. c.in_default-end_export.ensures.goes_on opening past (c.in-Err.ensures.goes_on opening past (h.goes_on opening past given));
      same = λ opening past given.
          (taken opening past given).same ∙ (kept_once (whole_of opening past c.loop-root.book) (whole_of opening past c.ask_copy.new.book) c.args.rank c.args.request Frozen (refused opening past given) ∙ h.same opening past given);
      bytes = λ has.
          has_still c.args.cancel c.args.rank c.args.request c.in-Some.root (whole_of known.0 known.1 c.args.book.now) (whole_of known.0 known.1 c.loop-root.book) (whole_of known.0 known.1 c.ask_copy.new.book) (whole_of known.0 known.1 c.end_export.new.book)
          c.args.kept.now c.loop-root.kept c.end_export.new.kept (h.gone known.0 known.1 known.2) (refused known.0 known.1 known.2) refl c.in-Some.ensures (h.bytes has) (ends known.0 known.1 known.2);
      none = none_taken c.args.cancel c.in-Some.root 4 None (whole_of known.0 known.1 c.ask_copy.new.book) (whole_of known.0 known.1 c.end_export.new.book) once c.in-Err.ensures.none;
      same_opening = c.in_default-end_export.ensures.opening ∙ (c.in-Err.ensures.opening ∙ h.same_opening);
      limit = limit_taken c.args.cancel c.in-Some.root 4 None (whole_of known.0 known.1 c.ask_copy.new.book) (whole_of known.0 known.1 c.end_export.new.book) once ∙ (c.in-Err.ensures.limit ∙ h.limit);
      sound = c.in_default-end_export.ensures.sound;
    }

pub returns-in-Err-end_export-clause-asked : goal.returns-in-Err-end_export-clause-asked
returns-in-Err-end_export-clause-asked g c opening past given =
    let h = c.loop-root.invariant in
    let mid = whole_of opening past c.loop-root.book in
    let asked = whole_of opening past c.ask_copy.new.book in
    let on = h.goes_on opening past given in
    let refused = refused_so mid asked c.args.rank c.args.request c.in-Err.refusal c.in_default-unless_frozen.ensures (c.in-Err.ensures.asked opening past on) in
    stopped c.args.cancel c.args.rank c.args.request c.in-Some.root (whole_of opening past c.args.book.now) mid asked (whole_of opening past c.end_export.new.book) c.args.kept.now c.loop-root.kept c.end_export.new.kept (h.gone opening past given) refused refl
    c.in-Some.ensures c.in-Err-end_export.refusal c.told_of.result (c.in-Err-end_export.ensures.ends opening past (c.in-Err.ensures.goes_on opening past on)) c.told_of.ensures

pub returns-in-Err-end_export-clause-thawed : goal.returns-in-Err-end_export-clause-thawed
returns-in-Err-end_export-clause-thawed g c has is =
    let known = c.is_sound.ensures in
    let h = c.loop-root.invariant in
    let mid = whole_of known.0 known.1 c.loop-root.book in
    let asked = whole_of known.0 known.1 c.ask_copy.new.book in
    let on = h.goes_on known.0 known.1 known.2 in
    let refused = refused_so mid asked c.args.rank c.args.request c.in-Err.refusal c.in_default-unless_frozen.ensures (c.in-Err.ensures.asked known.0 known.1 on) in
    thawed c.args.cancel c.args.rank c.args.request c.in-Some.root (whole_of known.0 known.1 c.args.book.now) mid asked (whole_of known.0 known.1 c.end_export.new.book) c.args.kept.now c.loop-root.kept c.end_export.new.kept (h.gone known.0 known.1 known.2) refused refl
    c.in-Some.ensures (h.bytes has) c.in-Err-end_export.refusal c.told_of.result (c.in-Err-end_export.ensures.ends known.0 known.1 (c.in-Err.ensures.goes_on known.0 known.1 on)) c.told_of.ensures (frozen_of c.told_of.result is)

pub returns-in-Err-end_export-clause-limit : goal.returns-in-Err-end_export-clause-limit
returns-in-Err-end_export-clause-limit g c =
    let known = c.is_sound.ensures in
    let h = c.loop-root.invariant in
    let mid = whole_of known.0 known.1 c.loop-root.book in
    let asked = whole_of known.0 known.1 c.ask_copy.new.book in
    let new = whole_of known.0 known.1 c.end_export.new.book in
    let on = h.goes_on known.0 known.1 known.2 in
    let refused = refused_so mid asked c.args.rank c.args.request c.in-Err.refusal c.in_default-unless_frozen.ensures (c.in-Err.ensures.asked known.0 known.1 on) in
    limit_taken c.args.cancel c.in-Some.root 4 (Some c.in-Err-end_export.refusal) asked new
    (taken_still c.args.cancel c.args.rank c.args.request c.in-Some.root (whole_of known.0 known.1 c.args.book.now) mid asked new c.args.kept.now c.loop-root.kept c.end_export.new.kept (h.gone known.0 known.1 known.2) refused refl
    c.in-Some.ensures c.in-Err-end_export.refusal (c.in-Err-end_export.ensures.ends known.0 known.1 (c.in-Err.ensures.goes_on known.0 known.1 on)))
    ∙ (c.in-Err.ensures.limit ∙ h.limit)

pub returns-clause-asked : goal.returns-clause-asked
returns-clause-asked g c opening past given =
    let h = c.loop-root.invariant in
    asked_last c.args.cancel c.args.rank c.args.request (whole_of opening past c.args.book.now) (whole_of opening past c.loop-root.book) (whole_of opening past c.ask_once.new.book) c.args.kept.now c.loop-root.kept (h.gone opening past given) c.ask_once.result
    c.in_default.ensures (c.ask_once.ensures.asked opening past (h.goes_on opening past given))

pub returns-clause-thawed : goal.returns-clause-thawed
returns-clause-thawed g c has is =
    let known = c.is_sound.ensures in
    absurd (last_not (whole_of known.0 known.1 c.loop-root.book) (whole_of known.0 known.1 c.ask_once.new.book) c.args.rank c.args.request c.ask_once.result c.in_default.ensures (c.ask_once.ensures.asked known.0 known.1 (c.loop-root.invariant.goes_on known.0 known.1 known.2)) is)

pub returns-clause-one_thread : goal.returns-clause-one_thread
returns-clause-one_thread g c opening past given =
    let h = c.loop-root.invariant in
    thread_on (whole_of opening past c.args.book.now) (whole_of opening past c.loop-root.book) (whole_of opening past c.ask_once.new.book) c.args.request c.ask_once.result (h.same opening past given) refl h.limit
    (c.ask_once.ensures.one_thread opening past (h.goes_on opening past given))

pub returns-clause-in_order : goal.returns-clause-in_order
returns-clause-in_order g c =
    let known = c.is_sound.ensures in
    let h = c.loop-root.invariant in
    order_on (places_of c.args.book.now) (places_of c.loop-root.book) (places_of c.ask_once.new.book) c.ask_once.result
    (places_still known.0 known.1 c.args.book.now c.loop-root.book known.2 (h.goes_on known.0 known.1 known.2) (h.same known.0 known.1 known.2)) c.ask_once.ensures.in_order

pub returns-clause-goes_on : goal.returns-clause-goes_on
returns-clause-goes_on g c opening past given = c.ask_once.ensures.goes_on opening past (c.loop-root.invariant.goes_on opening past given)

pub returns-in-Ok-clause-asked : goal.returns-in-Ok-clause-asked
returns-in-Ok-clause-asked g c opening past given =
    let h = c.loop-root.invariant in
    copy_replied c.args.cancel c.args.rank c.args.request (whole_of opening past c.args.book.now) (whole_of opening past c.loop-root.book) (whole_of opening past c.ask_copy.new.book) c.args.kept.now c.loop-root.kept (h.gone opening past given) c.in-Ok.receipt
    (c.in-Ok.ensures.asked opening past (h.goes_on opening past given))

pub returns-in-Err-unless_frozen-clause-asked : goal.returns-in-Err-unless_frozen-clause-asked
returns-in-Err-unless_frozen-clause-asked g c opening past given =
    let h = c.loop-root.invariant in
    copy_refused c.args.cancel c.args.rank c.args.request (whole_of opening past c.args.book.now) (whole_of opening past c.loop-root.book) (whole_of opening past c.ask_copy.new.book) c.args.kept.now c.loop-root.kept (h.gone opening past given) c.in-Err.refusal
    c.in-Err-unless_frozen.other (c.in-Err.ensures.asked opening past (h.goes_on opening past given)) c.in-Err-unless_frozen.ensures
