use Rattle.asking.proofs.Common.{Bool, Entry, Err, List, None, Ok, Receipt, RoundEnds, Some, [], ap, append-nil, arith, inl, refl, rules, subst, sym, whole_of, ◌++◌}
use Rattle.cluster_core.specs.OneThread.{receipt_of}
use Rattle.asking.proofs.WaitingLaws.{served_by, served_once, served_then, tells_more, tells_none}
use Rattle.asking.proofs.LoopLaws.{ended, exports_granted, exports_stand, gives, is_first, not_granted, refused, served_on}
use Rattle.asking.proofs.drains.play_round.Goals as goal

pub returns-in-Err-clause-ends : goal.returns-in-Err-clause-ends
returns-in-Err-clause-ends g c =
    let known = c.is_sound.ensures in
    let old = whole_of known.0 known.1 c.args.book.now in
    let found = c.requires.lowest in
    not_granted old known.2.behind.sound c.requires.few c.args.found found c.grant_all.new.book.core c.in-Err.refusal (c.in-Err.ensures.granted found.request (is_first old known.2.behind.sound c.requires.few c.args.found found))

pub returns-in-Err-clause-exports : goal.returns-in-Err-clause-exports
returns-in-Err-clause-exports g c =
    let known = c.is_sound.ensures in
    let found = c.requires.lowest in
    exports_granted c.args.book.now.core c.grant_all.new.book.core c.args.found.client c.args.found.tid found.request.op c.in-Err.refusal
    (c.in-Err.ensures.granted found.request (is_first (whole_of known.0 known.1 c.args.book.now) known.2.behind.sound c.requires.few c.args.found found))

pub returns-in-Ok-clause-ends : goal.returns-in-Ok-clause-ends
returns-in-Ok-clause-ends g c =
    let known = c.is_sound.ensures in
    let old = whole_of known.0 known.1 c.args.book.now in
    let mid = whole_of known.0 known.1 c.grant_all.new.book in
    let new = whole_of known.0 known.1 c.step.new.self in
    let found = c.requires.lowest in
    let granted = c.in_default.ensures.granted found.request (is_first old known.2.behind.sound c.requires.few c.args.found found) in
    let stepped = c.in-Ok.ensures.stepped known.0 known.1 (c.in_default.ensures.goes_on known.0 known.1 known.2) in
    subst (λ (b : Bool). RoundEnds c.args.book.now.core c.step.new.self.core (Ok b)) (sym c.note.ensures.moved)
    (ended old.core new.core found.request c.in-Ok.answer
    (gives old known.2.behind.sound c.requires.few c.args.found found mid new (Ok c.in-Ok.answer) granted (omega (arith, c.in_default.ensures.counted)) (ap (λ (l : List Entry). known.1 ++ l) c.in_default.ensures.history) stepped))

pub returns-in-Ok-clause-exports : goal.returns-in-Ok-clause-exports
returns-in-Ok-clause-exports g c =
    let known = c.is_sound.ensures in
    let old = whole_of known.0 known.1 c.args.book.now in
    let mid = whole_of known.0 known.1 c.grant_all.new.book in
    let new = whole_of known.0 known.1 c.step.new.self in
    let found = c.requires.lowest in
    let granted = c.in_default.ensures.granted found.request (is_first old known.2.behind.sound c.requires.few c.args.found found) in
    let stepped = c.in-Ok.ensures.stepped known.0 known.1 (c.in_default.ensures.goes_on known.0 known.1 known.2) in
    exports_stand old known.2.behind.sound c.requires.few c.args.found found mid new (Ok c.in-Ok.answer) granted (omega (arith, c.in_default.ensures.counted)) (ap (λ (l : List Entry). known.1 ++ l) c.in_default.ensures.history) stepped

pub returns-in-Ok-clause-grows : goal.returns-in-Ok-clause-grows
returns-in-Ok-clause-grows g c =
    let known = c.is_sound.ensures in
    served_on known.1 c.grant_all.new.book.core c.step.new.self.core c.args.book.now.history c.grant_all.new.book.history c.step.new.self.history c.args.found.rank (Ok c.in-Ok.answer) c.in_default.ensures.history
    (c.in-Ok.ensures.stepped known.0 known.1 (c.in_default.ensures.goes_on known.0 known.1 known.2))

pub returns-in-Err-step-clause-ends : goal.returns-in-Err-step-clause-ends
returns-in-Err-step-clause-ends g c =
    let known = c.is_sound.ensures in
    let old = whole_of known.0 known.1 c.args.book.now in
    let mid = whole_of known.0 known.1 c.grant_all.new.book in
    let new = whole_of known.0 known.1 c.step.new.self in
    let found = c.requires.lowest in
    let granted = c.in_default.ensures.granted found.request (is_first old known.2.behind.sound c.requires.few c.args.found found) in
    let stepped = c.in-Err-step.ensures.stepped known.0 known.1 (c.in_default.ensures.goes_on known.0 known.1 known.2) in
    refused old.core new.core found.request c.in-Err-step.refusal c.unless_gone.result
    (gives old known.2.behind.sound c.requires.few c.args.found found mid new (Err c.in-Err-step.refusal) granted (omega (arith, c.in_default.ensures.counted)) (ap (λ (l : List Entry). known.1 ++ l) c.in_default.ensures.history) stepped)
    c.unless_gone.ensures

pub returns-in-Err-step-clause-exports : goal.returns-in-Err-step-clause-exports
returns-in-Err-step-clause-exports g c =
    let known = c.is_sound.ensures in
    let old = whole_of known.0 known.1 c.args.book.now in
    let mid = whole_of known.0 known.1 c.grant_all.new.book in
    let new = whole_of known.0 known.1 c.step.new.self in
    let found = c.requires.lowest in
    let granted = c.in_default.ensures.granted found.request (is_first old known.2.behind.sound c.requires.few c.args.found found) in
    let stepped = c.in-Err-step.ensures.stepped known.0 known.1 (c.in_default.ensures.goes_on known.0 known.1 known.2) in
    exports_stand old known.2.behind.sound c.requires.few c.args.found found mid new (Err c.in-Err-step.refusal) granted (omega (arith, c.in_default.ensures.counted)) (ap (λ (l : List Entry). known.1 ++ l) c.in_default.ensures.history) stepped

pub returns-in-Err-step-clause-grows : goal.returns-in-Err-step-clause-grows
returns-in-Err-step-clause-grows g c =
    let known = c.is_sound.ensures in
    served_on known.1 c.grant_all.new.book.core c.step.new.self.core c.args.book.now.history c.grant_all.new.book.history c.step.new.self.history c.args.found.rank (Err c.in-Err-step.refusal) c.in_default.ensures.history
    (c.in-Err-step.ensures.stepped known.0 known.1 (c.in_default.ensures.goes_on known.0 known.1 known.2))

pub returns-then-is_err-clause-ends : goal.returns-then-is_err-clause-ends
returns-then-is_err-clause-ends g c = (c.requires.lowest.request, inl refl, refl)

pub returns-then-is_err-clause-served : goal.returns-then-is_err-clause-served
returns-then-is_err-clause-served g c opening past given = tells_none (whole_of opening past c.args.book.now) c.args.receipts.now.items c.reserve.new.self.items (search rules)

pub returns-in-Err-clause-served : goal.returns-in-Err-clause-served
returns-in-Err-clause-served g c opening past given =
    let old = whole_of opening past c.args.book.now in
    let mid = whole_of opening past c.grant_all.new.book in
    tells_more old mid c.args.receipts.now.items c.reserve.new.self.items c.reserve.new.self.items [] (search rules) (sym (append-nil c.reserve.new.self.items))
    (served_by c.args.found.client c.args.found.tid 16 [] (Some c.in-Err.refusal) old mid (c.in-Err.ensures.reached opening past given))

pub returns-in-Ok-clause-served : goal.returns-in-Ok-clause-served
returns-in-Ok-clause-served g c opening past given =
    let old = whole_of opening past c.args.book.now in
    let mid = whole_of opening past c.grant_all.new.book in
    let new = whole_of opening past c.step.new.self in
    let on = c.in_default.ensures.goes_on opening past given in
    let told : List Receipt = receipt_of (Ok c.in-Ok.answer) in
    tells_more old new c.args.receipts.now.items c.reserve.new.self.items c.note.new.receipts.items told (search rules) c.note.ensures.told
    (served_then old mid new [] told (served_by c.args.found.client c.args.found.tid 16 [] None old mid (c.in_default.ensures.reached opening past given))
    (served_once mid new c.args.found.rank (Ok c.in-Ok.answer) (c.in-Ok.ensures.stepped opening past on) c.in-Ok.ensures.uses refl (c.in-Ok.ensures.goes_on opening past on).behind.sound))

pub returns-in-Err-step-clause-served : goal.returns-in-Err-step-clause-served
returns-in-Err-step-clause-served g c opening past given =
    let old = whole_of opening past c.args.book.now in
    let mid = whole_of opening past c.grant_all.new.book in
    let new = whole_of opening past c.step.new.self in
    let on = c.in_default.ensures.goes_on opening past given in
    tells_more old new c.args.receipts.now.items c.reserve.new.self.items c.reserve.new.self.items [] (search rules) (sym (append-nil c.reserve.new.self.items))
    (served_then old mid new [] [] (served_by c.args.found.client c.args.found.tid 16 [] None old mid (c.in_default.ensures.reached opening past given))
    (served_once mid new c.args.found.rank (Err c.in-Err-step.refusal) (c.in-Err-step.ensures.stepped opening past on) c.in-Err-step.ensures.uses refl (c.in-Err-step.ensures.goes_on opening past on).behind.sound))
