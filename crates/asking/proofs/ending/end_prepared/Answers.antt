use Rattle.asking.proofs.Common.{refl, whole_of}
use Rattle.export_steps.specs.declared.exports.ExportState.TheVariants as at
use Rattle.asking.proofs.EndingLaws.{came_to, not_sent_so, sends_these, sent, unsent_then}
use Rattle.asking.proofs.ending.end_prepared.Goals as goal

pub keep_sent-requires-clause-sent : goal.keep_sent-requires-clause-sent
keep_sent-requires-clause-sent g c =
    let known = c.is_sound.ensures in
    sends_these c.args.cancel c.args.ino c.args.frag (whole_of known.0 known.1 c.args.book.now) (whole_of known.0 known.1 c.send.new.book) refl (c.in-Ok.ensures.goes_on known.0 known.1 known.2).behind.sound c.args.kept.now c.args.kept.now c.in-Ok.answer
    (c.in-Ok.ensures.sends known.0 known.1 known.2).0

pub end_sent-requires : goal.end_sent-requires
end_sent-requires g c =
    let known = c.is_sound.ensures in
    came_to (c.args.ino, c.args.frag) c.args.book.now.core.state.exports c.send.new.book.core.state.exports at.Prepared at.Sent (c.in-Ok.ensures.sends known.0 known.1 known.2).0.does.2.0

pub unless_cancelled-requires : goal.unless_cancelled-requires
unless_cancelled-requires g c =
    let known = c.is_sound.ensures in
    unsent_then c.args.cancel (c.args.ino, c.args.frag) (whole_of known.0 known.1 c.args.book.now) c.args.kept.now c.args.kept.now c.requires (whole_of known.0 known.1 c.send.new.book) c.in-Err.refusal (c.in-Err.ensures.sends known.0 known.1 known.2)

pub returns-in-Ok-clause-ends : goal.returns-in-Ok-clause-ends
returns-in-Ok-clause-ends g c opening past given =
    let on = c.in-Ok.ensures.goes_on opening past given in
    let sends = c.in-Ok.ensures.sends opening past given in
    sent c.args.cancel c.args.ino c.args.frag (whole_of opening past c.args.book.now) (whole_of opening past c.send.new.book) refl on.behind.sound c.args.kept.now c.keep_sent.new.kept (whole_of opening past c.end_sent.new.book) c.end_sent.new.kept c.in-Ok.answer sends.0 sends.1
    c.send.new.kept c.in-Ok.ensures.bytes c.keep_sent.ensures c.end_sent.result (c.end_sent.ensures.ends opening past on)

pub returns-in-Err-clause-ends : goal.returns-in-Err-clause-ends
returns-in-Err-clause-ends g c opening past given =
    let on = c.in-Err.ensures.goes_on opening past given in
    not_sent_so c.args.cancel (c.args.ino, c.args.frag) (whole_of opening past c.args.book.now) c.args.kept.now c.send.new.kept c.requires (whole_of opening past c.send.new.book) (whole_of opening past c.unless_cancelled.new.book) refl on.behind.sound c.in-Err.refusal
    (c.in-Err.ensures.sends opening past given) refl (c.unless_cancelled.ensures.goes_on opening past on).behind.sound c.in-Err.ensures.bytes c.unless_cancelled.result (c.unless_cancelled.ensures.cancels opening past on)
