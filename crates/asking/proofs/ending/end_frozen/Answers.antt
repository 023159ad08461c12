use Rattle.asking.proofs.Common.{State, ap, refl, whole_of, ◌∙◌}
use Rattle.export_steps.specs.Standing.{state_at}
use Rattle.export_steps.specs.declared.exports.ExportState.TheVariants as at
use Rattle.asking.proofs.EndingLaws.{came_to, not_prepped, prepped, unsent_at}
use Rattle.asking.proofs.ending.end_frozen.Goals as goal

pub end_prepared-requires : goal.end_prepared-requires
end_prepared-requires g c =
    let known = c.is_sound.ensures in
    came_to (c.args.ino, c.args.frag) c.args.book.now.core.state.exports c.step.new.self.core.state.exports at.Frozen at.Prepared (c.in-Ok.ensures.stepped known.0 known.1 known.2).does.1.0

pub unless_cancelled-requires : goal.unless_cancelled-requires
unless_cancelled-requires g c =
    let known = c.is_sound.ensures in
    unsent_at c.args.cancel (c.args.ino, c.args.frag) (whole_of known.0 known.1 c.step.new.self) c.args.kept.now c.args.kept.now at.Frozen refl
    (ap (λ (s : State). state_at s.exports (c.args.ino, c.args.frag)) (c.in-Err.ensures.stepped known.0 known.1 known.2).does.1.left ∙ c.requires)

pub returns-in-Ok-clause-ends : goal.returns-in-Ok-clause-ends
returns-in-Ok-clause-ends g c opening past given =
    let on = c.in-Ok.ensures.goes_on opening past given in
    prepped c.args.cancel c.args.ino c.args.frag (whole_of opening past c.args.book.now) (whole_of opening past c.step.new.self) refl on.behind.sound (whole_of opening past c.end_prepared.new.book) c.args.kept.now c.end_prepared.new.kept c.in-Ok.answer
    (c.in-Ok.ensures.stepped opening past given) c.in-Ok.ensures.uses c.end_prepared.result (c.end_prepared.ensures.ends opening past on)

pub returns-in-Err-clause-ends : goal.returns-in-Err-clause-ends
returns-in-Err-clause-ends g c opening past given =
    let on = c.in-Err.ensures.goes_on opening past given in
    not_prepped c.args.cancel c.args.ino c.args.frag (whole_of opening past c.args.book.now) (whole_of opening past c.step.new.self) refl on.behind.sound (whole_of opening past c.unless_cancelled.new.book) c.args.kept.now c.args.kept.now c.requires c.in-Err.refusal
    (c.in-Err.ensures.stepped opening past given) c.in-Err.ensures.uses refl (c.unless_cancelled.ensures.goes_on opening past on).behind.sound refl c.unless_cancelled.result (c.unless_cancelled.ensures.cancels opening past on)
