use Rattle.asking.proofs.Common.{refl, whole_of}
use Rattle.export_steps.specs.declared.exports.ExportState.TheVariants as at
use Rattle.asking.proofs.EndingLaws.{came_to, imported, no_copy, not_imported}
use Rattle.asking.proofs.ending.end_sent.Goals as goal

pub finish-requires : goal.finish-requires
finish-requires g c =
    let known = c.is_sound.ensures in
    came_to (c.args.ino, c.args.frag) c.args.book.now.core.state.exports c.step.new.self.core.state.exports at.Sent at.Imported (c.in-Ok-step.ensures.stepped known.0 known.1 known.2).does.1.step

pub returns-in-Ok-step-clause-ends : goal.returns-in-Ok-step-clause-ends
returns-in-Ok-step-clause-ends g c opening past given =
    let on = c.in-Ok-step.ensures.goes_on opening past given in
    imported c.args.cancel c.args.ino c.args.frag (whole_of opening past c.args.book.now) (whole_of opening past c.step.new.self) refl on.behind.sound (whole_of opening past c.finish.new.book) c.args.kept.now c.finish.new.kept c.in-Ok-step.answer c.in-Ok.bytes
    (c.in-Ok-step.ensures.stepped opening past given) c.in-Ok-step.ensures.uses (c.finish.ensures.ends opening past on)

pub returns-in-Err-clause-ends : goal.returns-in-Err-clause-ends
returns-in-Err-clause-ends g c opening past given =
    not_imported c.args.cancel c.args.ino c.args.frag (whole_of opening past c.args.book.now) (whole_of opening past c.step.new.self) refl (c.in-Err.ensures.goes_on opening past given).behind.sound c.args.kept.now c.requires c.in-Err.refusal c.in-Ok.bytes c.in-Ok.ensures.copied
    (c.in-Err.ensures.stepped opening past given) c.in-Err.ensures.uses

pub returns-in_default-clause-ends : goal.returns-in_default-clause-ends
returns-in_default-clause-ends g c opening past given = no_copy c.args.cancel (c.args.ino, c.args.frag) (whole_of opening past c.args.book.now) c.args.kept.now c.args.kept.now c.requires refl
