use Rattle.asking.proofs.Common.{refl, whole_of}
use Rattle.asking.proofs.EndingLaws.{finished, never_unfinished}
use Rattle.asking.proofs.ending.finish.Goals as goal

pub returns-clause-ends : goal.returns-clause-ends
returns-clause-ends g c opening past given =
    finished c.args.cancel c.args.ino c.args.frag (whole_of opening past c.args.book.now) (whole_of opening past c.step.new.self) refl (c.in-Ok.ensures.goes_on opening past given).behind.sound c.args.kept.now c.forget.new.self given.behind.sound c.in-Ok.answer
    (c.in-Ok.ensures.stepped opening past given) c.in-Ok.ensures.uses c.forget.ensures

pub unreachable-requires : goal.unreachable-requires
unreachable-requires g c =
    let known = c.is_sound.ensures in
    never_unfinished c.args.cancel c.args.ino c.args.frag (whole_of known.0 known.1 c.args.book.now) (whole_of known.0 known.1 c.step.new.self) refl (c.in-Err.ensures.goes_on known.0 known.1 known.2).behind.sound c.args.kept.now c.forget.new.self c.requires c.in-Err.field-0
    (c.in-Err.ensures.stepped known.0 known.1 known.2)
