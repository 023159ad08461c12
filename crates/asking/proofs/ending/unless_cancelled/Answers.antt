use Rattle.asking.proofs.Common.{refl, whole_of}
use Rattle.asking.proofs.EndingLaws.{never_uncancelled}
use Rattle.asking.proofs.ending.unless_cancelled.Goals as goal

pub unreachable-requires : goal.unreachable-requires
unreachable-requires g c =
    let known = c.is_sound.ensures in
    never_uncancelled c.args.cancel c.args.ino c.args.frag (whole_of known.0 known.1 c.args.book.now) (whole_of known.0 known.1 c.step.new.self) refl (c.in-Err.ensures.goes_on known.0 known.1 known.2).behind.sound c.requires c.in-Err.field-0
    (c.in-Err.ensures.stepped known.0 known.1 known.2)
