use Rattle.std.proofs.Common.{arith, length-set, refl, subst, sym, ◌∙◌}
use Rattle.mds_types.proofs.DigitLaws.{IsWriting, begin, begins, ended, go_on, has_room, kept, put_before}
use Rattle.mds_types.proofs.digits.write_digits_in.Goals as goal

pub loop-left-init : goal.loop-left-init
loop-left-init c = record { within = omega arith; before = refl; len = refl; writing = begin c.args.base c.args.n _ c.requires.low (omega (arith, c.ranges.n)) }

pub overflow_sub-at : goal.overflow_sub-at
overflow_sub-at c = has_room _ _ _ _ _ _ _ c.requires.room c.requires.within c.loop-left.invariant.within c.loop-left.invariant.len c.loop-left.invariant.writing

pub bounds-bytes-at : goal.bounds-bytes-at
bounds-bytes-at c =
    let some = has_room _ _ _ _ _ _ _ c.requires.room c.requires.within c.loop-left.invariant.within c.loop-left.invariant.len c.loop-left.invariant.writing in
    omega (arith, c.loop-left.invariant.within, c.loop-left.invariant.len, c.requires.within)

pub loop-left-preserved : goal.loop-left-preserved
loop-left-preserved c =
    let l = c.loop-left in
    let some = has_room _ _ _ _ _ _ _ c.requires.room c.requires.within l.invariant.within l.invariant.len l.invariant.writing in
    let put = put_before l.bytes l.at c.glyph.result some (omega (arith, l.invariant.within, l.invariant.len, c.requires.within)) in
    record {
      within = omega arith;
      before = kept l.bytes c.args.bytes.now l.at c.glyph.result l.invariant.before;
      len = length-set l.bytes _ _ ∙ l.invariant.len;
      writing = subst (IsWriting c.args.base _ _) (sym put) (rw (← c.glyph.ensures) at (go_on _ _ _ _ c.requires.low c.loop-left-test.true l.invariant.writing));
    }

pub overflow_sub-at-2 : goal.overflow_sub-at-2
overflow_sub-at-2 c = has_room _ _ _ _ _ _ _ c.requires.room c.requires.within c.loop-left.invariant.within c.loop-left.invariant.len c.loop-left.invariant.writing

pub returns-clause-start : goal.returns-clause-start
returns-clause-start c =
    begins _ _ _ _ _ _ _ c.requires.room c.requires.within c.loop-left.invariant.within c.loop-left.invariant.len c.loop-left.invariant.writing c.glyph-2.result c.loop-left-test.false c.glyph-2.ensures

pub returns-clause-written : goal.returns-clause-written
returns-clause-written c =
    ended _ _ _ _ _ _ _ c.requires.room c.requires.within c.loop-left.invariant.within c.loop-left.invariant.len c.loop-left.invariant.writing c.glyph-2.result c.loop-left-test.false c.glyph-2.ensures

pub returns-clause-before : goal.returns-clause-before
returns-clause-before c = kept c.loop-left.bytes c.args.bytes.now c.loop-left.at c.glyph-2.result c.loop-left.invariant.before
