use Rattle.asking.proofs.Common.{Err, Frozen, List, Receipt, Refusal, Result, refl, subst, sym, whole_of, ◌∙◌, ◌≡◌}
use Rattle.asking.proofs.LoopLaws.{after_round, few_at_most, goes_on_then, not_frozen, stays}
use Rattle.asking.proofs.WaitingLaws.{served_none, tells_on}
use Rattle.asking.specs.Reached.{ServesWaiting}
use Rattle.asking.proofs.drains.answer_all.Goals as goal

pub loop-found-init : goal.loop-found-init
loop-found-init g c = record {
  few = c.requires.few;
  served = λ opening past given.
      let old = whole_of opening past c.args.book.now in
      subst (λ (rs : List Receipt). ServesWaiting old old rs) (sym c.requires.empty) (served_none old);
  goes_on = λ opening past given. given;
  strays = few_at_most c.args.book.now.core.state 1024 c.requires.few;
  exports = refl;
  grows = stays c.args.book.now.history c.args.book.now.history refl;
  same_opening = refl;
  sound = c.is_sound.ensures;
}

pub returns-in-Err-clause-thawed : goal.returns-in-Err-clause-thawed
returns-in-Err-clause-thawed g c none clash = not_frozen c.loop-found.book.core c.play_round.new.book.core c.in-Err.refusal c.in-Err.ensures.ends (c.loop-found.invariant.exports ∙ none) (named clash)
  where
    named : ◌≡◌ {A = Result (Unit {0}) Refusal} (Err c.in-Err.refusal) (Err Frozen) → c.in-Err.refusal ≡ Frozen
    named same = cc

pub returns-in-Err-clause-served : goal.returns-in-Err-clause-served
returns-in-Err-clause-served g c opening past given =
    tells_on (whole_of opening past c.args.book.now) (whole_of opening past c.loop-found.book) (whole_of opening past c.play_round.new.book) c.loop-found.receipts.items c.play_round.new.receipts.items (c.loop-found.invariant.served opening past given)
    (c.in-Err.ensures.served opening past (c.loop-found.invariant.goes_on opening past given))

pub loop-found-preserved : goal.loop-found-preserved
loop-found-preserved g c =
    let after = after_round c.loop-found.book.core c.play_round.new.book.core c.in-Ok.moved c.loop-found.strays c.strays_after-strays.result c.in-Ok.ensures.ends c.loop-found.invariant.few c.loop-found.invariant.strays c.strays_after-strays.ensures in
    record {
      few = after.0;
      served = λ opening past given.
          tells_on (whole_of opening past c.args.book.now) (whole_of opening past c.loop-found.book) (whole_of opening past c.play_round.new.book) c.loop-found.receipts.items c.play_round.new.receipts.items (c.loop-found.invariant.served opening past given)
          (c.in-Ok.ensures.served opening past (c.loop-found.invariant.goes_on opening past given));
      goes_on = λ opening past given. c.in-Ok.ensures.goes_on opening past (c.loop-found.invariant.goes_on opening past given);
      strays = after.1;
      exports = c.in-Ok.ensures.exports ∙ c.loop-found.invariant.exports;
      grows = goes_on_then c.args.book.now.history c.loop-found.book.history c.play_round.new.book.history c.loop-found.invariant.grows c.in-Ok.ensures.grows;
      same_opening = c.in-Ok.ensures.opening ∙ c.loop-found.invariant.same_opening;
      sound = c.in-Ok.ensures.sound;
    }
