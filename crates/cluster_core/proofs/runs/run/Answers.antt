-- The list of events is run from its front.
use Rattle.cluster_core.proofs.Common.{Entry, Opening, StandsBehind, InOrder, List, arith, into_iter_items, length, places_of, receipts_of, refl, subst, sym, ℕ, ◌++◌, ◌∙◌}
use Rattle.cluster_core.proofs.Forgotten.{places_behind}
use Rattle.cluster_core.proofs.OneThreadLaws.{run_as_one, run_throughout}
use Rattle.cluster_core.proofs.RunLaws.{run_more, run_all, run_of}
use Rattle.cluster_core.proofs.runs.run.Goals as goal

pub loop-event-preserved : goal.loop-event-preserved
loop-event-preserved g c =
    let h = c.loop-event.invariant in
    let known = c.is_sound.ensures in
    let more = λ (opening : Opening) (past : List Entry) (goes : StandsBehind opening past c.args.book.now).
    let on = h.goes_on opening past goes in
    run_more _ _ _ c.args.events.items (into_iter_items c.next.new.self) c.loop-event.results.items c.put.new.results.items c.step.result c.in-Some.event _ _
    (h.ran opening past goes) (sym c.in-Some.ensures.items ∙ h.left) (record { stepped = c.step.ensures.stepped opening past on; uses = c.step.ensures.uses; same_opening = refl }) (c.step.ensures.goes_on opening past on).behind.sound c.put.ensures.len c.put.ensures.items in
    record {
      ran = λ opening past goes. (more opening past goes).0;
      goes_on = λ opening past goes. c.step.ensures.goes_on opening past (h.goes_on opening past goes);
      same_opening = c.step.ensures.opening ∙ h.same_opening;
      left = (more known.0 known.1 known.2).1;
      count = omega (arith, c.in-Some.ensures.len, h.count, c.put.ensures.len);
      room = omega arith;
      sound = c.step.ensures.sound;
    }

pub returns : goal.returns
returns g c =
    let h = c.loop-event.invariant in
    let known = c.is_sound.ensures in
    let ran = λ (opening : Opening) (past : List Entry) (goes : StandsBehind opening past c.args.book.now).
    run_all _ _ c.args.events.items _ _ (h.ran opening past goes) (omega (arith, h.count, c.in_default.ensures.cases.0)) in
    let its = λ (opening : Opening) (past : List Entry) (goes : StandsBehind opening past c.args.book.now).
    run_as_one _ _ c.args.events.items _ (ran opening past goes) (h.goes_on opening past goes).behind.sound in
    let end = h.goes_on known.0 known.1 known.2 in
    record {
      one_thread = λ opening past goes. (its opening past goes).one;
      in_order =
          subst (λ (n : ℕ). InOrder n (receipts_of c.loop-event.results.items) (places_of c.loop-event.book)) (places_behind known.0 known.1 c.args.book.now known.2)
          (subst (λ (n : ℕ). InOrder (length (known.1 ++ c.args.book.now.history)) (receipts_of c.loop-event.results.items) n) (places_behind known.0 known.1 c.loop-event.book end) (its known.0 known.1 known.2).in_order);
      waits = (its known.0 known.1 known.2).waits;
      throughout = λ opening past goes. run_throughout _ _ c.args.events.items _ (ran opening past goes) goes.behind.sound;
      ran = λ opening past goes. run_of _ _ _ _ (ran opening past goes);
      refused = tt;
      goes_on = h.goes_on;
      opening = h.same_opening;
      sound = h.sound;
    }
