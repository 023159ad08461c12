use Rattle.rank_threads.proofs.Common.{[], arith, length-append, vec_items, ◌∷◌}
use Rattle.rank_threads.specs.TookTurn.{of_rank}
use Rattle.rank_threads.proofs.AskedLaws.{asked_gathered}
use Rattle.cluster_core.specs.SentBytes.{SentBytes}
use Rattle.rank_threads.proofs.TookLaws.{took_gathered}
use Rattle.rank_threads.proofs.TurnLaws.{gathered_more, counted_more}
use Rattle.rank_threads.proofs.scopes.gather.Goals as goal

-- one thread more was joined
pub loop-handle-preserved : goal.loop-handle-preserved
loop-handle-preserved g c =
    let h = c.loop-handle.invariant in
    let grown = c.in_ok-push.ensures.items in
    record {
      answered = gathered_more (λ h. h.promise.turns.value.items) vec_items c.loop-handle.yielded c.in-Some.handle c.loop-handle.answers.items c.push.new.self.items c.join-given.result.answers h.answered c.join-given.ensures.0 grown;
      took = took_gathered (λ h. of_rank h.promise.rank h.promise.turns.value.items) vec_items (λ (s : SentBytes). s.bytes) c.loop-handle.yielded c.in-Some.handle c.loop-handle.answers.items c.push.new.self.items c.join-given.result.answers
          c.loop-handle.kept.items c.push-in-loop-handle.new.self.items c.join-given.result.kept h.took c.join-given.ensures.1 grown c.in_ok-push-2.ensures.items;
      parts = omega (arith, c.merge.ensures.parts, h.parts, c.join-given.result.one_part, length-append c.loop-handle.yielded (c.in-Some.handle ∷ []));
      amount = omega (arith, c.merge.ensures.amount, h.amount, c.join-given.result.counted, counted_more vec_items c.loop-handle.answers.items c.push.new.self.items c.join-given.result.answers grown);
      asked_for = asked_gathered g.L.Handed.sent vec_items c.loop-handle.answers.items c.push.new.self.items c.join-given.result.answers grown h.asked_for c.join-given.result.asked_for;
    }
