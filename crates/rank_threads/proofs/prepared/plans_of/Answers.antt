-- One plan more, at the next rank.
use Rattle.rank_threads.proofs.Common.{EachIsSent, [], arith, length-append, map, subst, vec_items, ◌∷◌, ◌≡◌}
use Rattle.rank_threads.specs.TookTurn.{of_rank}
use Rattle.rank_threads.proofs.TookLaws.{listed_push, ranked_push}
use Rattle.rank_threads.proofs.prepared.plans_of.Goals as goal

pub loop-turns-preserved : goal.loop-turns-preserved
loop-turns-preserved g c =
    let h = c.loop-turns.invariant in
    let plan = c.in_ok-plan_of.field-0 in
    let at : of_rank plan.rank plan.turns.items ≡ of_rank (record { 0 = c.loop-turns.rank }) c.in-Some.turns.items = λ i. of_rank (c.in_ok-plan_of.ensures.rank i) (c.in_ok-plan_of.ensures.turns i).items in
    let steps = c.in-Some.ensures.steps in
    record {
      turns = listed_push (λ p. p.turns.items) vec_items c.loop-turns.plans.items c.push.new.self.items plan c.loop-turns.yielded c.in-Some.turns h.turns (λ i. (c.in_ok-plan_of.ensures.turns i).items) c.in_ok-push.ensures.items;
      asked = ranked_push (λ p. of_rank p.rank p.turns.items) vec_items c.loop-turns.plans.items c.push.new.self.items plan c.loop-turns.yielded c.in-Some.turns c.loop-turns.rank h.asked h.rank at c.in_ok-push.ensures.items;
      rank = omega (arith, h.rank, length-append c.loop-turns.yielded (c.in-Some.turns ∷ []));
      few = omega (arith, h.few, steps.1);
      parts = omega (arith, c.split_off-share.ensures.parts_left, h.parts, length-append c.loop-turns.yielded (c.in-Some.turns ∷ []));
      amount = omega (arith, c.split_off-share.ensures.amount_left, h.amount);
      sent = (subst (λ ts. EachIsSent g.L.Handed.sent (map vec_items ts)) steps.0 h.sent).1;
    }
