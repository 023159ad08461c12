-- The request of a turn is one of those that the plan brings.
use Rattle.rank_threads.proofs.Common.{into_iter_items, ◌∷◌, ◌≡◌}
use Rattle.std.proofs.Common.{rules}
use Rattle.rank_threads.proofs.AskedLaws.{first_brings}
use Rattle.rank_threads.proofs.ranks.work_off.Goals as goal

pub take_turn-answer-requires-clause-sent : goal.take_turn-answer-requires-clause-sent
take_turn-answer-requires-clause-sent g c κs within =
    let next : into_iter_items c.loop-turn.turn-iterator ≡ c.in-Some.turn ∷ into_iter_items c.next.new.self = search rules in
    first_brings g.L.Handed.sent (into_iter_items c.loop-turn.turn-iterator) (into_iter_items c.next.new.self) c.in-Some.turn next c.loop-turn.invariant.sent
