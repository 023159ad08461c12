-- A commit that was given up.
use Rattle.std.proofs.Common.{inr, refl}
use Rattle.rank_threads.proofs.ranks.hand_on.Goals as goal

pub returns-then-is_err : goal.returns-then-is_err
returns-then-is_err g c = inr (refl, c.give_up.ensures.0, c.give_up.ensures.1)
