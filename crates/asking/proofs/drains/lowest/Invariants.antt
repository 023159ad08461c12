-- Nothing waits at the ranks so far.
use Rattle.asking.proofs.Common.{[], get_or, ℕ, ◌<◌, ◌≡◌}
use Rattle.asking.proofs.drains.lowest.Given as goal

abbrev pub invariant-loop-rank : goal.invariant-loop-rank
invariant-loop-rank g l = (k : ℕ) → k < l.rank → get_or l.book.core.state.inboxes k [] ≡ []
