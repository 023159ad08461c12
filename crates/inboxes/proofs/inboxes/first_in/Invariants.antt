-- The first copy in the inboxes to come is the first in all of them.
use Rattle.inboxes.proofs.Common.{drop, first_waiting, ◌≡◌}
use Rattle.inboxes.proofs.inboxes.first_in.Given as goal

abbrev pub invariant-loop-inbox : goal.invariant-loop-inbox
invariant-loop-inbox l = first_waiting l.client l.tid (drop l.inbox-index l.inboxes) ≡ first_waiting l.fn.client l.fn.tid l.fn.inboxes
