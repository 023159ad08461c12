-- What waits at the ranks so far, at most 1024 at each, and what waits at the others.
use Rattle.std.proofs.Common.{drop, ◌*◌, ◌+◌, ◌≡◌, ◌≤◌}
use Rattle.inboxes.specs.Inboxes.{waiting_in_all}
use Rattle.inboxes.proofs.inboxes.Inboxes.waiting_in_all.Given as goal

abbrev pub invariant-loop-inbox : goal.invariant-loop-inbox
invariant-loop-inbox l =
    (l.count + waiting_in_all (drop l.inbox-index l.inbox-items) ≡ waiting_in_all l.self) × (l.count ≤ 1024 * l.inbox-index)
