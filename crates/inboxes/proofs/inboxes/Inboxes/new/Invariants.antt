-- So far there is one empty inbox for each turn.
use Rattle.inboxes.proofs.Common.{[], replicate, ◌≡◌}
use Rattle.inboxes.proofs.inboxes.Inboxes.new.Given as goal

abbrev pub invariant-loop : goal.invariant-loop
invariant-loop l = l.inboxes.items ≡ replicate l.counter []
