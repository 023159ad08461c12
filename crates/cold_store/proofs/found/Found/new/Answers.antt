-- Nothing is counted yet.
use Rattle.cold_store.proofs.Common.{none_counted}
use Rattle.cold_store.proofs.found.Found.new.Goals as goal

pub invariant_of-result : goal.invariant_of-result
invariant_of-result c = rw (c.new-2.ensures.counts, c.new-2.ensures.pins) none_counted
