use Rattle.plain_frags.proofs.Common.{empty_tabled}
use Rattle.plain_frags.proofs.frags.PlainFrags.new.Goals as goal

pub invariant_of-result : goal.invariant_of-result
invariant_of-result c = rw (c.new.ensures.empty, c.new-2.ensures.homes) empty_tabled
