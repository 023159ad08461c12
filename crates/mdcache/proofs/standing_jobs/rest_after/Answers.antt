use Rattle.mdcache.proofs.Common.{all_kept, sym, ◌∙◌}
use Rattle.mdcache.proofs.standing_jobs.rest_after.Goals as goal

pub returns-in-Some : goal.returns-in-Some
returns-in-Some c = rw c.in-Some.is c.iter_after.ensures

pub returns-in-None : goal.returns-in-None
returns-in-None c = rw c.in-None.is (c.iter.ensures ∙ sym (all_kept _))
