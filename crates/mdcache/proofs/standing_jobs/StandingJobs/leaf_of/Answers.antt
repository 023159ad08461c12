use Rattle.mdcache.proofs.Common.{Finds, JobTable, subst}
use Rattle.mdcache.proofs.standing_jobs.StandingJobs.leaf_of.Goals as goal

pub returns : goal.returns
returns c = subst (λ (s : JobTable). Finds s.jobs c.args.number c.find.result) c.self.view_is c.find.ensures
