use Rattle.mdcache.proofs.Common.{Core, JobTable, ap, rules}
use Rattle.mdcache.proofs.JoblessLaws.{numbered}
use Rattle.mdcache.proofs.mdcache.MdCache.drop_jobs.Goals as goal

pub returns : goal.returns
returns g c = search (
  rules,
  numbered c.args.self.now _ c.self.view_is c.new.result.jobs (ap (λ (s : JobTable). s.jobs) c.new.ensures)
      (record { dirs = c.self.inside.dirs.room; jobs = c.new.result.room; purge = c.self.inside.purge.room }) _ _ (ap (λ (k : Core). k.next_job) c.self.view_is) c.requires,
)
