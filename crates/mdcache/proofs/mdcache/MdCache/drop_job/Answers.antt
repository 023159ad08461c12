use Rattle.mdcache.proofs.Common.{rules}
use Rattle.mdcache.proofs.BesideLaws.{drop_done}
use Rattle.mdcache.proofs.mdcache.MdCache.drop_job.Goals as goal

pub returns-in-Some : goal.returns-in-Some
returns-in-Some g c = search (rules, drop_done c.args.self.now _ c.self.view_is c.requires c.in-Some.leaf c.end.new.self.jobs c.end.ensures.ended c.args.number (record { dirs = c.self.inside.dirs.room; jobs = c.end.new.self.room; purge = c.self.inside.purge.room }) c.in-Some.ensures)
