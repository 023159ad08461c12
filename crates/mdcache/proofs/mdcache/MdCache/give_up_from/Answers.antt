use Rattle.mdcache.proofs.Common.{JobTable, ap, refl, rules}
use Rattle.mdcache.proofs.JoblessLaws.{numbered}
use Rattle.mdcache.proofs.mdcache.MdCache.give_up_from.Goals as goal

pub returns : goal.returns
returns g c = search (rules, numbered c.args.self.now _ c.self.view_is c.new.result.jobs (ap (λ (s : JobTable). s.jobs) c.new.ensures) (record { dirs = c.self.inside.dirs.room; jobs = c.new.result.room; purge = c.self.inside.purge.room }) c.args.number c.args.number refl c.requires)
