use Rattle.mdcache.proofs.BesideLaws.{drop_sound}
use Rattle.mdcache.proofs.mdcache.MdCache.end_job.Goals as goal

pub returns-clause-sound : goal.returns-clause-sound
returns-clause-sound g c = drop_sound c.args.self.now _ c.self.view_is c.requires (c.args.dir, c.args.frag) c.end.new.self.jobs c.end.ensures.ended _
