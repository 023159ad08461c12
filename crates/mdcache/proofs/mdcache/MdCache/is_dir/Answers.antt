use Rattle.mdcache.proofs.Common.{Core, ap, is_known, known_is, shown_in, ◌∙◌}
use Rattle.mdcache.proofs.mdcache.MdCache.is_dir.Goals as goal

pub returns : goal.returns
returns g c =
    c.contains.ensures.known ∙ ap (λ (k : Core). is_known k.homes c.args.dir.0) c.self.view_is ∙ known_is (shown_in c.args.self.now) c.args.self.now.homes c.requires.sound.tabled c.args.dir.0
