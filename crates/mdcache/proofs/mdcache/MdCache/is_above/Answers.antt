use Rattle.mdcache.proofs.Common.{Core, IsAncestor, IsTrue, above_is, shown_in, subst, ◌↔◌}
use Rattle.mdcache.proofs.mdcache.MdCache.is_above.Goals as goal

pub returns : goal.returns
returns g c =
    above_is (shown_in c.args.self.now) c.args.self.now.homes c.requires.sound.sound.tabled c.args.dir.0 c.args.below.0 c.is_above.result c.requires.below
    (subst (λ (k : Core). IsTrue c.is_above.result ↔ IsAncestor k.homes c.args.dir.0 c.args.below.0) c.self.view_is c.is_above.ensures)
