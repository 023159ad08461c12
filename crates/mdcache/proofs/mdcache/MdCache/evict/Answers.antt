use Rattle.mdcache.proofs.Common.{Core, length, rules, subst, sym, ◌<◌}
use Rattle.mdcache.proofs.BesideLaws.{evict_done}
use Rattle.mdcache.proofs.mdcache.MdCache.evict.Goals as goal

pub returns : goal.returns
returns g c = search (rules, evict_done c.args.self.now _ c.self.view_is c.requires.sound c.args.rank.0 c.evict.new.self (subst (λ (k : Core). c.args.rank.0 < length k.caches.used) (sym c.self.view_is) c.requires.there) c.evict.ensures.valid c.evict.result c.evict.ensures.evicted c.evict.ensures.same)
