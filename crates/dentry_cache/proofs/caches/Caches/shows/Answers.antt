use Rattle.dentry_cache.proofs.MapCalls.{cached_is}
use Rattle.dentry_cache.proofs.Common.{Cached, Option, ap, shows_in, ◌∙◌}
use Rattle.dentry_cache.proofs.caches.Caches.shows.Goals as goal

pub returns : goal.returns
returns c =
    c.shows.ensures
    ∙ ap (λ (o : Option Cached). shows_in o c.args.name.now) (cached_is c.self.inside.caches.items c.self.inside.places c.args.at.rank.0 c.args.self.now c.self.view_is c.self.invariant c.requires c.index.result.now c.index.ensures (c.args.at.dir, c.args.at.frag))
