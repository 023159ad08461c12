use Rattle.dentry_cache.proofs.MapCalls.{placed_is}
use Rattle.dentry_cache.proofs.Common.{sym, ◌∙◌}
use Rattle.dentry_cache.proofs.caches.Caches.has_place.Goals as goal

pub returns : goal.returns
returns c = c.has_place.ensures ∙ sym (placed_is c.self.inside.caches.items c.self.inside.places c.args.at.rank.0 c.args.self.now c.self.view_is c.self.invariant c.requires c.index.result.now c.index.ensures (c.args.at.dir, c.args.at.frag))
