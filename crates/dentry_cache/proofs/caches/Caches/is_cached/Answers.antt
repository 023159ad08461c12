use Rattle.dentry_cache.proofs.Common.{ap, is_some, option_copied, ◌∙◌, ◌≡◌, rules}
use Rattle.dentry_cache.proofs.MapCalls.{all_caches, cached_is}
use Rattle.dentry_cache.proofs.caches.Caches.is_cached.Goals as goal

pub returns-clause-there : goal.returns-clause-there
returns-clause-there c =
    let counted : c.is_some.result ≡ is_some (option_copied c.get.result) = search rules in
    counted ∙ ap is_some (c.get.ensures ∙ cached_is c.self.inside.caches.items c.self.inside.places c.args.at.rank.0 c.args.self.now c.self.view_is c.self.invariant c.requires c.index.result.now c.index.ensures (c.args.at.dir, c.args.at.frag))

pub returns-clause-valid : goal.returns-clause-valid
returns-clause-valid c = all_caches c.self.inside.caches.items c.self.inside.places c.args.self.now c.self.view_is c.self.invariant
