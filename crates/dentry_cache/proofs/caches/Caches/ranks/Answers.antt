use Rattle.dentry_cache.proofs.Common.{length, rules, sym, ◌∙◌, ◌≡◌}
use Rattle.dentry_cache.proofs.MapCalls.{all_caches, ranks_are}
use Rattle.dentry_cache.proofs.caches.Caches.ranks.Goals as goal

pub returns-clause-ranks : goal.returns-clause-ranks
returns-clause-ranks c =
    let counted : c.len.result ≡ length c.self.inside.caches.items = search rules in
    counted ∙ sym (ranks_are c.self.inside.caches.items c.self.inside.places c.args.self.now c.self.view_is)

pub returns-clause-valid : goal.returns-clause-valid
returns-clause-valid c = all_caches c.self.inside.caches.items c.self.inside.places c.args.self.now c.self.view_is c.self.invariant
