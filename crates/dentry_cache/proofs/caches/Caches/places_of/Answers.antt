use Rattle.dentry_cache.proofs.Common.{CacheMap, Leaf, ap, arith, here, length, map, order, sym, ◌∙◌, ◌≡◌, ◌≤◌}
use Rattle.dentry_cache.proofs.MapCalls.{all_caches, cached_is, keys_are, valid_at}
use Rattle.dentry_cache.proofs.PlaceLaws.{places_are}
use Rattle.dentry_cache.proofs.caches.Caches.places_of.Goals as goal

pub returns-clause-places : goal.returns-clause-places
returns-clause-places c =
    c.places_by_use.ensures
    ∙ places_are c.args.self.now c.args.rank.0 c.index.result.now.entries (cached_is c.self.inside.caches.items c.self.inside.places c.args.rank.0 c.args.self.now c.self.view_is c.self.invariant c.requires c.index.result.now c.index.ensures)
    (valid_at c.self.inside.caches.items c.self.inside.places c.args.rank.0 c.args.self.now c.self.view_is c.self.invariant c.requires c.index.result.now c.index.ensures).distinct
    ∙ ap (map (λ (leaf : Leaf). (leaf, here c.args.self.now c.args.rank.0 leaf))) (sym (keys_are c.self.inside.caches.items c.self.inside.places c.args.rank.0 c.args.self.now c.self.view_is c.self.invariant c.requires c.index.result.now c.index.ensures))

pub returns-clause-valid : goal.returns-clause-valid
returns-clause-valid c = all_caches c.self.inside.caches.items c.self.inside.places c.args.self.now c.self.view_is c.self.invariant

pub returns-clause-few : goal.returns-clause-few
returns-clause-few c =
    let taken : length (order c.args.self.now c.args.rank.0) ≤ c.args.self.now.cap = (returns-clause-valid c).few c.args.rank.0 in
    let cap : c.self.inside.places ≡ c.args.self.now.cap = ap (λ (k : CacheMap). k.cap) c.self.view_is in
    omega (arith, taken, cap, c.self.invariant.most)
