use Rattle.mdcache.proofs.Common.{CacheMap, Core, IsNewestOf, IsThat, IsThere, KeepsNone, NoneEnds, here, leaf_of, length, refl, rules, subst, sym, ◌<◌}
use Rattle.mdcache.proofs.CoreLaws.{ok_so, there_after, use_step}
use Rattle.mdcache.proofs.FetchSteps.{newest_used}
use Rattle.mdcache.proofs.NoneLaws.{none_used}
use Rattle.mdcache.proofs.mdcache.MdCache.find.Goals as goal

pub returns : goal.returns
returns g c =
    let r = c.args.at.now.rank.0 in
    let leaf = leaf_of c.args.at.now in
    let reads = use_step (IsThat r leaf) NoneEnds c.args.self.now c.fetch.new.self _ c.self.view_is c.fetch.ensures.reads r leaf (refl, refl) c.look.new.self c.look.ensures.used in
    let none = none_used c.self.inside.caches r leaf (subst (λ (k : Core). KeepsNone k.caches) (sym c.self.view_is) c.fetch.ensures.none) c.look.new.self
    (subst (λ (k : Core). IsThere (here k.caches r leaf)) (sym c.self.view_is) c.in_default.ensures.there) c.look.ensures.used in
    let there = subst (λ (k : Core). r < length k.caches.used) (sym c.self.view_is) (there_after _ _ _ _ _ c.fetch.ensures.reads c.requires.may.there) in
    let newest = ok_so _ (subst (λ (k : CacheMap). IsNewestOf k r leaf) (sym c.look.ensures.used) (newest_used c.self.inside.caches r leaf there)) in
    record { found = search rules; newest = newest; reads = reads; none = none; refused = search rules; counted = search rules }
