use Rattle.mdcache.proofs.Common.{IsThat, None, leaf_of, refl, rules}
use Rattle.mdcache.proofs.FetchSteps.{fetched}
use Rattle.mdcache.proofs.mdcache.MdCache.fetch.Goals as goal

pub returns : goal.returns
returns g c =
    let e = c.fetch.ensures in
    let its = fetched c.args.at.now None (IsThat c.args.at.now.rank.0 (leaf_of c.args.at.now)) (refl, refl) tt c.fetch.new.self (g.S.Store.objects c.fetch.new.store) (g.S.Store.faults c.fetch.new.store)
    c.args.self.now _ c.self.view_is c.requires.may c.requires.none c.fetch.result e.valid e.fetched e.absent e.left e.same e.refused e.counted in
    record { there = search rules; newest = its.newest; reads = its.reads; none = its.none; refused = its.refused; counted = search rules; valid = search rules }
