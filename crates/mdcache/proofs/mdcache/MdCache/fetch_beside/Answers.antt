use Rattle.mdcache.proofs.Common.{IsThat, Leaf, Some, inl, inr, leaf_of, refl, rules, ℕ, ◌⊎◌}
use Rattle.mdcache.proofs.FetchSteps.{fetched}
use Rattle.mdcache.proofs.mdcache.MdCache.fetch_beside.Goals as goal

pub returns : goal.returns
returns g c =
    let e = c.fetch.ensures in
    let its = fetched c.args.at.now (Some (leaf_of c.args.first.now)) (λ (r : ℕ) (q : Leaf). IsThat c.args.first.now.rank.0 (leaf_of c.args.first.now) r q ⊎ IsThat c.args.at.now.rank.0 (leaf_of c.args.at.now) r q)
    (inr (refl, refl)) (c.args.first.now.rank.0, inl (refl, refl)) c.fetch.new.self (g.S.Store.objects c.fetch.new.store) (g.S.Store.faults c.fetch.new.store)
    c.args.self.now _ c.self.view_is c.requires.may c.requires.none c.fetch.result e.valid e.fetched e.absent e.left e.same e.refused e.counted in
    let stays = its.stays c.args.first.now.rank.0 (leaf_of c.args.first.now) refl c.requires.first in
    search (rules, its, stays)
