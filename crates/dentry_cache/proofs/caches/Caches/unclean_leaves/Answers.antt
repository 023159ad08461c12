-- A rank more.
use Rattle.dentry_cache.proofs.Common.{arith, length, rules, ◌<◌, ◌≡◌}
use Rattle.dentry_cache.proofs.MapCalls.{all_caches, cached_is, keys_are, ranks_are, valid_at}
use Rattle.dentry_cache.proofs.UncleanPlaces.{rank_more}
use Rattle.dentry_cache.proofs.caches.Caches.unclean_leaves.Goals as goal

pub returns-in_err-add_unclean-clause-valid : goal.returns-in_err-add_unclean-clause-valid
returns-in_err-add_unclean-clause-valid c = all_caches c.self.inside.caches.items c.self.inside.places c.args.self.now c.self.view_is c.self.invariant

pub returns-clause-valid : goal.returns-clause-valid
returns-clause-valid c = all_caches c.self.inside.caches.items c.self.inside.places c.args.self.now c.self.view_is c.self.invariant

pub loop-index-preserved : goal.loop-index-preserved
loop-index-preserved c =
    let counted : c.len-index-end.result ≡ length c.self.inside.caches.items = search rules in
    let ranks = ranks_are c.self.inside.caches.items c.self.inside.places c.args.self.now c.self.view_is in
    let below = c.loop-index-test.true in
    let there : c.loop-index.index < length c.args.self.now.used = omega (arith, below, counted, ranks) in
    let few = c.requires in
    let small : c.loop-index.index < 256 = omega (arith, there, few) in
    rank_more c.args.self.now c.loop-index.index c.loop-index.leaves.items c.add_unclean.new.leaves.items _ c.index.result.now.entries _ (omega (arith, small)) there
    (cached_is c.self.inside.caches.items c.self.inside.places c.loop-index.index c.args.self.now c.self.view_is c.self.invariant there c.index.result.now c.index.ensures)
    (valid_at c.self.inside.caches.items c.self.inside.places c.loop-index.index c.args.self.now c.self.view_is c.self.invariant there c.index.result.now c.index.ensures).distinct
    (keys_are c.self.inside.caches.items c.self.inside.places c.loop-index.index c.args.self.now c.self.view_is c.self.invariant there c.index.result.now c.index.ensures)
    c.in_ok-add_unclean.ensures.added c.loop-index.invariant
