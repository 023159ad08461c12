use Rattle.dentry_cache.proofs.Common.{CacheMap, ap, arith, false, given_up, here, is_some, length, rules, sym, ◌∙◌, ◌≡◌}
use Rattle.dentry_cache.proofs.EndedLaws.{given_up_none, looked_on, none_ends}
use Rattle.dentry_cache.proofs.MapCalls.{all_caches, ranks_are}
use Rattle.dentry_cache.proofs.caches.Caches.end.Goals as goal

pub returns-then-end_at-clause-valid : goal.returns-then-end_at-clause-valid
returns-then-end_at-clause-valid c = all_caches c.self.inside.caches.items c.self.inside.places c.args.self.now c.self.view_is c.self.invariant

pub loop-index-preserved : goal.loop-index-preserved
loop-index-preserved c =
    let same = c.loop-index.invariant.same in
    let lacks : is_some (here c.args.self.now c.loop-index.index (c.args.dir, c.args.frag)) ≡ false =
    ap (λ (k : CacheMap). is_some (here k c.loop-index.index (c.args.dir, c.args.frag))) (sym same) ∙ sym c.end_at.ensures.there ∙ c.if-end_at.false in
    record {
      same = c.end_at.ensures.without ∙ ap (λ (k : CacheMap). given_up k c.loop-index.index (c.args.dir, c.args.frag)) same ∙ given_up_none c.args.self.now (c.args.dir, c.args.frag) c.loop-index.index (c.requires c.loop-index.index) lacks;
      none = looked_on c.args.self.now (c.args.dir, c.args.frag) c.loop-index.index c.loop-index.invariant.none lacks;
    }

pub returns-clause-ended : goal.returns-clause-ended
returns-clause-ended c =
    let counted : c.len-index-end.result ≡ length c.self.inside.caches.items = search rules in
    let ranks = ranks_are c.self.inside.caches.items c.self.inside.places c.args.self.now c.self.view_is in
    let past = c.loop-index-test.false in
    let valid = all_caches c.self.inside.caches.items c.self.inside.places c.args.self.now c.self.view_is c.self.invariant in
    c.loop-index.invariant.same
    ∙ none_ends c.args.self.now (c.args.dir, c.args.frag) valid (λ r below. c.loop-index.invariant.none r (omega (arith, below, past, counted, ranks)))

pub returns-clause-valid : goal.returns-clause-valid
returns-clause-valid c = all_caches c.self.inside.caches.items c.self.inside.places c.args.self.now c.self.view_is c.self.invariant
