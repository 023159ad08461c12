use Rattle.cluster_core.proofs.Common.{CacheMap, IsNextLeaf, IsSmallIn, None, Some, arith, false, rules, sight_of, sizes_at, subst, sym, true, ◌∙◌, ◌≡◌}
use Rattle.cluster_core.proofs.KindLaws.{merge_found, merge_none, merge_passed}
use Rattle.cluster_core.proofs.LeafPlaces.{fewer}
use Rattle.cluster_core.proofs.regroups.first_merge.Goals as goal

pub next_small-requires : goal.next_small-requires
next_small-requires g c = search rules

pub loop-whole-init : goal.loop-whole-init
loop-whole-init g c = λ ranks. record { behind = λ leaf passes. tt }

pub returns-then-may_merge : goal.returns-then-may_merge
returns-then-may_merge g c = λ ranks.
    merge_found (sight_of c.args.tree.now c.args.grants.now ranks c.args.rank) c.loop-whole.after c.in-Some.whole (c.loop-whole.invariant ranks)
    (subst (λ (m : CacheMap). IsNextLeaf (IsSmallIn (sizes_at m c.args.rank.0)) c.loop-whole.after (Some c.in-Some.whole)) c.caches.ensures c.in-Some.ensures)
    ((c.may_merge.ensures ranks).0 c.if-may_merge.true)

pub loop-whole-smaller : goal.loop-whole-smaller
loop-whole-smaller g c = fewer c.loop-whole.after c.in-Some.whole (subst (λ (m : CacheMap). IsNextLeaf (IsSmallIn (sizes_at m c.args.rank.0)) c.loop-whole.after (Some c.in-Some.whole)) c.caches.ensures c.in-Some.ensures).behind (omega arith) (omega arith) (omega arith)

pub loop-whole-preserved : goal.loop-whole-preserved
loop-whole-preserved g c = λ ranks.
    merge_passed (sight_of c.args.tree.now c.args.grants.now ranks c.args.rank) c.loop-whole.after c.in-Some.whole (c.loop-whole.invariant ranks)
    (subst (λ (m : CacheMap). IsNextLeaf (IsSmallIn (sizes_at m c.args.rank.0)) c.loop-whole.after (Some c.in-Some.whole)) c.caches.ensures c.in-Some.ensures)
    (λ may. let clash : true ≡ false = sym ((c.may_merge.ensures ranks).1 may) ∙ c.if-may_merge.false in cc)

pub returns : goal.returns
returns g c = λ ranks.
    merge_none (sight_of c.args.tree.now c.args.grants.now ranks c.args.rank) c.loop-whole.after (c.loop-whole.invariant ranks)
    (subst (λ (m : CacheMap). IsNextLeaf (IsSmallIn (sizes_at m c.args.rank.0)) c.loop-whole.after None) c.caches.ensures c.in_default.ensures)
