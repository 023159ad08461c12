use Rattle.cluster_core.proofs.Common.{CacheMap, IsLargeIn, IsNextLeaf, None, Some, arith, false, rules, sight_of, sizes_at, subst, sym, true, ◌∙◌, ◌≡◌}
use Rattle.cluster_core.proofs.KindLaws.{split_found, split_none, split_passed}
use Rattle.cluster_core.proofs.LeafPlaces.{fewer}
use Rattle.cluster_core.proofs.regroups.first_split.Goals as goal

pub next_large-requires : goal.next_large-requires
next_large-requires g c = search rules

pub loop-leaf-init : goal.loop-leaf-init
loop-leaf-init g c = λ ranks. record { behind = λ leaf passes. tt }

pub returns-then-may_split : goal.returns-then-may_split
returns-then-may_split g c = λ ranks.
    split_found (sight_of c.args.tree.now c.args.grants.now ranks c.args.rank) c.loop-leaf.after c.in-Some.leaf (c.loop-leaf.invariant ranks)
    (subst (λ (m : CacheMap). IsNextLeaf (IsLargeIn (sizes_at m c.args.rank.0)) c.loop-leaf.after (Some c.in-Some.leaf)) c.caches.ensures c.in-Some.ensures)
    ((c.may_split.ensures ranks).0 c.if-may_split.true)

pub loop-leaf-smaller : goal.loop-leaf-smaller
loop-leaf-smaller g c = fewer c.loop-leaf.after c.in-Some.leaf (subst (λ (m : CacheMap). IsNextLeaf (IsLargeIn (sizes_at m c.args.rank.0)) c.loop-leaf.after (Some c.in-Some.leaf)) c.caches.ensures c.in-Some.ensures).behind (omega arith) (omega arith) (omega arith)

pub loop-leaf-preserved : goal.loop-leaf-preserved
loop-leaf-preserved g c = λ ranks.
    split_passed (sight_of c.args.tree.now c.args.grants.now ranks c.args.rank) c.loop-leaf.after c.in-Some.leaf (c.loop-leaf.invariant ranks)
    (subst (λ (m : CacheMap). IsNextLeaf (IsLargeIn (sizes_at m c.args.rank.0)) c.loop-leaf.after (Some c.in-Some.leaf)) c.caches.ensures c.in-Some.ensures)
    (λ may. let clash : true ≡ false = sym ((c.may_split.ensures ranks).1 may) ∙ c.if-may_split.false in cc)

pub returns : goal.returns
returns g c = λ ranks.
    split_none (sight_of c.args.tree.now c.args.grants.now ranks c.args.rank) c.loop-leaf.after (c.loop-leaf.invariant ranks)
    (subst (λ (m : CacheMap). IsNextLeaf (IsLargeIn (sizes_at m c.args.rank.0)) c.loop-leaf.after None) c.caches.ensures c.in_default.ensures)
