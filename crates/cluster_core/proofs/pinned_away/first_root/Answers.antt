use Rattle.cluster_core.proofs.Common.{IsFirst, None, Some, Subtrees, arith, is_leaf_after, sight_of, subst}
use Rattle.cluster_core.proofs.AwayLaws.{IsRootOf, away_found, away_none, away_passed, next_of_roots}
use Rattle.cluster_core.proofs.LeafPlaces.{fewer}
use Rattle.cluster_core.proofs.pinned_away.first_root.Goals as goal

pub loop-root-init : goal.loop-root-init
loop-root-init g c = λ grants. record { behind = λ leaf starts. tt }

pub returns-in-Some-away_to : goal.returns-in-Some-away_to
returns-in-Some-away_to g c = λ grants. away_found (sight_of c.args.tree.now grants c.args.ranks c.args.rank) (IsRootOf c.args.tree.now.subtrees.roots) c.loop-root.after c.in-Some.root c.in-Some-away_to.to (c.loop-root.invariant grants) (next_of_roots c.args.tree.now.subtrees.roots c.loop-root.after (Some c.in-Some.root) (subst (λ (t : Subtrees). IsFirst t.roots (is_leaf_after c.loop-root.after) (Some c.in-Some.root)) c.roots.ensures c.in-Some.ensures)) (c.in-Some-away_to.ensures grants)

pub loop-root-smaller : goal.loop-root-smaller
loop-root-smaller g c = fewer c.loop-root.after c.in-Some.root (next_of_roots c.args.tree.now.subtrees.roots c.loop-root.after (Some c.in-Some.root) (subst (λ (t : Subtrees). IsFirst t.roots (is_leaf_after c.loop-root.after) (Some c.in-Some.root)) c.roots.ensures c.in-Some.ensures)).behind (omega arith) (omega arith) (omega arith)

pub loop-root-preserved : goal.loop-root-preserved
loop-root-preserved g c = λ grants. away_passed (sight_of c.args.tree.now grants c.args.ranks c.args.rank) (IsRootOf c.args.tree.now.subtrees.roots) c.loop-root.after c.in-Some.root (c.loop-root.invariant grants) (next_of_roots c.args.tree.now.subtrees.roots c.loop-root.after (Some c.in-Some.root) (subst (λ (t : Subtrees). IsFirst t.roots (is_leaf_after c.loop-root.after) (Some c.in-Some.root)) c.roots.ensures c.in-Some.ensures)) (c.in_default-away_to.ensures grants)

pub returns : goal.returns
returns g c = λ grants. away_none (sight_of c.args.tree.now grants c.args.ranks c.args.rank) (IsRootOf c.args.tree.now.subtrees.roots) c.loop-root.after (c.loop-root.invariant grants)
    (next_of_roots c.args.tree.now.subtrees.roots c.loop-root.after None (subst (λ (t : Subtrees). IsFirst t.roots (is_leaf_after c.loop-root.after) None) c.roots.ensures c.in_default.ensures))
