-- A leaf that the other tree lacks tells them apart; where there is none they are one.
use Rattle.fragtree.proofs.Common.{[], ap, append_assoc, refl, sym, ◌++◌, ◌∙◌, ◌∷◌}
use Rattle.fragtree.proofs.Walks.{all_found, found_too}
use Rattle.fragtree.proofs.compare.have_same_leaves.Goals as goal

pub loop-leaf-preserved : goal.loop-leaf-preserved
loop-leaf-preserved c =
    let (done, is, all) = c.loop-leaf.invariant in
    (done ++ c.in-Some.leaf ∷ [], is ∙ ap (λ ys. done ++ ys) c.in-Some.ensures.steps ∙ sym (append_assoc done (c.in-Some.leaf ∷ []) _), found_too done _ c.in-Some.leaf all (c.has_leaf.ensures.0 c.if-not-has_leaf.false))

pub returns : goal.returns
returns c =
    let (done, is, all) = c.loop-leaf.invariant in
    (λ told. all_found _ done _ (is ∙ ap (λ ys. done ++ ys) c.in-None.ensures.steps.0) all c.requires.whole c.requires.other_whole, λ same. refl)
