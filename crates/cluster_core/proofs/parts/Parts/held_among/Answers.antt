use Rattle.cluster_core.proofs.Common.{AreHeldAmong, Leaf, List, ap, cluster_of, drop, drop_more, false, rules, subst, sym, true, ◌+◌, ◌∙◌, ◌∷◌, ◌≡◌}
use Rattle.cluster_core.proofs.HeldLaws.{all_held, holds_one, one_less, one_more}
use Rattle.cluster_core.proofs.parts.Parts.held_among.Goals.{then-is_authority+in_ok-push, else-is_authority}
use Rattle.cluster_core.proofs.parts.Parts.held_among.Goals as goal

pub loop-leaf-preserved : goal.loop-leaf-preserved
loop-leaf-preserved g c = elim c.if-is_authority.branch [
  | then-is_authority+in_ok-push w ↦
      one_more (cluster_of c.args.self.now).state c.args.rank c.deref-leaf-items.result.now c.loop-leaf.leaf-index c.loop-leaf.held.items c.loop-leaf.invariant c.leaf-item.result
      (drop_more c.deref-leaf-items.result.now c.loop-leaf.leaf-index c.leaf-item.result c.loop-leaf-test.true ∙ ap (λ (l : Leaf). l ∷ drop (c.loop-leaf.leaf-index + 1) c.deref-leaf-items.result.now) (sym c.leaf-item.is)) c.if-is_authority.held.items
      (c.is_authority.ensures.0 (search rules)) (search rules)
  | else-is_authority w ↦
      one_less (cluster_of c.args.self.now).state c.args.rank c.deref-leaf-items.result.now c.loop-leaf.leaf-index c.loop-leaf.held.items c.loop-leaf.invariant c.leaf-item.result
      (drop_more c.deref-leaf-items.result.now c.loop-leaf.leaf-index c.leaf-item.result c.loop-leaf-test.true ∙ ap (λ (l : Leaf). l ∷ drop (c.loop-leaf.leaf-index + 1) c.deref-leaf-items.result.now) (sym c.leaf-item.is)) c.if-is_authority.held.items
      (λ mine. let is : c.is_authority.result ≡ true = c.is_authority.ensures.1 mine in let isnt : c.is_authority.result ≡ false = search rules in let clash : true ≡ false = sym is ∙ isnt in cc) (search rules)
]

pub returns-clause-held : goal.returns-clause-held
returns-clause-held g c =
    subst (λ (ls : List Leaf). AreHeldAmong (cluster_of c.args.self.now).state c.args.rank ls c.loop-leaf.held.items) c.deref-leaf-items.ensures.value
    (all_held (cluster_of c.args.self.now).state c.args.rank c.deref-leaf-items.result.now c.loop-leaf.leaf-index c.loop-leaf.held.items c.loop-leaf.invariant (search rules))

pub returns-in_err-push-clause-one : goal.returns-in_err-push-clause-one
returns-in_err-push-clause-one g c =
    holds_one c.from_residual.result (cluster_of c.args.self.now).state c.args.rank c.deref-leaf-items.result.now c.args.leaves.now.items c.loop-leaf.leaf-index c.leaf-item.result
    c.deref-leaf-items.ensures.value (search rules) c.leaf-item.is (c.is_authority.ensures.0 (search rules))
