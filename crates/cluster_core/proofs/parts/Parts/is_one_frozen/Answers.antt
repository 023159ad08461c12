use Rattle.cluster_core.proofs.Common.{Contains, Contains-get_or, IsFrozenAt, Leaf, List, ap, cluster_of, drop, drop_all, drop_more, false, first_or_later, inl, inr, rules, subst, sym, true, ◌+◌, ◌∙◌, ◌∷◌, ◌≡◌, ◌⊎◌}
use Rattle.cluster_core.proofs.MasterLaws.{not_in_none}
use Rattle.cluster_core.proofs.parts.Parts.is_one_frozen.Goals as goal

pub loop-leaf-init : goal.loop-leaf-init
loop-leaf-init g c = λ q has. inl has

pub returns-then-is_frozen : goal.returns-then-is_frozen
returns-then-is_frozen g c = (
  c.leaf-item.result,
  subst (λ (ls : List Leaf). Contains ls c.leaf-item.result) c.deref-leaf-items.ensures.value (subst (Contains c.deref-leaf-items.result.now) (sym c.leaf-item.is) (Contains-get_or c.deref-leaf-items.result.now c.loop-leaf.leaf-index c.leaf-item.result (search rules))),
  c.is_frozen.ensures.0 (search rules),
)

pub loop-leaf-preserved : goal.loop-leaf-preserved
loop-leaf-preserved g c = λ q has. step q (c.loop-leaf.invariant q has)
  where
    step : (q : Leaf) → Contains (drop c.loop-leaf.leaf-index c.deref-leaf-items.result.now) q ⊎ (IsFrozenAt (cluster_of c.args.self.now).state q → ⊥) → Contains (drop (c.loop-leaf.leaf-index + 1) c.deref-leaf-items.result.now) q ⊎ (IsFrozenAt (cluster_of c.args.self.now).state q → ⊥)
    step q (inr thawed) = inr thawed
    step q (inl left) =
        let more = drop_more c.deref-leaf-items.result.now c.loop-leaf.leaf-index c.leaf-item.result c.loop-leaf-test.true ∙ ap (λ (l : Leaf). l ∷ drop (c.loop-leaf.leaf-index + 1) c.deref-leaf-items.result.now) (sym c.leaf-item.is) in
        elim (first_or_later c.leaf-item.result q (drop (c.loop-leaf.leaf-index + 1) c.deref-leaf-items.result.now) (subst (λ (ls : List Leaf). Contains ls q) more left)) [
          | inl same ↦ inr (λ frozen. let is : c.is_frozen.result ≡ true = c.is_frozen.ensures.1 (subst (λ (l : Leaf). IsFrozenAt (cluster_of c.args.self.now).state l) (sym same) frozen) in let isnt : c.is_frozen.result ≡ false = search rules in let clash : true ≡ false = sym is ∙ isnt in cc)
          | inr later ↦ inl later
        ]

pub returns : goal.returns
returns g c = λ q has frozen. done q frozen (c.loop-leaf.invariant q (subst (λ (ls : List Leaf). Contains ls q) (sym c.deref-leaf-items.ensures.value) has))
  where
    done : (q : Leaf) → IsFrozenAt (cluster_of c.args.self.now).state q → Contains (drop c.loop-leaf.leaf-index c.deref-leaf-items.result.now) q ⊎ (IsFrozenAt (cluster_of c.args.self.now).state q → ⊥) → ⊥
    done q frozen (inr thawed) = thawed frozen
    done q frozen (inl left) = not_in_none q (subst (λ (ls : List Leaf). Contains ls q) (drop_all c.loop-leaf.leaf-index c.deref-leaf-items.result.now (search rules)) left)
