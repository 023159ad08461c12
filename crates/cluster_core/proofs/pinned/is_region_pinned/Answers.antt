use Rattle.cluster_core.proofs.Common.{Contains, Contains-get_or, IsUnder, List, Pin, ap, drop, drop_all, drop_more, false, first_or_later, inl, inr, rules, subst, sym, true, ◌+◌, ◌∙◌, ◌∷◌, ◌≡◌, ◌⊎◌}
use Rattle.cluster_core.proofs.MasterLaws.{not_in_none}
use Rattle.cluster_core.proofs.pinned.is_region_pinned.Goals as goal

pub loop-pin-init : goal.loop-pin-init
loop-pin-init g c = λ q has. inl has

pub returns-then-is_under : goal.returns-then-is_under
returns-then-is_under g c = (
  λ told. (
    c.pin-item.result,
    subst (λ (ps : List Pin). Contains ps c.pin-item.result) c.as_slice-pin-items.ensures (subst (Contains c.as_slice-pin-items.result.now) (sym c.pin-item.is) (Contains-get_or c.as_slice-pin-items.result.now c.loop-pin.pin-index c.pin-item.result (search rules))),
    c.is_under.ensures.0 (search rules),
  ),
  λ any. search rules,
)

pub loop-pin-preserved : goal.loop-pin-preserved
loop-pin-preserved g c = λ q has. step q (c.loop-pin.invariant q has)
  where
    Free : Pin → Type 0
    Free q = IsUnder c.args.tree.now.subtrees.roots c.args.tree.now.tree.homes c.args.tree.now.tree.covers (c.args.dir, c.args.frag) (q.dir, q.frag) → ⊥

    step : (q : Pin) → Contains (drop c.loop-pin.pin-index c.as_slice-pin-items.result.now) q ⊎ Free q → Contains (drop (c.loop-pin.pin-index + 1) c.as_slice-pin-items.result.now) q ⊎ Free q
    step q (inr free) = inr free
    step q (inl left) =
        let more = drop_more c.as_slice-pin-items.result.now c.loop-pin.pin-index c.pin-item.result c.loop-pin-test.true ∙ ap (λ (p : Pin). p ∷ drop (c.loop-pin.pin-index + 1) c.as_slice-pin-items.result.now) (sym c.pin-item.is) in
        elim (first_or_later c.pin-item.result q (drop (c.loop-pin.pin-index + 1) c.as_slice-pin-items.result.now) (subst (λ (ps : List Pin). Contains ps q) more left)) [
          | inl same ↦ inr (subst Free same (λ under. let is : c.is_under.result ≡ true = c.is_under.ensures.1 under in let clash : true ≡ false = sym is ∙ c.if-is_under.false in cc))
          | inr later ↦ inl later
        ]

pub returns : goal.returns
returns g c = (
  λ told. let clash : false ≡ true = told in cc,
  λ any. absurd (done any.0 any.2 (c.loop-pin.invariant any.0 (subst (λ (ps : List Pin). Contains ps any.0) (sym c.as_slice-pin-items.ensures) any.1))),
)
  where
    done : (q : Pin) → IsUnder c.args.tree.now.subtrees.roots c.args.tree.now.tree.homes c.args.tree.now.tree.covers (c.args.dir, c.args.frag) (q.dir, q.frag) → Contains (drop c.loop-pin.pin-index c.as_slice-pin-items.result.now) q ⊎ (IsUnder c.args.tree.now.subtrees.roots c.args.tree.now.tree.homes c.args.tree.now.tree.covers (c.args.dir, c.args.frag) (q.dir, q.frag) → ⊥) → ⊥
    done q under (inr free) = free under
    done q under (inl left) = not_in_none q (subst (λ (ps : List Pin). Contains ps q) (drop_all c.loop-pin.pin-index c.as_slice-pin-items.result.now (search rules)) left)
