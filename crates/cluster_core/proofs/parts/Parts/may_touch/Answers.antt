use Rattle.cluster_core.proofs.Common.{cluster_of, false, rules, sym, true, ◌∙◌, ◌≡◌}
use Rattle.cluster_core.proofs.GrantLaws.{by_frozen, by_grant, by_holding}
use Rattle.cluster_core.proofs.parts.Parts.may_touch.Goals as goal

pub returns-then-is_frozen : goal.returns-then-is_frozen
returns-then-is_frozen g c =
    let frozen : c.is_frozen.result ≡ true = search rules in
    by_frozen (cluster_of c.args.self.now).state c.args.rank c.args.request.now c.args.at.now (c.is_frozen.ensures.0 frozen)

pub returns-then-eq : goal.returns-then-eq
returns-then-eq g c =
    let thawed : c.is_frozen.result ≡ false = search rules in
    let mine : c.args.at.now.rank ≡ c.args.rank = search rules in (
      λ told. by_holding (cluster_of c.args.self.now).state c.args.rank c.args.request.now c.args.at.now
          (λ frozen. let clash : true ≡ false = sym (c.is_frozen.ensures.1 frozen) ∙ thawed in cc) c.requires mine,
      λ may. search rules,
    )

pub returns-else-eq : goal.returns-else-eq
returns-else-eq g c =
    let other : c.args.at.now.rank ≡ c.args.rank → ⊥ = search rules in
    let thawed : c.is_frozen.result ≡ false = search rules in
    by_grant (cluster_of c.args.self.now).state c.args.rank c.args.request.now c.args.at.now c.is_granted.result
    (λ frozen. let clash : true ≡ false = sym (c.is_frozen.ensures.1 frozen) ∙ thawed in cc) c.requires other c.is_granted.ensures
