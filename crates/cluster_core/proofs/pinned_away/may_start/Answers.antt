use Rattle.cluster_core.proofs.Common.{Standing, ap, false, refl, rules, sym, true, ◌∙◌, ◌≡◌}
use Rattle.std.specs.FinMap as map
use Rattle.cluster_core.proofs.pinned_away.may_start.Goals as goal

pub returns-then-not-is_mine : goal.returns-then-not-is_mine
returns-then-not-is_mine g c = λ grants ranks. (
  λ told. let clash : false ≡ true = told in cc,
  λ may. let off : c.is_mine.result ≡ false = search rules in let clash : true ≡ false = sym ((c.is_mine.ensures grants ranks).1 may.own) ∙ off in cc,
)

pub returns-then-is_frozen : goal.returns-then-is_frozen
returns-then-is_frozen g c = λ grants ranks. (λ told. let clash : false ≡ true = told in cc, λ may. absurd (may.thawed (c.is_frozen.ensures.0 (search rules))))

pub returns-in-Some : goal.returns-in-Some
returns-in-Some g c = λ grants ranks. (
  λ told. let clash : false ≡ true = told in cc,
  λ may. let stands = sym c.in-Some.is ∙ c.get.ensures.export ∙ ap (λ (st : Standing). map.get st (c.args.ino, c.args.frag)) c.exports.ensures ∙ may.none in cc,
)

pub returns-in-None : goal.returns-in-None
returns-in-None g c = λ grants ranks.
    let on : c.is_mine.result ≡ true = search rules in
    let off : c.is_frozen.result ≡ false = search rules in (
      λ told. record {
        own = (c.is_mine.ensures grants ranks).0 on;
        thawed = λ frozen. let clash : true ≡ false = sym (c.is_frozen.ensures.1 frozen) ∙ off in cc;
        none = ap (λ (st : Standing). map.get st (c.args.ino, c.args.frag)) (sym c.exports.ensures) ∙ sym c.get.ensures.export ∙ c.in-None.is;
      },
      λ may. refl,
    )
