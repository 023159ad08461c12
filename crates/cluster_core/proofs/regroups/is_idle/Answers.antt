use Rattle.cluster_core.proofs.Common.{ap, false, not, not-true, rules, sym, true, ◌∙◌, ◌≡◌}
use Rattle.cluster_core.proofs.regroups.is_idle.Goals as goal

pub returns-then-not-is_mine : goal.returns-then-not-is_mine
returns-then-not-is_mine g c = λ ranks. (
  λ told. let clash : false ≡ true = told in cc,
  λ idle. let off : c.is_mine.result ≡ false = search rules in let clash : true ≡ false = sym ((c.is_mine.ensures c.args.grants.now ranks).1 idle.own) ∙ off in cc,
)

pub returns-then-is_frozen : goal.returns-then-is_frozen
returns-then-is_frozen g c = λ ranks. (λ told. let clash : false ≡ true = told in cc, λ idle. absurd (idle.thawed (c.is_frozen.ensures.0 (search rules))))

pub returns : goal.returns
returns g c = λ ranks.
    let on : c.is_mine.result ≡ true = search rules in
    let off : c.is_frozen.result ≡ false = search rules in (
      λ told. record {
        own = (c.is_mine.ensures c.args.grants.now ranks).0 on;
        thawed = λ frozen. let clash : true ≡ false = sym (c.is_frozen.ensures.1 frozen) ∙ off in cc;
        free = sym c.is_pinned.ensures ∙ not-true c.is_pinned.result told;
      },
      λ idle. ap not (c.is_pinned.ensures ∙ idle.free),
    )
