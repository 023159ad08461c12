use Rattle.cluster_core.proofs.Common.{false, inl, inr, refl, rules, sym, true, ◌∙◌, ◌≡◌}
use Rattle.cluster_core.proofs.going_on.begin.Goals as goal

pub returns-then-not-is_mine : goal.returns-then-not-is_mine
returns-then-not-is_mine g c = λ ranks. inr (refl, λ mine. let off : c.is_mine.result ≡ false = search rules in let clash : true ≡ false = sym ((c.is_mine.ensures c.args.grants.now ranks).1 mine) ∙ off in cc)

pub returns-then-may_freeze : goal.returns-then-may_freeze
returns-then-may_freeze g c = λ ranks.
    let on : c.is_mine.result ≡ true = search rules in
    let mine = (c.is_mine.ensures c.args.grants.now ranks).0 on in
    inl (refl, (c.may_freeze.ensures ranks c.args.rank mine).0 (search rules))

pub returns : goal.returns
returns g c = λ ranks event next.
    let on : c.is_mine.result ≡ true = search rules in
    let off : c.may_freeze.result ≡ false = search rules in
    let mine = (c.is_mine.ensures c.args.grants.now ranks).0 on in
    elim next [
      | inl may ↦ let clash : true ≡ false = sym ((c.may_freeze.ensures ranks c.args.rank mine).1 may.1) ∙ off in cc
      | inr none ↦ none.1 mine
    ]
