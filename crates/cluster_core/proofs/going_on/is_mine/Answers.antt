use Rattle.cluster_core.proofs.Common.{false, rules, sym, true, ◌∙◌, ◌≡◌}
use Rattle.cluster_core.proofs.going_on.is_mine.Goals as goal

pub returns-then-has_leaf : goal.returns-then-has_leaf
returns-then-has_leaf g c = λ grants ranks. (λ told. record { live = c.has_leaf.ensures.0 (search rules); mine = c.is_authority.ensures.0 told }, λ mine. c.is_authority.ensures.1 mine.mine)

pub returns-else-has_leaf : goal.returns-else-has_leaf
returns-else-has_leaf g c = λ grants ranks. (
  λ told. let off : c.has_leaf.result ≡ false = search rules in let clash : true ≡ false = sym told ∙ off in cc,
  λ mine. let is : c.has_leaf.result ≡ true = c.has_leaf.ensures.1 mine.live in let not : c.has_leaf.result ≡ false = search rules in let clash : true ≡ false = sym is ∙ not in cc,
)
