use Rattle.cluster_core.proofs.Common.{List, Supply, [], ap, rules, sym, whole_supplies, ℕ, ◌++◌, ◌∙◌, ◌∷◌, ◌≡◌}
use Rattle.cluster_core.proofs.Supplies.{supplies_more, whole_supply}
use Rattle.cluster_core.proofs.clusters.whole_supplies.Goals as goal

pub loop-rank-preserved : goal.loop-rank-preserved
loop-rank-preserved c =
    let its : c.from.result ≡ whole_supply c.loop-rank.rank = c.from.ensures ∙ ap (λ (n : ℕ). record { rank = c.loop-rank.rank; next = n }) c.first_of.ensures in
    let pushed : c.push.new.self.items ≡ c.loop-rank.numbers.items ++ (c.from.result ∷ []) = search rules in
    pushed ∙ ap (λ (s : List Supply). s ++ (c.from.result ∷ [])) c.loop-rank.invariant ∙ ap (λ (s : Supply). whole_supplies 0 c.loop-rank.rank ++ (s ∷ [])) its ∙ sym (supplies_more c.loop-rank.rank)
