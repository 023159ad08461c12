use Rattle.sorted_map.proofs.Common.{T, ap, is_sorted, length, subst, sym}
use Rattle.sorted_map.proofs.ContentLaws.{empty_shown}
use Rattle.sorted_map.proofs.flat.map.FlatMap.new.Goals as goal

pub returns-clause-empty : goal.returns-clause-empty
returns-clause-empty g c =
    empty_shown _ _ (subst (λ es. T (is_sorted g.K.Ord.cmp es)) (sym c.new.ensures.items) tt) (ap length c.new.ensures.items)
