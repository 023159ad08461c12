use Rattle.sorted_map.proofs.Common.{T, ap, flat, is_sorted, length, subst, sym}
use Rattle.sorted_map.proofs.ContentLaws.{empty_shown}
use Rattle.sorted_map.proofs.chunked.map.ChunkMap.new.Goals as goal

pub returns-clause-empty : goal.returns-clause-empty
returns-clause-empty g c =
    empty_shown _ _ (subst (λ cs. T (is_sorted g.K.Ord.cmp (flat cs))) (sym c.new.ensures.lists) tt) (ap (λ cs. length (flat cs)) c.new.ensures.lists)
