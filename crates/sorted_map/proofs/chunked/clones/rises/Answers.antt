use Rattle.sorted_map.proofs.Common.{ap, is_lt, is_sorted, sym, ◌∙◌, ◌∷◌}
use Rattle.sorted_map.proofs.CloneLaws.{rises_on}
use Rattle.sorted_map.proofs.chunked.clones.rises.Goals as goal

pub loop-pair-preserved : goal.loop-pair-preserved
loop-pair-preserved g c =
    let R = g.K.Ord.cmp in
    let last = c.loop-pair.last.now in
    let lower = ap is_lt (sym c.cmp.ensures) ∙ sym c.is_lt.ensures ∙ c.if-not-is_lt.false in
    record {
      whole = rises_on g.met.K.Ord.total last c.in-Some-next.pair.now c.next-in-loop-pair.new.self lower
          ∙ ap (λ es. is_sorted R (last ∷ es)) (sym c.in-Some-next.ensures.steps) ∙ c.loop-pair.invariant.whole;
    }
