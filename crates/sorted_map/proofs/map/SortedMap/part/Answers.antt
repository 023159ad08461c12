use Rattle.sorted_map.proofs.Common.{ap, contents, ◌∙◌}
use Rattle.sorted_map.proofs.OverlayLaws.{overlaid_none}
use Rattle.sorted_map.proofs.map.SortedMap.part.Goals as goal

pub returns-clause-same : goal.returns-clause-same
returns-clause-same g c =
    let R = g.K.Ord.cmp in
    let none = ap (contents R) c.replace-pairs.ensures.after ∙ ap (contents R) c.in_ok-chunked.ensures.ok ∙ c.in_ok-reserve.ensures.same ∙ c.new-chunked.ensures.empty in
    c.put_all.ensures.laid ∙ overlaid_none g.met.K.Ord.total (contents R c.replace-pairs.result) (contents R c.replace-pairs.new.dest) none ∙ ap (contents R) c.replace-pairs.ensures.value
