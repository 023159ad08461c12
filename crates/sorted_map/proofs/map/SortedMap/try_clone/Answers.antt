use Rattle.sorted_map.proofs.Common.{AllZip, ClonePair, [], subst, sym, ◌∙◌}
use Rattle.sorted_map.proofs.MapLaws.{entries-contents}
use Rattle.sorted_map.proofs.CloneLaws.{is_clone_of}
use Rattle.sorted_map.proofs.OverlayLaws.{none_entries}
use Rattle.sorted_map.proofs.map.SortedMap.try_clone.Goals as goal

pub returns-then-is_empty-clause-ok : goal.returns-then-is_empty-clause-ok
returns-then-is_empty-clause-ok g c =
    let R = g.K.Ord.cmp in
    let P = ClonePair g.K.Clone.is_clone g.V.Clone.is_clone in
    let mine = sym (entries-contents R c.args.self.now c.len.ensures.valid) ∙ none_entries _ (c.is_empty.ensures.0 c.if-is_empty.true) in
    let theirs = sym (entries-contents R c.new-empty.result c.len-then-is_empty.ensures.valid) ∙ none_entries _ c.new-empty.ensures.empty in
    is_clone_of g.K.Clone.is_clone g.V.Clone.is_clone c.args.self.now c.new-empty.result (subst (λ es. AllZip P es c.new-empty.result.entries) (sym mine) (subst (AllZip P []) (sym theirs) tt))
