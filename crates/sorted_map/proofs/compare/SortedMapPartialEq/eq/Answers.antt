use Rattle.sorted_map.proofs.Common.{pairs_eq, pointwise, ◌∙◌}
use Rattle.sorted_map.proofs.MapLaws.{entries-contents}
use Rattle.sorted_map.proofs.EqualLaws.{keys_told, pairs_told, maps_told}
use Rattle.sorted_map.proofs.compare.SortedMapPartialEq.eq.Goals as goal

pub returns-clause-value : goal.returns-clause-value
returns-clause-value g c =
    let mine = c.iter.ensures ∙ entries-contents g.K.Ord.cmp c.args.self.now c.len.ensures.valid in
    let others = c.iter-2.ensures ∙ entries-contents g.K.Ord.cmp c.args.other.now c.len-2.ensures.valid in
    c.have_same.ensures ∙ (λ i. pointwise (pairs_eq g.K.PartialEq.eq g.V.PartialEq.eq) (mine i) (others i))

pub returns-clause-exact : goal.returns-clause-exact
returns-clause-exact g c = λ values_told.
    let E = g.K.PartialEq.eq in
    let F = g.V.PartialEq.eq in
    maps_told g.K.Ord.cmp (pairs_eq E F) (pairs_told E F (keys_told g.met.K.Ord.total g.met.K.ExactOrd.exact E g.met.K.Ord.matches_eq) values_told) _ _ _ c.len.ensures.valid c.len-2.ensures.valid (returns-clause-value g c)
