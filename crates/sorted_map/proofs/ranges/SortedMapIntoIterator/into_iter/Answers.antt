use Rattle.sorted_map.proofs.Common.{ap, shown_by, sym, ◌∙◌}
use Rattle.sorted_map.proofs.MapLaws.{entries-contents}
use Rattle.sorted_map.proofs.ranges.SortedMapIntoIterator.into_iter.Goals as goal

pub returns-in-Flat : goal.returns-in-Flat
returns-in-Flat g c = record {
  into_iter_gives =
      c.into_iter.ensures ∙ ap (λ s. s.entries) c.in-Flat.flat-is ∙ ap (λ s. s.entries) (sym (ap shown_by c.in-Flat.is) ∙ c.self.view_is)
      ∙ sym (entries-contents g.K.Ord.cmp c.args.self c.len.ensures.valid);
}

pub returns-in-Chunked : goal.returns-in-Chunked
returns-in-Chunked g c = record {
  into_iter_gives =
      c.into_iter-in-Chunked.ensures ∙ ap (λ s. s.entries) c.into_inner.ensures ∙ ap (λ b. b.value.entries) c.in-Chunked.chunked-is ∙ ap (λ s. s.entries) (sym (ap shown_by c.in-Chunked.is) ∙ c.self.view_is)
      ∙ sym (entries-contents g.K.Ord.cmp c.args.self c.len.ensures.valid);
}
