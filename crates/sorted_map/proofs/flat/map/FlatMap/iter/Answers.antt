use Rattle.sorted_map.proofs.Common.{entries-from_sorted, sym, ◌∙◌}
use Rattle.sorted_map.proofs.flat.map.FlatMap.iter.Goals as goal

pub returns : goal.returns
returns g c = rw (← c.self.view_is) (c.of_pairs.ensures ∙ c.deref.ensures.value ∙ sym (entries-from_sorted _ _ c.self.invariant))
