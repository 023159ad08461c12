use Rattle.sorted_map.proofs.Common.{◌∙◌}
use Rattle.sorted_map.proofs.ContentLaws.{len_shown}
use Rattle.sorted_map.proofs.flat.map.FlatMap.len.Goals as goal

pub returns-clause-len : goal.returns-clause-len
returns-clause-len g c = rw (← c.self.view_is) (c.len.ensures ∙ c.self.inside.pairs.ok.0 ∙ len_shown _ _ c.self.invariant)
