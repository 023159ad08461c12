use Rattle.sorted_map.proofs.Common.{ap, slice_get, ◌∙◌}
use Rattle.sorted_map.proofs.ContentLaws.{first_shown}
use Rattle.sorted_map.proofs.flat.map.FlatMap.first.Goals as goal

pub returns : goal.returns
returns g c =
    rw (← c.self.view_is) (c.first.ensures.value ∙ ap (λ es. slice_get es 0) c.deref.ensures.value ∙ first_shown _ _ c.self.invariant)
