use Rattle.sorted_map.proofs.Common.{ap, length, slice_get, ◌-◌, ◌∙◌}
use Rattle.sorted_map.proofs.ContentLaws.{last_shown}
use Rattle.sorted_map.proofs.flat.map.FlatMap.last.Goals as goal

pub returns : goal.returns
returns g c =
    rw (← c.self.view_is) (c.last.ensures.value ∙ ap (λ es. slice_get es (length es - 1)) c.deref.ensures.value ∙ last_shown _ _ c.self.invariant)
