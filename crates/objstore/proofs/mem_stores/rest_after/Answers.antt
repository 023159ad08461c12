use Rattle.objstore.proofs.Common.{List, [], all_kept, ap, filter, map, refl, sym, ◌∙◌, ◌∷◌, ◌≡◌}
use Rattle.objstore.specs.Objects.{object_names_after}
use Rattle.objstore.proofs.mem_stores.rest_after.Goals as goal

pub returns-in-Some : goal.returns-in-Some
unfolding object_names_after
returns-in-Some c = rw c.in-Some.is (ap (map (λ e. e.0)) c.iter_after.ensures)

pub returns-in-None : goal.returns-in-None
unfolding object_names_after
returns-in-None c = rw c.in-None.is (ap (map (λ e. e.0)) (c.iter.ensures ∙ sym (all_kept _)))
