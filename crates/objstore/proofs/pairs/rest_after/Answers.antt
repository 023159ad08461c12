use Rattle.objstore.proofs.Common.{List, [], all_kept, ap, filter, refl, sym, ◌∙◌, ◌∷◌, ◌≡◌}
use Rattle.objstore.specs.Omap.{pairs_after}
use Rattle.objstore.proofs.pairs.rest_after.Goals as goal

pub returns-in-Some : goal.returns-in-Some
unfolding pairs_after
returns-in-Some c = rw c.in-Some.is c.iter_after.ensures

pub returns-in-None : goal.returns-in-None
unfolding pairs_after
returns-in-None c = rw c.in-None.is (c.iter.ensures ∙ sym (all_kept _))
