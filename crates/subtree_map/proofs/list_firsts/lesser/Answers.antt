use Rattle.subtree_map.proofs.Common.{IsFirstBy, subst}
use Rattle.subtree_map.proofs.ListFirsts.{first_of_both}
use Rattle.subtree_map.proofs.list_firsts.lesser.Goals as goal

pub returns-in-Some : goal.returns-in-Some
returns-in-Some c f g passes one other = rw c.lesser_of.ensures (first_of_both f g passes c.in-Some.leaf c.args.other (subst (IsFirstBy f passes) c.in-Some.is one) other)
