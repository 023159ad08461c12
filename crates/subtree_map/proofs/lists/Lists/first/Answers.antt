use Rattle.subtree_map.proofs.Common.{IsFirst, IsFirstBy, List, None, ListRows, Subtrees, claimed, first_told, is_leaf_after, subst, told}
use Rattle.std.specs.FinMap as map
use Rattle.subtree_map.proofs.ListFirsts.{first_as}
use Rattle.subtree_map.proofs.ToldLaws.{get_told}
use Rattle.subtree_map.proofs.lists.Lists.first.Goals as goal

pub returns : goal.returns
returns c =
    subst (λ (s : Subtrees). IsFirst s.roots (is_leaf_after None) c.first_claim.result) c.self.view_is
    (first_as (first_told claimed c.self.inside.lists.items) (map.get (told claimed c.self.inside.lists.items)) (is_leaf_after None) c.first_claim.result (get_told claimed c.self.inside.lists.items)
    (subst (λ (ls : List ListRows). IsFirstBy (first_told claimed ls) (is_leaf_after None) c.first_claim.result) c.deref.ensures.value c.first_claim.ensures))
