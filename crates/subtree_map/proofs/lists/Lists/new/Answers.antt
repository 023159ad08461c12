use Rattle.subtree_map.proofs.Common.{rules, ◌<◌}
use Rattle.subtree_map.proofs.ListsLaws.{say_nothing}
use Rattle.subtree_map.proofs.lists.Lists.new.Goals as goal

pub returns : goal.returns
returns c =
    let some : 0 < c.max.result = search rules in
    let says = say_nothing c.in_ok-lists.lists.items c.max.result some c.in_ok-lists.ensures in
    λ i. record { roots = says.roots i; promises = says.promises i; room = 0 }
