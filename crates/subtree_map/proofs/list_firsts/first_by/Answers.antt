use Rattle.subtree_map.proofs.Common.{IsFirstBy, Leaf, None, Option, Some, claimed, contents, entry_at, is_leaf_after, leaf_cmp, said, subst, sym, ◌∙◌}
use Rattle.std.specs.FinMap as map
use Rattle.subtree_map.proofs.ListFirsts.{all_pass, first_of_list, left_sorted}
use Rattle.subtree_map.proofs.list_firsts.first_by.Goals as goal

pub first_in-requires : goal.first_in-requires
first_in-requires c = left_sorted c.args.rows.now (is_leaf_after (Some c.in-Some.leaf)) c.iter_after.result c.iter_after.ensures

pub first_in-requires-in-None : goal.first_in-requires-in-None
first_in-requires-in-None c = left_sorted c.args.rows.now (is_leaf_after None) c.iter.result (c.iter.ensures ∙ all_pass (map.entries (contents leaf_cmp c.args.rows.now)))

pub returns-in-Some : goal.returns-in-Some
returns-in-Some c =
    subst (λ (o : Option Leaf). IsFirstBy (λ leaf. said claimed (entry_at c.args.rows.now leaf)) (is_leaf_after o) c.first_in.result) (sym c.in-Some.is)
    (first_of_list c.args.rows.now (is_leaf_after (Some c.in-Some.leaf)) c.iter_after.result c.iter_after.ensures c.first_in.result c.first_in.ensures)

pub returns-in-None : goal.returns-in-None
returns-in-None c =
    subst (λ (o : Option Leaf). IsFirstBy (λ leaf. said claimed (entry_at c.args.rows.now leaf)) (is_leaf_after o) c.first_in-in-None.result) (sym c.in-None.is)
    (first_of_list c.args.rows.now (is_leaf_after None) c.iter.result (c.iter.ensures ∙ all_pass (map.entries (contents leaf_cmp c.args.rows.now))) c.first_in-in-None.result c.first_in-in-None.ensures)
