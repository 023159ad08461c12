use Rattle.subtree_map.proofs.Common.{ListRows, ap, claimed, entry_at, first_told, is_leaf_after, rows_at, said, sym, take, ◌+◌}
use Rattle.subtree_map.proofs.ListFirsts.{first_as, found_more}
use Rattle.subtree_map.proofs.RowLaws.{at_index}
use Rattle.subtree_map.proofs.list_firsts.first_claim.Goals as goal

pub loop-i-preserved : goal.loop-i-preserved
loop-i-preserved c =
    first_as _ (first_told claimed (take (c.loop-i.i + 1) c.args.lists.now)) (is_leaf_after c.args.after.now) c.lesser-first.result
    (λ leaf. found_more claimed c.args.lists.now c.loop-i.i leaf c.loop-i-test.true)
    (c.lesser-first.ensures (first_told claimed (take c.loop-i.i c.args.lists.now)) _ (is_leaf_after c.args.after.now) c.loop-i.invariant
    (first_as (λ leaf. said claimed (entry_at c.index-lists-i.result leaf)) (λ leaf. said claimed (entry_at (rows_at c.args.lists.now c.loop-i.i) leaf)) (is_leaf_after c.args.after.now) c.first_by.result
    (λ leaf. ap (λ (rows : ListRows). said claimed (entry_at rows leaf)) (sym (at_index c.args.lists.now c.loop-i.i c.index-lists-i.result c.loop-i-test.true c.index-lists-i.is))) c.first_by.ensures))
