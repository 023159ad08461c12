use Rattle.script_output.proofs.ObjectCommon.{sym, ◌∙◌}
use Rattle.script_output.proofs.ObjectLaws.{memory_taken, pairs_left, shows_tree}
use Rattle.script_output.proofs.objects.trees.tree_leaves.Goals as goal

pub returns-then-has_pairs-clause-leaves : goal.returns-then-has_pairs-clause-leaves
returns-then-has_pairs-clause-leaves c = pairs_left c.args.object.now (sym c.has_pairs.ensures ∙ c.if-has_pairs.true)

pub returns-in_err-leaves-in-Some-clause-memory : goal.returns-in_err-leaves-in-Some-clause-memory
returns-in_err-leaves-in-Some-clause-memory c = memory_taken _ c.args.object.now _ c.in-Some.tree (c.as_slice.ensures ∙ c.header.ensures) (rw c.in-Some.is at c.in_ok-tree.ensures.spelled)

pub returns-in_ok-leaves-in-Some-clause-leaves : goal.returns-in_ok-leaves-in-Some-clause-leaves
returns-in_ok-leaves-in-Some-clause-leaves c =
    shows_tree c.args.object.now _ c.in-Some.tree _ (c.as_slice.ensures ∙ c.header.ensures) (sym c.has_pairs.ensures ∙ c.if-has_pairs.false) (rw c.in-Some.is at c.in_ok-tree.ensures.spelled)
    (c.from_vec.ensures ∙ c.in_ok-leaves-in-Some.ensures)
