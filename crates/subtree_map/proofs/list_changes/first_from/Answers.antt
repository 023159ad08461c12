use Rattle.subtree_map.proofs.Common.{[], contents, is_from, leaf_cmp, sym, ◌∙◌, ◌∷◌}
use Rattle.subtree_map.proofs.Firsts.{first_row}
use Rattle.subtree_map.proofs.list_changes.first_from.Goals as goal

pub returns : goal.returns
returns c = first_row (contents leaf_cmp c.args.rows.now) (is_from leaf_cmp (c.args.dir, c.args.frag)) (c.in_ok-next.field-0.now ∷ c.next.new.self) (sym c.in_ok-next.ensures.steps ∙ c.iter_from.ensures)

pub returns-in_err-next : goal.returns-in_err-next
returns-in_err-next c = rw c.from_residual.ensures (first_row (contents leaf_cmp c.args.rows.now) (is_from leaf_cmp (c.args.dir, c.args.frag)) [] (sym c.in_err-next.ensures.steps.0 ∙ c.iter_from.ensures))
