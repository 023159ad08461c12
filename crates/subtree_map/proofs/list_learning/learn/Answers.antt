use Rattle.subtree_map.proofs.Common.{Entry, Option, ap, contents, leaf_cmp, learnt, ◌∙◌}
use Rattle.std.specs.FinMap as map
use Rattle.subtree_map.proofs.RowLaws.{learnt_row}
use Rattle.subtree_map.proofs.list_learning.learn.Goals as goal

pub returns : goal.returns
returns c =
    learnt_row c.args.rows.now c.insert.new.self c.args.leaf.now c.args.of c.insert.result c.insert.ensures.value
    (c.insert.ensures.inserted ∙ ap (λ (e : Entry). map.insert (contents leaf_cmp c.args.rows.now) c.args.leaf.now e) (c.learnt-entry.ensures ∙ ap (λ (o : Option Entry). learnt o c.args.of) (c.copied.ensures ∙ c.get.ensures))) c.insert.ensures.room
