use Rattle.subtree_map.proofs.Common.{HasLearnt, ListRows, refl, subst, sym, ◌∙◌}
use Rattle.subtree_map.proofs.RowLaws.{at_index, learnt_one}
use Rattle.subtree_map.proofs.list_learning.learn_one.Goals as goal

pub returns-in-Some : goal.returns-in-Some
returns-in-Some c =
    learnt_one c.args.lists.now _ c.args.home c.learn.new.rows c.requires.there
    (subst (λ (rows : ListRows). HasLearnt 1 rows c.learn.new.rows) (sym c.index-lists-home.is ∙ at_index c.args.lists.now c.args.home c.index-lists-home.result c.requires.there c.index-lists-home.is) c.learn.ensures) refl
