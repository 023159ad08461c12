use Rattle.subtree_map.proofs.Common.{AreEach, Corrects, IsCorrected, ListRows, refl, set, subst, sym, ℕ, ◌∙◌}
use Rattle.subtree_map.proofs.RowLaws.{at_index, corrects_one}
use Rattle.subtree_map.proofs.list_changes.correct.Goals as goal

pub returns : goal.returns
returns c =
    subst (λ (home : ℕ). AreEach (Corrects c.args.leaf.now c.args.of home) c.args.lists.now (set c.args.lists.now c.home_of-home.result c.hint.new.rows)) c.home_of-home.ensures.home
    (corrects_one c.args.leaf.now c.args.of c.args.lists.now _ c.home_of-home.result c.hint.new.rows c.home_of-home.ensures.within
    (subst (λ (rows : ListRows). IsCorrected c.args.leaf.now c.args.of rows c.hint.new.rows) (sym c.index-lists-home.is ∙ at_index c.args.lists.now c.home_of-home.result c.index-lists-home.result c.home_of-home.ensures.within c.index-lists-home.is) c.hint.ensures) refl)
