use Rattle.subtree_map.proofs.Common.{List, ListRows, Subtrees, ap, claimed, first_told, subst, sym, ◌∙◌}
use Rattle.std.specs.FinMap as map
use Rattle.subtree_map.proofs.ToldLaws.{get_told}
use Rattle.subtree_map.proofs.lists.Lists.knows_of.Goals as goal

pub returns : goal.returns
returns c = λ none leaf of.
    ap (λ (s : Subtrees). map.get s.roots leaf) (sym c.self.view_is) ∙ get_told claimed c.self.inside.lists.items leaf
    ∙ ap (λ (ls : List ListRows). first_told claimed ls leaf) (sym c.deref.ensures.value) ∙ c.has_rows.ensures none leaf of
