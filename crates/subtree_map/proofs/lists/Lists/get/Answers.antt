use Rattle.subtree_map.proofs.Common.{List, ListRows, Subtrees, ap, claimed, first_told, sym, ◌∙◌}
use Rattle.std.specs.FinMap as map
use Rattle.subtree_map.proofs.ToldLaws.{get_told}
use Rattle.subtree_map.proofs.lists.Lists.get.Goals as goal

pub returns : goal.returns
returns c =
    c.claim_in.ensures ∙ ap (λ (ls : List ListRows). first_told claimed ls (c.args.dir, c.args.frag)) c.deref.ensures.value
    ∙ sym (get_told claimed c.self.inside.lists.items (c.args.dir, c.args.frag)) ∙ ap (λ (s : Subtrees). map.get s.roots (c.args.dir, c.args.frag)) c.self.view_is
