use Rattle.subtree_map.proofs.Common.{List, ListRows, Subtrees, ap, first_told, promised, sym, ◌∙◌}
use Rattle.std.specs.FinMap as map
use Rattle.subtree_map.proofs.ToldLaws.{get_told}
use Rattle.subtree_map.proofs.lists.Lists.promised.Goals as goal

pub returns : goal.returns
returns c =
    c.promise_in.ensures ∙ ap (λ (ls : List ListRows). first_told promised ls (c.args.dir, c.args.frag)) c.deref.ensures.value
    ∙ sym (get_told promised c.self.inside.lists.items (c.args.dir, c.args.frag)) ∙ ap (λ (s : Subtrees). map.get s.promises (c.args.dir, c.args.frag)) c.self.view_is
