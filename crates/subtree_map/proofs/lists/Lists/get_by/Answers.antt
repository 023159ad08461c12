use Rattle.subtree_map.proofs.Common.{IsClaimed, List, ListRows, Subtrees, ap, claimed, first_told, subst, sym, ◌∙◌}
use Rattle.std.specs.FinMap as map
use Rattle.subtree_map.proofs.ListsLaws.{claim_is}
use Rattle.subtree_map.proofs.ToldLaws.{get_told}
use Rattle.subtree_map.proofs.lists.Lists.get_by.Goals as goal

pub returns-in-Some : goal.returns-in-Some
returns-in-Some c =
    sym (claim_is c.self.inside.lists.items c.self.inside.room (c.args.dir, c.args.frag) c.in-Some.rank c.self.invariant (subst (λ (ls : List ListRows). IsClaimed ls (c.args.dir, c.args.frag) c.in-Some.rank) c.deref.ensures.value c.in-Some.ensures))
    ∙ sym (get_told claimed c.self.inside.lists.items (c.args.dir, c.args.frag)) ∙ ap (λ (s : Subtrees). map.get s.roots (c.args.dir, c.args.frag)) c.self.view_is

pub returns-in-None : goal.returns-in-None
returns-in-None c =
    c.claim_in.ensures ∙ ap (λ (ls : List ListRows). first_told claimed ls (c.args.dir, c.args.frag)) c.deref-in-None.ensures.value
    ∙ sym (get_told claimed c.self.inside.lists.items (c.args.dir, c.args.frag)) ∙ ap (λ (s : Subtrees). map.get s.roots (c.args.dir, c.args.frag)) c.self.view_is
