use Rattle.subtree_map.proofs.Common.{AreEach, HasHints, List, Roots, ListRows, ap, length, subst, ◌∙◌}
use Rattle.subtree_map.proofs.ListsLaws.{closing, same_value, say_hints}
use Rattle.subtree_map.proofs.lists.Lists.set_hints.Goals as goal

pub invariant_of-self : goal.invariant_of-self
invariant_of-self c =
    (closing c.self.inside.lists c.self.inside.room c.args.self.now c.self.view_is c.hint_each.new.lists c.self.inside.room (λ (m : Roots). m) (λ (m : Roots). m) (c.hint_each.ensures.many ∙ ap length c.deref_mut.ensures.value)
    (say_hints c.self.inside.lists.items c.hint_each.new.lists c.self.inside.room c.self.invariant (subst (λ (ls : List ListRows). AreEach (λ i. HasHints) ls c.hint_each.new.lists) c.deref_mut.ensures.value c.hint_each.ensures))).valid

pub returns : goal.returns
returns c =
    same_value c.self.inside.lists c.self.inside.room c.args.self.now c.self.view_is _ c.self.inside.room
    (closing c.self.inside.lists c.self.inside.room c.args.self.now c.self.view_is c.hint_each.new.lists c.self.inside.room (λ (m : Roots). m) (λ (m : Roots). m) (c.hint_each.ensures.many ∙ ap length c.deref_mut.ensures.value)
    (say_hints c.self.inside.lists.items c.hint_each.new.lists c.self.inside.room c.self.invariant (subst (λ (ls : List ListRows). AreEach (λ i. HasHints) ls c.hint_each.new.lists) c.deref_mut.ensures.value c.hint_each.ensures)))
