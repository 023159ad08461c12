use Rattle.subtree_map.proofs.Common.{AreEach, HasHints, List, Roots, ListRows, ap, length, subst, ◌∙◌}
use Rattle.subtree_map.proofs.ListsLaws.{closing, same_value, say_hints}
use Rattle.subtree_map.proofs.RowLaws.{corrects_hints}
use Rattle.subtree_map.proofs.lists.Lists.correct.Goals as goal

pub invariant_of-self : goal.invariant_of-self
invariant_of-self c =
    (closing c.self.inside.lists c.self.inside.room c.args.self.now c.self.view_is c.correct.new.lists c.self.inside.room (λ (m : Roots). m) (λ (m : Roots). m) (c.correct.ensures.many ∙ ap length c.deref_mut.ensures.value)
    (say_hints c.self.inside.lists.items c.correct.new.lists c.self.inside.room c.self.invariant (subst (λ (ls : List ListRows). AreEach (λ i. HasHints) ls c.correct.new.lists) c.deref_mut.ensures.value (corrects_hints _ _ _ c.deref_mut.result.now c.correct.new.lists c.correct.ensures)))).valid

pub returns : goal.returns
returns c =
    same_value c.self.inside.lists c.self.inside.room c.args.self.now c.self.view_is _ c.self.inside.room
    (closing c.self.inside.lists c.self.inside.room c.args.self.now c.self.view_is c.correct.new.lists c.self.inside.room (λ (m : Roots). m) (λ (m : Roots). m) (c.correct.ensures.many ∙ ap length c.deref_mut.ensures.value)
    (say_hints c.self.inside.lists.items c.correct.new.lists c.self.inside.room c.self.invariant (subst (λ (ls : List ListRows). AreEach (λ i. HasHints) ls c.correct.new.lists) c.deref_mut.ensures.value (corrects_hints _ _ _ c.deref_mut.result.now c.correct.new.lists c.correct.ensures))))
