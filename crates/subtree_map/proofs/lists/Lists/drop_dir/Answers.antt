use Rattle.subtree_map.proofs.Common.{AreEach, AreGone, AreLists, HasDropped, List, ListRows, Subtrees, ap, claimed, length, promised, subst, sym, told, with_items, ◌∙◌}
use Rattle.subtree_map.proofs.ListsLaws.{dropped_lists, gone_from, refilled}
use Rattle.subtree_map.proofs.lists.Lists.drop_dir.Goals as goal

pub invariant_of-self : goal.invariant_of-self
invariant_of-self c =
    subst (λ (ls : List ListRows). AreLists c.self.inside.room ls) (sym (refilled c.self.inside.lists c.drop_each.new.lists (c.drop_each.ensures.many ∙ ap length c.deref_mut.ensures.value)))
    (dropped_lists c.args.dir.0 c.self.inside.lists.items c.drop_each.new.lists (subst (λ (ls : List ListRows). AreEach (λ i. HasDropped c.args.dir.0) ls c.drop_each.new.lists) c.deref_mut.ensures.value c.drop_each.ensures) c.self.inside.room c.self.invariant)

pub returns-clause-roots : goal.returns-clause-roots
returns-clause-roots c =
    subst (λ (s : Subtrees). AreGone s.roots (told claimed (with_items c.self.inside.lists c.drop_each.new.lists).items) c.args.dir.0) c.self.view_is
    (subst (λ (ls : List ListRows). AreGone (told claimed c.self.inside.lists.items) (told claimed ls) c.args.dir.0) (sym (refilled c.self.inside.lists c.drop_each.new.lists (c.drop_each.ensures.many ∙ ap length c.deref_mut.ensures.value)))
    (gone_from c.args.dir.0 c.self.inside.lists.items c.drop_each.new.lists (subst (λ (ls : List ListRows). AreEach (λ i. HasDropped c.args.dir.0) ls c.drop_each.new.lists) c.deref_mut.ensures.value c.drop_each.ensures) claimed))

pub returns-clause-promises : goal.returns-clause-promises
returns-clause-promises c =
    subst (λ (s : Subtrees). AreGone s.promises (told promised (with_items c.self.inside.lists c.drop_each.new.lists).items) c.args.dir.0) c.self.view_is
    (subst (λ (ls : List ListRows). AreGone (told promised c.self.inside.lists.items) (told promised ls) c.args.dir.0) (sym (refilled c.self.inside.lists c.drop_each.new.lists (c.drop_each.ensures.many ∙ ap length c.deref_mut.ensures.value)))
    (gone_from c.args.dir.0 c.self.inside.lists.items c.drop_each.new.lists (subst (λ (ls : List ListRows). AreEach (λ i. HasDropped c.args.dir.0) ls c.drop_each.new.lists) c.deref_mut.ensures.value c.drop_each.ensures) promised))
