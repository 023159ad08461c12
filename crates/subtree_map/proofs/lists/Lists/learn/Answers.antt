use Rattle.subtree_map.proofs.Common.{AreEach, HasGrown, HasLearnt, HasSame, List, Roots, ListRows, ap, arith, length, subst, with_items, ◌+◌, ◌∙◌}
use Rattle.subtree_map.proofs.ListsLaws.{closing, same_value, say_grown, say_kept, say_learnt}
use Rattle.subtree_map.proofs.lists.Lists.learn.Goals as goal

pub invariant_of-self : goal.invariant_of-self
invariant_of-self c =
    (closing c.self.inside.lists c.self.inside.room c.args.self.now c.self.view_is c.reserve_more.new.lists c.self.inside.room (λ (m : Roots). m) (λ (m : Roots). m) (c.in_err-reserve_more.ensures.left.many ∙ ap length c.deref_mut.ensures.value)
    (say_kept c.self.inside.lists.items c.reserve_more.new.lists c.self.inside.room c.self.invariant (subst (λ (ls : List ListRows). AreEach (λ i. HasSame) ls c.reserve_more.new.lists) c.deref_mut.ensures.value c.in_err-reserve_more.ensures.left))).valid

pub returns-in_err-reserve_more-clause-same : goal.returns-in_err-reserve_more-clause-same
returns-in_err-reserve_more-clause-same c =
    same_value c.self.inside.lists c.self.inside.room c.args.self.now c.self.view_is _ c.self.inside.room
    (closing c.self.inside.lists c.self.inside.room c.args.self.now c.self.view_is c.reserve_more.new.lists c.self.inside.room (λ (m : Roots). m) (λ (m : Roots). m) (c.in_err-reserve_more.ensures.left.many ∙ ap length c.deref_mut.ensures.value)
    (say_kept c.self.inside.lists.items c.reserve_more.new.lists c.self.inside.room c.self.invariant (subst (λ (ls : List ListRows). AreEach (λ i. HasSame) ls c.reserve_more.new.lists) c.deref_mut.ensures.value c.in_err-reserve_more.ensures.left)))

pub invariant_of-self-2 : goal.invariant_of-self-2
invariant_of-self-2 c =
    let first = closing c.self.inside.lists c.self.inside.room c.args.self.now c.self.view_is c.reserve_more.new.lists (c.self.inside.room + (length c.args.leaves.now)) (λ (m : Roots). m) (λ (m : Roots). m) (c.in_ok-reserve_more.ensures.ok.many ∙ ap length c.deref_mut.ensures.value)
    (say_grown c.self.inside.lists.items c.reserve_more.new.lists c.self.inside.room (c.self.inside.room + (length c.args.leaves.now)) c.self.invariant (subst (λ (ls : List ListRows). AreEach (λ i. HasGrown (c.self.inside.room + (length c.args.leaves.now))) ls c.reserve_more.new.lists) c.deref_mut.ensures.value c.in_ok-reserve_more.ensures.ok)) in
    (closing (with_items c.self.inside.lists c.reserve_more.new.lists) c.self.inside.room c.args.self.now (same_value c.self.inside.lists c.self.inside.room c.args.self.now c.self.view_is (with_items c.self.inside.lists c.reserve_more.new.lists).items (c.self.inside.room + (length c.args.leaves.now)) first) c.learn_all.new.lists c.self.inside.room (λ (m : Roots). m) (λ (m : Roots). m) (c.learn_all.ensures.many ∙ ap length c.deref_mut-2.ensures.value)
    (say_learnt (with_items c.self.inside.lists c.reserve_more.new.lists).items c.learn_all.new.lists (c.self.inside.room + (length c.args.leaves.now)) c.self.inside.room (length c.args.leaves.now) (omega arith) first.valid (subst (λ (ls : List ListRows). AreEach (λ i. HasLearnt (length c.args.leaves.now)) ls c.learn_all.new.lists) c.deref_mut-2.ensures.value c.learn_all.ensures))).valid

pub returns-clause-same : goal.returns-clause-same
returns-clause-same c =
    let first = closing c.self.inside.lists c.self.inside.room c.args.self.now c.self.view_is c.reserve_more.new.lists (c.self.inside.room + (length c.args.leaves.now)) (λ (m : Roots). m) (λ (m : Roots). m) (c.in_ok-reserve_more.ensures.ok.many ∙ ap length c.deref_mut.ensures.value)
    (say_grown c.self.inside.lists.items c.reserve_more.new.lists c.self.inside.room (c.self.inside.room + (length c.args.leaves.now)) c.self.invariant (subst (λ (ls : List ListRows). AreEach (λ i. HasGrown (c.self.inside.room + (length c.args.leaves.now))) ls c.reserve_more.new.lists) c.deref_mut.ensures.value c.in_ok-reserve_more.ensures.ok)) in
    same_value c.self.inside.lists c.self.inside.room c.args.self.now c.self.view_is _ c.self.inside.room
    (closing (with_items c.self.inside.lists c.reserve_more.new.lists) c.self.inside.room c.args.self.now (same_value c.self.inside.lists c.self.inside.room c.args.self.now c.self.view_is (with_items c.self.inside.lists c.reserve_more.new.lists).items (c.self.inside.room + (length c.args.leaves.now)) first) c.learn_all.new.lists c.self.inside.room (λ (m : Roots). m) (λ (m : Roots). m) (c.learn_all.ensures.many ∙ ap length c.deref_mut-2.ensures.value)
    (say_learnt (with_items c.self.inside.lists c.reserve_more.new.lists).items c.learn_all.new.lists (c.self.inside.room + (length c.args.leaves.now)) c.self.inside.room (length c.args.leaves.now) (omega arith) first.valid (subst (λ (ls : List ListRows). AreEach (λ i. HasLearnt (length c.args.leaves.now)) ls c.learn_all.new.lists) c.deref_mut-2.ensures.value c.learn_all.ensures)))
