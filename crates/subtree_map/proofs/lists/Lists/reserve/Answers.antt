use Rattle.subtree_map.proofs.Common.{AreEach, HasGrown, HasSame, List, Roots, ListRows, ap, length, subst, ◌∙◌}
use Rattle.subtree_map.proofs.ListsLaws.{closing, on_err, same_value, say_grown, say_kept}
use Rattle.subtree_map.proofs.lists.Lists.reserve.Goals as goal

pub invariant_of-self : goal.invariant_of-self
invariant_of-self c =
    (closing c.self.inside.lists c.self.inside.room c.args.self.now c.self.view_is c.reserve_each.new.lists c.self.inside.room (λ (m : Roots). m) (λ (m : Roots). m) (c.in_err-reserve_each.ensures.left.many ∙ ap length c.deref_mut.ensures.value)
    (say_kept c.self.inside.lists.items c.reserve_each.new.lists c.self.inside.room c.self.invariant (subst (λ (ls : List ListRows). AreEach (λ i. HasSame) ls c.reserve_each.new.lists) c.deref_mut.ensures.value c.in_err-reserve_each.ensures.left))).valid

pub returns-in_err-reserve_each-clause-roots : goal.returns-in_err-reserve_each-clause-roots
returns-in_err-reserve_each-clause-roots c =
    (closing c.self.inside.lists c.self.inside.room c.args.self.now c.self.view_is c.reserve_each.new.lists c.self.inside.room (λ (m : Roots). m) (λ (m : Roots). m) (c.in_err-reserve_each.ensures.left.many ∙ ap length c.deref_mut.ensures.value)
    (say_kept c.self.inside.lists.items c.reserve_each.new.lists c.self.inside.room c.self.invariant (subst (λ (ls : List ListRows). AreEach (λ i. HasSame) ls c.reserve_each.new.lists) c.deref_mut.ensures.value c.in_err-reserve_each.ensures.left))).roots

pub returns-in_err-reserve_each-clause-promises : goal.returns-in_err-reserve_each-clause-promises
returns-in_err-reserve_each-clause-promises c =
    (closing c.self.inside.lists c.self.inside.room c.args.self.now c.self.view_is c.reserve_each.new.lists c.self.inside.room (λ (m : Roots). m) (λ (m : Roots). m) (c.in_err-reserve_each.ensures.left.many ∙ ap length c.deref_mut.ensures.value)
    (say_kept c.self.inside.lists.items c.reserve_each.new.lists c.self.inside.room c.self.invariant (subst (λ (ls : List ListRows). AreEach (λ i. HasSame) ls c.reserve_each.new.lists) c.deref_mut.ensures.value c.in_err-reserve_each.ensures.left))).promises

pub returns-in_err-reserve_each-clause-left : goal.returns-in_err-reserve_each-clause-left
returns-in_err-reserve_each-clause-left c =
    on_err c.from_residual.result (same_value c.self.inside.lists c.self.inside.room c.args.self.now c.self.view_is _ c.self.inside.room
    (closing c.self.inside.lists c.self.inside.room c.args.self.now c.self.view_is c.reserve_each.new.lists c.self.inside.room (λ (m : Roots). m) (λ (m : Roots). m) (c.in_err-reserve_each.ensures.left.many ∙ ap length c.deref_mut.ensures.value)
    (say_kept c.self.inside.lists.items c.reserve_each.new.lists c.self.inside.room c.self.invariant (subst (λ (ls : List ListRows). AreEach (λ i. HasSame) ls c.reserve_each.new.lists) c.deref_mut.ensures.value c.in_err-reserve_each.ensures.left))))

pub invariant_of-self-2 : goal.invariant_of-self-2
invariant_of-self-2 c =
    (closing c.self.inside.lists c.self.inside.room c.args.self.now c.self.view_is c.reserve_each.new.lists c.args.additional (λ (m : Roots). m) (λ (m : Roots). m) (c.in_ok-reserve_each.ensures.ok.many ∙ ap length c.deref_mut.ensures.value)
    (say_grown c.self.inside.lists.items c.reserve_each.new.lists c.self.inside.room c.args.additional c.self.invariant (subst (λ (ls : List ListRows). AreEach (λ i. HasGrown c.args.additional) ls c.reserve_each.new.lists) c.deref_mut.ensures.value c.in_ok-reserve_each.ensures.ok))).valid

pub returns-clause-roots : goal.returns-clause-roots
returns-clause-roots c =
    (closing c.self.inside.lists c.self.inside.room c.args.self.now c.self.view_is c.reserve_each.new.lists c.args.additional (λ (m : Roots). m) (λ (m : Roots). m) (c.in_ok-reserve_each.ensures.ok.many ∙ ap length c.deref_mut.ensures.value)
    (say_grown c.self.inside.lists.items c.reserve_each.new.lists c.self.inside.room c.args.additional c.self.invariant (subst (λ (ls : List ListRows). AreEach (λ i. HasGrown c.args.additional) ls c.reserve_each.new.lists) c.deref_mut.ensures.value c.in_ok-reserve_each.ensures.ok))).roots

pub returns-clause-promises : goal.returns-clause-promises
returns-clause-promises c =
    (closing c.self.inside.lists c.self.inside.room c.args.self.now c.self.view_is c.reserve_each.new.lists c.args.additional (λ (m : Roots). m) (λ (m : Roots). m) (c.in_ok-reserve_each.ensures.ok.many ∙ ap length c.deref_mut.ensures.value)
    (say_grown c.self.inside.lists.items c.reserve_each.new.lists c.self.inside.room c.args.additional c.self.invariant (subst (λ (ls : List ListRows). AreEach (λ i. HasGrown c.args.additional) ls c.reserve_each.new.lists) c.deref_mut.ensures.value c.in_ok-reserve_each.ensures.ok))).promises
