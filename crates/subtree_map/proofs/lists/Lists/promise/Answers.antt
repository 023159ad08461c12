use Rattle.subtree_map.proofs.Common.{AreEach, HasGrown, HasSame, Hears, List, Promised, Roots, ListRows, ap, arith, home_of, length, subst, with_items, ◌+◌, ◌<◌, ◌∙◌, ◌≡◌}
use Rattle.std.specs.FinMap as map
use Rattle.subtree_map.proofs.ListsLaws.{closing, on_err, room_less, same_value, say_grown, say_kept, say_promised}
use Rattle.subtree_map.proofs.lists.Lists.promise.Goals as goal

pub invariant_of-self : goal.invariant_of-self
invariant_of-self c =
    (closing c.self.inside.lists c.self.inside.room c.args.self.now c.self.view_is c.reserve_more.new.lists c.self.inside.room (λ (m : Roots). m) (λ (m : Roots). m) (c.in_err-reserve_more.ensures.left.many ∙ ap length c.deref_mut.ensures.value)
    (say_kept c.self.inside.lists.items c.reserve_more.new.lists c.self.inside.room c.self.invariant (subst (λ (ls : List ListRows). AreEach (λ i. HasSame) ls c.reserve_more.new.lists) c.deref_mut.ensures.value c.in_err-reserve_more.ensures.left))).valid

pub returns-in_err-reserve_more-clause-roots : goal.returns-in_err-reserve_more-clause-roots
returns-in_err-reserve_more-clause-roots c =
    (closing c.self.inside.lists c.self.inside.room c.args.self.now c.self.view_is c.reserve_more.new.lists c.self.inside.room (λ (m : Roots). m) (λ (m : Roots). m) (c.in_err-reserve_more.ensures.left.many ∙ ap length c.deref_mut.ensures.value)
    (say_kept c.self.inside.lists.items c.reserve_more.new.lists c.self.inside.room c.self.invariant (subst (λ (ls : List ListRows). AreEach (λ i. HasSame) ls c.reserve_more.new.lists) c.deref_mut.ensures.value c.in_err-reserve_more.ensures.left))).roots

pub returns-in_err-reserve_more-clause-left : goal.returns-in_err-reserve_more-clause-left
returns-in_err-reserve_more-clause-left c =
    on_err c.from_residual.result (same_value c.self.inside.lists c.self.inside.room c.args.self.now c.self.view_is _ c.self.inside.room
    (closing c.self.inside.lists c.self.inside.room c.args.self.now c.self.view_is c.reserve_more.new.lists c.self.inside.room (λ (m : Roots). m) (λ (m : Roots). m) (c.in_err-reserve_more.ensures.left.many ∙ ap length c.deref_mut.ensures.value)
    (say_kept c.self.inside.lists.items c.reserve_more.new.lists c.self.inside.room c.self.invariant (subst (λ (ls : List ListRows). AreEach (λ i. HasSame) ls c.reserve_more.new.lists) c.deref_mut.ensures.value c.in_err-reserve_more.ensures.left))))

pub invariant_of-self-2 : goal.invariant_of-self-2
invariant_of-self-2 c =
    let first = closing c.self.inside.lists c.self.inside.room c.args.self.now c.self.view_is c.reserve_more.new.lists (c.self.inside.room + 1) (λ (m : Roots). m) (λ (m : Roots). m) (c.in_ok-reserve_more.ensures.ok.many ∙ ap length c.deref_mut.ensures.value)
    (say_grown c.self.inside.lists.items c.reserve_more.new.lists c.self.inside.room (c.self.inside.room + 1) c.self.invariant (subst (λ (ls : List ListRows). AreEach (λ i. HasGrown (c.self.inside.room + 1)) ls c.reserve_more.new.lists) c.deref_mut.ensures.value c.in_ok-reserve_more.ensures.ok)) in
    let at : c.home_of-home.result ≡ home_of (length (with_items c.self.inside.lists c.reserve_more.new.lists).items) c.args.rank.0 = c.home_of-home.ensures.home ∙ ap (λ n. home_of n c.args.rank.0) (c.len.ensures ∙ (with_items c.self.inside.lists c.reserve_more.new.lists).ok.0) in
    let within : c.home_of-home.result < length (with_items c.self.inside.lists c.reserve_more.new.lists).items = subst (λ n. c.home_of-home.result < n) (c.len.ensures ∙ (with_items c.self.inside.lists c.reserve_more.new.lists).ok.0) c.home_of-home.ensures.within in
    (closing (with_items c.self.inside.lists c.reserve_more.new.lists) c.self.inside.room c.args.self.now (same_value c.self.inside.lists c.self.inside.room c.args.self.now c.self.view_is (with_items c.self.inside.lists c.reserve_more.new.lists).items (c.self.inside.room + 1) first) c.tell.new.lists c.self.inside.room (λ (m : Roots). m) (λ (m : Roots). map.insert m (c.args.dir, c.args.frag) c.args.rank) (c.tell.ensures.many ∙ ap length c.deref_mut-2.ensures.value)
    (say_promised (c.args.dir, c.args.frag) c.home_of-home.result c.args.rank (with_items c.self.inside.lists c.reserve_more.new.lists).items c.tell.new.lists (c.self.inside.room + 1) c.self.inside.room first.valid at within (subst (λ (ls : List ListRows). AreEach (Hears (c.args.dir, c.args.frag) c.home_of-home.result (Promised c.args.rank)) ls c.tell.new.lists) c.deref_mut-2.ensures.value c.tell.ensures)
    (room_less (c.args.dir, c.args.frag) c.home_of-home.result (Promised c.args.rank) (with_items c.self.inside.lists c.reserve_more.new.lists).items c.tell.new.lists (subst (λ (ls : List ListRows). AreEach (Hears (c.args.dir, c.args.frag) c.home_of-home.result (Promised c.args.rank)) ls c.tell.new.lists) c.deref_mut-2.ensures.value c.tell.ensures) (c.self.inside.room + 1) c.self.inside.room (omega arith) first.valid.roomy))).valid

pub returns-clause-ok : goal.returns-clause-ok
returns-clause-ok c =
    let first = closing c.self.inside.lists c.self.inside.room c.args.self.now c.self.view_is c.reserve_more.new.lists (c.self.inside.room + 1) (λ (m : Roots). m) (λ (m : Roots). m) (c.in_ok-reserve_more.ensures.ok.many ∙ ap length c.deref_mut.ensures.value)
    (say_grown c.self.inside.lists.items c.reserve_more.new.lists c.self.inside.room (c.self.inside.room + 1) c.self.invariant (subst (λ (ls : List ListRows). AreEach (λ i. HasGrown (c.self.inside.room + 1)) ls c.reserve_more.new.lists) c.deref_mut.ensures.value c.in_ok-reserve_more.ensures.ok)) in
    let at : c.home_of-home.result ≡ home_of (length (with_items c.self.inside.lists c.reserve_more.new.lists).items) c.args.rank.0 = c.home_of-home.ensures.home ∙ ap (λ n. home_of n c.args.rank.0) (c.len.ensures ∙ (with_items c.self.inside.lists c.reserve_more.new.lists).ok.0) in
    let within : c.home_of-home.result < length (with_items c.self.inside.lists c.reserve_more.new.lists).items = subst (λ n. c.home_of-home.result < n) (c.len.ensures ∙ (with_items c.self.inside.lists c.reserve_more.new.lists).ok.0) c.home_of-home.ensures.within in
    (closing (with_items c.self.inside.lists c.reserve_more.new.lists) c.self.inside.room c.args.self.now (same_value c.self.inside.lists c.self.inside.room c.args.self.now c.self.view_is (with_items c.self.inside.lists c.reserve_more.new.lists).items (c.self.inside.room + 1) first) c.tell.new.lists c.self.inside.room (λ (m : Roots). m) (λ (m : Roots). map.insert m (c.args.dir, c.args.frag) c.args.rank) (c.tell.ensures.many ∙ ap length c.deref_mut-2.ensures.value)
    (say_promised (c.args.dir, c.args.frag) c.home_of-home.result c.args.rank (with_items c.self.inside.lists c.reserve_more.new.lists).items c.tell.new.lists (c.self.inside.room + 1) c.self.inside.room first.valid at within (subst (λ (ls : List ListRows). AreEach (Hears (c.args.dir, c.args.frag) c.home_of-home.result (Promised c.args.rank)) ls c.tell.new.lists) c.deref_mut-2.ensures.value c.tell.ensures)
    (room_less (c.args.dir, c.args.frag) c.home_of-home.result (Promised c.args.rank) (with_items c.self.inside.lists c.reserve_more.new.lists).items c.tell.new.lists (subst (λ (ls : List ListRows). AreEach (Hears (c.args.dir, c.args.frag) c.home_of-home.result (Promised c.args.rank)) ls c.tell.new.lists) c.deref_mut-2.ensures.value c.tell.ensures) (c.self.inside.room + 1) c.self.inside.room (omega arith) first.valid.roomy))).promises

pub returns-clause-roots : goal.returns-clause-roots
returns-clause-roots c =
    let first = closing c.self.inside.lists c.self.inside.room c.args.self.now c.self.view_is c.reserve_more.new.lists (c.self.inside.room + 1) (λ (m : Roots). m) (λ (m : Roots). m) (c.in_ok-reserve_more.ensures.ok.many ∙ ap length c.deref_mut.ensures.value)
    (say_grown c.self.inside.lists.items c.reserve_more.new.lists c.self.inside.room (c.self.inside.room + 1) c.self.invariant (subst (λ (ls : List ListRows). AreEach (λ i. HasGrown (c.self.inside.room + 1)) ls c.reserve_more.new.lists) c.deref_mut.ensures.value c.in_ok-reserve_more.ensures.ok)) in
    let at : c.home_of-home.result ≡ home_of (length (with_items c.self.inside.lists c.reserve_more.new.lists).items) c.args.rank.0 = c.home_of-home.ensures.home ∙ ap (λ n. home_of n c.args.rank.0) (c.len.ensures ∙ (with_items c.self.inside.lists c.reserve_more.new.lists).ok.0) in
    let within : c.home_of-home.result < length (with_items c.self.inside.lists c.reserve_more.new.lists).items = subst (λ n. c.home_of-home.result < n) (c.len.ensures ∙ (with_items c.self.inside.lists c.reserve_more.new.lists).ok.0) c.home_of-home.ensures.within in
    (closing (with_items c.self.inside.lists c.reserve_more.new.lists) c.self.inside.room c.args.self.now (same_value c.self.inside.lists c.self.inside.room c.args.self.now c.self.view_is (with_items c.self.inside.lists c.reserve_more.new.lists).items (c.self.inside.room + 1) first) c.tell.new.lists c.self.inside.room (λ (m : Roots). m) (λ (m : Roots). map.insert m (c.args.dir, c.args.frag) c.args.rank) (c.tell.ensures.many ∙ ap length c.deref_mut-2.ensures.value)
    (say_promised (c.args.dir, c.args.frag) c.home_of-home.result c.args.rank (with_items c.self.inside.lists c.reserve_more.new.lists).items c.tell.new.lists (c.self.inside.room + 1) c.self.inside.room first.valid at within (subst (λ (ls : List ListRows). AreEach (Hears (c.args.dir, c.args.frag) c.home_of-home.result (Promised c.args.rank)) ls c.tell.new.lists) c.deref_mut-2.ensures.value c.tell.ensures)
    (room_less (c.args.dir, c.args.frag) c.home_of-home.result (Promised c.args.rank) (with_items c.self.inside.lists c.reserve_more.new.lists).items c.tell.new.lists (subst (λ (ls : List ListRows). AreEach (Hears (c.args.dir, c.args.frag) c.home_of-home.result (Promised c.args.rank)) ls c.tell.new.lists) c.deref_mut-2.ensures.value c.tell.ensures) (c.self.inside.room + 1) c.self.inside.room (omega arith) first.valid.roomy))).roots
