use Rattle.subtree_map.proofs.Common.{AreEach, Claimed, HaveRoom, Hears, List, Roots, ListRows, Subtrees, ap, arith, home_of, length, subst, sym, ◌-◌, ◌<◌, ◌∙◌, ◌≡◌}
use Rattle.std.specs.FinMap as map
use Rattle.subtree_map.proofs.ListsLaws.{closing, room_for, room_less, say_claimed}
use Rattle.subtree_map.proofs.lists.Lists.insert.Goals as goal

pub tell-requires : goal.tell-requires
tell-requires c =
    subst (λ (ls : List ListRows). HaveRoom (c.args.dir, c.args.frag) c.home_of-home.result (Claimed c.args.rank) ls) (sym c.deref_mut.ensures.value)
    (room_for (c.args.dir, c.args.frag) c.home_of-home.result (Claimed c.args.rank) c.self.inside.lists.items c.self.inside.room c.self.invariant.roomy (subst (λ (s : Subtrees). 0 < s.room) (sym c.self.view_is) c.requires))

pub invariant_of-self : goal.invariant_of-self
invariant_of-self c =
    let many : length c.tell.new.lists ≡ length c.self.inside.lists.items = c.tell.ensures.many ∙ ap length c.deref_mut.ensures.value in
    let some : 0 < c.self.inside.room = (subst (λ (s : Subtrees). 0 < s.room) (sym c.self.view_is) c.requires) in
    (closing c.self.inside.lists c.self.inside.room c.args.self.now c.self.view_is c.tell.new.lists (c.self.inside.room - 1) (λ (m : Roots). map.insert m (c.args.dir, c.args.frag) c.args.rank) (λ (m : Roots). m) many
    (say_claimed (c.args.dir, c.args.frag) c.home_of-home.result c.args.rank c.self.inside.lists.items c.tell.new.lists c.self.inside.room (c.self.inside.room - 1) c.self.invariant (c.home_of-home.ensures.home ∙ ap (λ n. home_of n c.args.rank.0) (c.len.ensures ∙ c.self.inside.lists.ok.0)) (subst (λ n. c.home_of-home.result < n) (c.len.ensures ∙ c.self.inside.lists.ok.0) c.home_of-home.ensures.within) (subst (λ (ls : List ListRows). AreEach (Hears (c.args.dir, c.args.frag) c.home_of-home.result (Claimed c.args.rank)) ls c.tell.new.lists) c.deref_mut.ensures.value c.tell.ensures)
    (room_less (c.args.dir, c.args.frag) c.home_of-home.result (Claimed c.args.rank) c.self.inside.lists.items c.tell.new.lists (subst (λ (ls : List ListRows). AreEach (Hears (c.args.dir, c.args.frag) c.home_of-home.result (Claimed c.args.rank)) ls c.tell.new.lists) c.deref_mut.ensures.value c.tell.ensures) c.self.inside.room (c.self.inside.room - 1) (omega (arith, some)) c.self.invariant.roomy))).valid

pub returns-clause-roots : goal.returns-clause-roots
returns-clause-roots c =
    let many : length c.tell.new.lists ≡ length c.self.inside.lists.items = c.tell.ensures.many ∙ ap length c.deref_mut.ensures.value in
    let some : 0 < c.self.inside.room = (subst (λ (s : Subtrees). 0 < s.room) (sym c.self.view_is) c.requires) in
    (closing c.self.inside.lists c.self.inside.room c.args.self.now c.self.view_is c.tell.new.lists (c.self.inside.room - 1) (λ (m : Roots). map.insert m (c.args.dir, c.args.frag) c.args.rank) (λ (m : Roots). m) many
    (say_claimed (c.args.dir, c.args.frag) c.home_of-home.result c.args.rank c.self.inside.lists.items c.tell.new.lists c.self.inside.room (c.self.inside.room - 1) c.self.invariant (c.home_of-home.ensures.home ∙ ap (λ n. home_of n c.args.rank.0) (c.len.ensures ∙ c.self.inside.lists.ok.0)) (subst (λ n. c.home_of-home.result < n) (c.len.ensures ∙ c.self.inside.lists.ok.0) c.home_of-home.ensures.within) (subst (λ (ls : List ListRows). AreEach (Hears (c.args.dir, c.args.frag) c.home_of-home.result (Claimed c.args.rank)) ls c.tell.new.lists) c.deref_mut.ensures.value c.tell.ensures)
    (room_less (c.args.dir, c.args.frag) c.home_of-home.result (Claimed c.args.rank) c.self.inside.lists.items c.tell.new.lists (subst (λ (ls : List ListRows). AreEach (Hears (c.args.dir, c.args.frag) c.home_of-home.result (Claimed c.args.rank)) ls c.tell.new.lists) c.deref_mut.ensures.value c.tell.ensures) c.self.inside.room (c.self.inside.room - 1) (omega (arith, some)) c.self.invariant.roomy))).roots

pub returns-clause-promises : goal.returns-clause-promises
returns-clause-promises c =
    let many : length c.tell.new.lists ≡ length c.self.inside.lists.items = c.tell.ensures.many ∙ ap length c.deref_mut.ensures.value in
    let some : 0 < c.self.inside.room = (subst (λ (s : Subtrees). 0 < s.room) (sym c.self.view_is) c.requires) in
    (closing c.self.inside.lists c.self.inside.room c.args.self.now c.self.view_is c.tell.new.lists (c.self.inside.room - 1) (λ (m : Roots). map.insert m (c.args.dir, c.args.frag) c.args.rank) (λ (m : Roots). m) many
    (say_claimed (c.args.dir, c.args.frag) c.home_of-home.result c.args.rank c.self.inside.lists.items c.tell.new.lists c.self.inside.room (c.self.inside.room - 1) c.self.invariant (c.home_of-home.ensures.home ∙ ap (λ n. home_of n c.args.rank.0) (c.len.ensures ∙ c.self.inside.lists.ok.0)) (subst (λ n. c.home_of-home.result < n) (c.len.ensures ∙ c.self.inside.lists.ok.0) c.home_of-home.ensures.within) (subst (λ (ls : List ListRows). AreEach (Hears (c.args.dir, c.args.frag) c.home_of-home.result (Claimed c.args.rank)) ls c.tell.new.lists) c.deref_mut.ensures.value c.tell.ensures)
    (room_less (c.args.dir, c.args.frag) c.home_of-home.result (Claimed c.args.rank) c.self.inside.lists.items c.tell.new.lists (subst (λ (ls : List ListRows). AreEach (Hears (c.args.dir, c.args.frag) c.home_of-home.result (Claimed c.args.rank)) ls c.tell.new.lists) c.deref_mut.ensures.value c.tell.ensures) c.self.inside.room (c.self.inside.room - 1) (omega (arith, some)) c.self.invariant.roomy))).promises
