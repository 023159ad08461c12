use Rattle.subtree_map.proofs.Common.{AreEach, Ended, Hears, List, Roots, ListRows, ap, length, subst, ◌∙◌, ◌≡◌}
use Rattle.std.specs.FinMap as map
use Rattle.subtree_map.proofs.ListsLaws.{closing, ended_room, nothing_removed, say_ended}
use Rattle.subtree_map.proofs.lists.Lists.take.Goals as goal

pub tell-requires : goal.tell-requires
tell-requires c = ended_room (c.args.dir, c.args.frag) 0 c.deref_mut.result.now

pub returns-in_err-rank-clause-removed : goal.returns-in_err-rank-clause-removed
returns-in_err-rank-clause-removed c = nothing_removed c.args.self.now.roots (c.args.dir, c.args.frag) c.in_err-rank.ensures

pub invariant_of-self : goal.invariant_of-self
invariant_of-self c =
    let many : length c.tell.new.lists ≡ length c.self.inside.lists.items = c.tell.ensures.many ∙ ap length c.deref_mut.ensures.value in
    (closing c.self.inside.lists c.self.inside.room c.args.self.now c.self.view_is c.tell.new.lists c.self.inside.room (λ (m : Roots). map.remove m (c.args.dir, c.args.frag)) (λ (m : Roots). m) many
    (say_ended (c.args.dir, c.args.frag) 0 c.self.inside.lists.items c.tell.new.lists c.self.inside.room c.self.invariant (subst (λ (ls : List ListRows). AreEach (Hears (c.args.dir, c.args.frag) 0 Ended) ls c.tell.new.lists) c.deref_mut.ensures.value c.tell.ensures))).valid

pub returns-clause-removed : goal.returns-clause-removed
returns-clause-removed c =
    let many : length c.tell.new.lists ≡ length c.self.inside.lists.items = c.tell.ensures.many ∙ ap length c.deref_mut.ensures.value in
    (closing c.self.inside.lists c.self.inside.room c.args.self.now c.self.view_is c.tell.new.lists c.self.inside.room (λ (m : Roots). map.remove m (c.args.dir, c.args.frag)) (λ (m : Roots). m) many
    (say_ended (c.args.dir, c.args.frag) 0 c.self.inside.lists.items c.tell.new.lists c.self.inside.room c.self.invariant (subst (λ (ls : List ListRows). AreEach (Hears (c.args.dir, c.args.frag) 0 Ended) ls c.tell.new.lists) c.deref_mut.ensures.value c.tell.ensures))).roots

pub returns-clause-promises : goal.returns-clause-promises
returns-clause-promises c =
    let many : length c.tell.new.lists ≡ length c.self.inside.lists.items = c.tell.ensures.many ∙ ap length c.deref_mut.ensures.value in
    (closing c.self.inside.lists c.self.inside.room c.args.self.now c.self.view_is c.tell.new.lists c.self.inside.room (λ (m : Roots). map.remove m (c.args.dir, c.args.frag)) (λ (m : Roots). m) many
    (say_ended (c.args.dir, c.args.frag) 0 c.self.inside.lists.items c.tell.new.lists c.self.inside.room c.self.invariant (subst (λ (ls : List ListRows). AreEach (Hears (c.args.dir, c.args.frag) 0 Ended) ls c.tell.new.lists) c.deref_mut.ensures.value c.tell.ensures))).promises
