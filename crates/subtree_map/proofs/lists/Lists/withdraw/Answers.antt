use Rattle.subtree_map.proofs.Common.{AreEach, Hears, List, Roots, ListRows, Withdrawn, ap, length, subst, ◌∙◌, ◌≡◌}
use Rattle.std.specs.FinMap as map
use Rattle.subtree_map.proofs.ListsLaws.{closing, say_withdrawn, withdrawn_room}
use Rattle.subtree_map.proofs.lists.Lists.withdraw.Goals as goal

pub tell-requires : goal.tell-requires
tell-requires c = withdrawn_room (c.args.dir, c.args.frag) 0 c.deref_mut.result.now

pub invariant_of-self : goal.invariant_of-self
invariant_of-self c =
    let many : length c.tell.new.lists ≡ length c.self.inside.lists.items = c.tell.ensures.many ∙ ap length c.deref_mut.ensures.value in
    (closing c.self.inside.lists c.self.inside.room c.args.self.now c.self.view_is c.tell.new.lists c.self.inside.room (λ (m : Roots). m) (λ (m : Roots). map.remove m (c.args.dir, c.args.frag)) many
    (say_withdrawn (c.args.dir, c.args.frag) 0 c.self.inside.lists.items c.tell.new.lists c.self.inside.room c.self.invariant (subst (λ (ls : List ListRows). AreEach (Hears (c.args.dir, c.args.frag) 0 Withdrawn) ls c.tell.new.lists) c.deref_mut.ensures.value c.tell.ensures))).valid

pub returns-clause-roots : goal.returns-clause-roots
returns-clause-roots c =
    let many : length c.tell.new.lists ≡ length c.self.inside.lists.items = c.tell.ensures.many ∙ ap length c.deref_mut.ensures.value in
    (closing c.self.inside.lists c.self.inside.room c.args.self.now c.self.view_is c.tell.new.lists c.self.inside.room (λ (m : Roots). m) (λ (m : Roots). map.remove m (c.args.dir, c.args.frag)) many
    (say_withdrawn (c.args.dir, c.args.frag) 0 c.self.inside.lists.items c.tell.new.lists c.self.inside.room c.self.invariant (subst (λ (ls : List ListRows). AreEach (Hears (c.args.dir, c.args.frag) 0 Withdrawn) ls c.tell.new.lists) c.deref_mut.ensures.value c.tell.ensures))).roots

pub returns-clause-promises : goal.returns-clause-promises
returns-clause-promises c =
    let many : length c.tell.new.lists ≡ length c.self.inside.lists.items = c.tell.ensures.many ∙ ap length c.deref_mut.ensures.value in
    (closing c.self.inside.lists c.self.inside.room c.args.self.now c.self.view_is c.tell.new.lists c.self.inside.room (λ (m : Roots). m) (λ (m : Roots). map.remove m (c.args.dir, c.args.frag)) many
    (say_withdrawn (c.args.dir, c.args.frag) 0 c.self.inside.lists.items c.tell.new.lists c.self.inside.room c.self.invariant (subst (λ (ls : List ListRows). AreEach (Hears (c.args.dir, c.args.frag) 0 Withdrawn) ls c.tell.new.lists) c.deref_mut.ensures.value c.tell.ensures))).promises
