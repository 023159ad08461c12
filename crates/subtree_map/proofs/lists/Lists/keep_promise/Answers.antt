use Rattle.subtree_map.proofs.Common.{AreEach, Handed, HaveRoom, Hears, List, Roots, ListRows, Some, Subtrees, ap, home_of, length, subst, sym, ◌<◌, ◌∙◌, ◌≡◌}
use Rattle.std.specs.FinMap as map
use Rattle.subtree_map.proofs.ListsLaws.{closing, kept_room, say_handed}
use Rattle.subtree_map.proofs.lists.Lists.keep_promise.Goals as goal

pub tell-requires : goal.tell-requires
tell-requires c =
    subst (λ (ls : List ListRows). HaveRoom (c.args.dir, c.args.frag) c.home_of-home.result (Handed c.args.rank) ls) (sym c.deref_mut.ensures.value)
    (kept_room (c.args.dir, c.args.frag) c.home_of-home.result c.args.rank c.self.inside.lists.items c.self.inside.room c.self.invariant (c.home_of-home.ensures.home ∙ ap (λ n. home_of n c.args.rank.0) (c.len.ensures ∙ c.self.inside.lists.ok.0)) (subst (λ (s : Subtrees). map.get s.promises (c.args.dir, c.args.frag) ≡ Some c.args.rank) (sym c.self.view_is) c.requires))

pub invariant_of-self : goal.invariant_of-self
invariant_of-self c =
    let many : length c.tell.new.lists ≡ length c.self.inside.lists.items = c.tell.ensures.many ∙ ap length c.deref_mut.ensures.value in
    (closing c.self.inside.lists c.self.inside.room c.args.self.now c.self.view_is c.tell.new.lists c.self.inside.room (λ (m : Roots). map.insert m (c.args.dir, c.args.frag) c.args.rank) (λ (m : Roots). map.remove m (c.args.dir, c.args.frag)) many
    (say_handed (c.args.dir, c.args.frag) c.home_of-home.result c.args.rank c.self.inside.lists.items c.tell.new.lists c.self.inside.room c.self.invariant (c.home_of-home.ensures.home ∙ ap (λ n. home_of n c.args.rank.0) (c.len.ensures ∙ c.self.inside.lists.ok.0)) (subst (λ n. c.home_of-home.result < n) (c.len.ensures ∙ c.self.inside.lists.ok.0) c.home_of-home.ensures.within) (subst (λ (s : Subtrees). map.get s.promises (c.args.dir, c.args.frag) ≡ Some c.args.rank) (sym c.self.view_is) c.requires) (subst (λ (ls : List ListRows). AreEach (Hears (c.args.dir, c.args.frag) c.home_of-home.result (Handed c.args.rank)) ls c.tell.new.lists) c.deref_mut.ensures.value c.tell.ensures))).valid

pub returns-clause-roots : goal.returns-clause-roots
returns-clause-roots c =
    let many : length c.tell.new.lists ≡ length c.self.inside.lists.items = c.tell.ensures.many ∙ ap length c.deref_mut.ensures.value in
    (closing c.self.inside.lists c.self.inside.room c.args.self.now c.self.view_is c.tell.new.lists c.self.inside.room (λ (m : Roots). map.insert m (c.args.dir, c.args.frag) c.args.rank) (λ (m : Roots). map.remove m (c.args.dir, c.args.frag)) many
    (say_handed (c.args.dir, c.args.frag) c.home_of-home.result c.args.rank c.self.inside.lists.items c.tell.new.lists c.self.inside.room c.self.invariant (c.home_of-home.ensures.home ∙ ap (λ n. home_of n c.args.rank.0) (c.len.ensures ∙ c.self.inside.lists.ok.0)) (subst (λ n. c.home_of-home.result < n) (c.len.ensures ∙ c.self.inside.lists.ok.0) c.home_of-home.ensures.within) (subst (λ (s : Subtrees). map.get s.promises (c.args.dir, c.args.frag) ≡ Some c.args.rank) (sym c.self.view_is) c.requires) (subst (λ (ls : List ListRows). AreEach (Hears (c.args.dir, c.args.frag) c.home_of-home.result (Handed c.args.rank)) ls c.tell.new.lists) c.deref_mut.ensures.value c.tell.ensures))).roots

pub returns-clause-promises : goal.returns-clause-promises
returns-clause-promises c =
    let many : length c.tell.new.lists ≡ length c.self.inside.lists.items = c.tell.ensures.many ∙ ap length c.deref_mut.ensures.value in
    (closing c.self.inside.lists c.self.inside.room c.args.self.now c.self.view_is c.tell.new.lists c.self.inside.room (λ (m : Roots). map.insert m (c.args.dir, c.args.frag) c.args.rank) (λ (m : Roots). map.remove m (c.args.dir, c.args.frag)) many
    (say_handed (c.args.dir, c.args.frag) c.home_of-home.result c.args.rank c.self.inside.lists.items c.tell.new.lists c.self.inside.room c.self.invariant (c.home_of-home.ensures.home ∙ ap (λ n. home_of n c.args.rank.0) (c.len.ensures ∙ c.self.inside.lists.ok.0)) (subst (λ n. c.home_of-home.result < n) (c.len.ensures ∙ c.self.inside.lists.ok.0) c.home_of-home.ensures.within) (subst (λ (s : Subtrees). map.get s.promises (c.args.dir, c.args.frag) ≡ Some c.args.rank) (sym c.self.view_is) c.requires) (subst (λ (ls : List ListRows). AreEach (Hears (c.args.dir, c.args.frag) c.home_of-home.result (Handed c.args.rank)) ls c.tell.new.lists) c.deref_mut.ensures.value c.tell.ensures))).promises
