use Rattle.dentry_cache.proofs.Common.{Cached, HasCached, Held, Option, Some, ap, cached, fragment_in, leaf_is, on_ok_weaker, option_copied_mut, refl, shown_names, subst, sym, ◌∙◌, ◌≡◌, ◌≤◌}
use Rattle.std.specs.Map.{lookup}
use Rattle.dentry_cache.specs.declared.cache.Place.{Place}
use Rattle.dentry_cache.proofs.SlotLaws.{cached_in}
use Rattle.dentry_cache.proofs.EditLaws.{written}
use Rattle.dentry_cache.proofs.CandidateSteps.{same_size, told_value}
use Rattle.dentry_cache.proofs.cache.Cache.reserve.Goals as goal

pub returns-clause-same : goal.returns-clause-same
returns-clause-same c =
    written (c.args.dir, c.args.frag) c.args.self.now c.self.inside.places c.self.view_is (λ (f now : Cached). (now ≡ record f { room = now.room }) × (f.room ≤ now.room)) (cached c.args.self.now.entries (c.args.dir, c.args.frag)) c.in-Some.place.now _ refl
    c.requires (ap option_copied_mut (sym c.in-Some.is) ∙ c.peek_mut.ensures.value) (c.reserve.ensures.same, c.reserve.ensures.grows)

pub returns-clause-room : goal.returns-clause-room
returns-clause-room c =
    on_ok_weaker c.reserve.result (λ room.
    written (c.args.dir, c.args.frag) c.args.self.now c.self.inside.places c.self.view_is (λ (f now : Cached). c.args.changes ≤ now.room) (cached c.args.self.now.entries (c.args.dir, c.args.frag)) c.in-Some.place.now _ refl
    c.requires (ap option_copied_mut (sym c.in-Some.is) ∙ c.peek_mut.ensures.value) room) c.reserve.ensures.room

pub returns-clause-ready : goal.returns-clause-ready
returns-clause-ready c = λ has.
    let found : Some c.in-Some.place.now ≡ lookup (leaf_is (c.args.dir, c.args.frag)) c.self.inside.places.entries = ap option_copied_mut (sym c.in-Some.is) ∙ c.peek_mut.ensures.value in
    (c.reserve.ensures.ready (cached_in c.in-Some.place.now (λ (f : Cached). c.args.changes ≤ f.room) (subst (λ (o : Option Place). HasCached (fragment_in o) (λ (f : Cached). c.args.changes ≤ f.room)) (sym found)
    (subst (λ (h : Held). HasCached (cached h.entries (c.args.dir, c.args.frag)) (λ (f : Cached). c.args.changes ≤ f.room)) (sym c.self.view_is) has)))).0

pub invariant_of-self-2 : goal.invariant_of-self-2
invariant_of-self-2 c =
    told_value (c.args.dir, c.args.frag) c.self.inside.places.entries c.in-Some.place.now _ c.self.inside.candidates c.self.invariant (ap option_copied_mut (sym c.in-Some.is) ∙ c.peek_mut.ensures.value)
    (same_size c.in-Some.place.now c.reserve.new.self (ap shown_names c.reserve.ensures.same))
