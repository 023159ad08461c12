use Rattle.dentry_cache.proofs.Common.{Cached, ap, cached, on_ok_weaker, option_copied_mut, refl, shown_names, sym, ◌∙◌, ◌≤◌}
use Rattle.dentry_cache.proofs.CommitSteps.{OnlyPlaces}
use Rattle.dentry_cache.proofs.EditLaws.{written, written_now}
use Rattle.dentry_cache.proofs.CandidateSteps.{same_size, told_value}
use Rattle.dentry_cache.proofs.cache.Cache.reserve_settled.Goals as goal

pub returns-clause-same : goal.returns-clause-same
returns-clause-same c =
    written (c.args.dir, c.args.frag) c.args.self.now c.self.inside.places c.self.view_is OnlyPlaces (cached c.args.self.now.entries (c.args.dir, c.args.frag)) c.in-Some.place.now _ refl
    c.requires (ap option_copied_mut (sym c.in-Some.is) ∙ c.peek_mut.ensures.value) c.reserve_settled.ensures.same

pub returns-clause-room : goal.returns-clause-room
returns-clause-room c =
    on_ok_weaker c.reserve_settled.result (λ room.
    written_now (λ (f now : Cached). c.args.names ≤ now.places) (λ (f : Cached). c.args.names ≤ f.places) (c.args.dir, c.args.frag) c.args.self.now _ (λ f now seen fits. fits)
    (written (c.args.dir, c.args.frag) c.args.self.now c.self.inside.places c.self.view_is (λ (f now : Cached). c.args.names ≤ now.places) (cached c.args.self.now.entries (c.args.dir, c.args.frag)) c.in-Some.place.now _ refl
    c.requires (ap option_copied_mut (sym c.in-Some.is) ∙ c.peek_mut.ensures.value) room)) c.reserve_settled.ensures.ok

pub invariant_of-self-2 : goal.invariant_of-self-2
invariant_of-self-2 c =
    told_value (c.args.dir, c.args.frag) c.self.inside.places.entries c.in-Some.place.now _ c.self.inside.candidates c.self.invariant (ap option_copied_mut (sym c.in-Some.is) ∙ c.peek_mut.ensures.value)
    (same_size c.in-Some.place.now c.reserve_settled.new.self (ap shown_names c.reserve_settled.ensures.same))
