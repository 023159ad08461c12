use Rattle.dentry_cache.proofs.Common.{Cached, IsCleanedOf, ap, cached, option_copied_mut, refl, sym, ◌∙◌, ◌≤◌}
use Rattle.std.specs.FinMap as map
use Rattle.dentry_cache.proofs.EditLaws.{there_with, written}
use Rattle.dentry_cache.proofs.CandidateSteps.{same_size, told_value}
use Rattle.dentry_cache.proofs.cache.Cache.settle.Goals as goal

pub returns : goal.returns
returns c =
    written (c.args.dir, c.args.frag) c.args.self.now c.self.inside.places c.self.view_is (IsCleanedOf c.args.names.now c.args.version) (cached c.args.self.now.entries (c.args.dir, c.args.frag)) c.in-Some.place.now _ refl
    (there_with (λ (f : Cached). map.len c.args.names.now ≤ f.places) (cached c.args.self.now.entries (c.args.dir, c.args.frag)) c.requires) (ap option_copied_mut (sym c.in-Some.is) ∙ c.peek_mut.ensures.value)
    (record { based = c.settle.ensures.base; generation = c.settle.ensures.generation; dirty = c.settle.ensures.dirty; shown = c.settle.ensures.shown })

pub invariant_of-self-2 : goal.invariant_of-self-2
invariant_of-self-2 c =
    told_value (c.args.dir, c.args.frag) c.self.inside.places.entries c.in-Some.place.now _ c.self.inside.candidates c.self.invariant (ap option_copied_mut (sym c.in-Some.is) ∙ c.peek_mut.ensures.value)
    (same_size c.in-Some.place.now c.settle.new.self c.settle.ensures.shown)
