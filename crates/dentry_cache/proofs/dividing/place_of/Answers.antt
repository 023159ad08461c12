use Rattle.dentry_cache.proofs.Common.{ap, hash_of, span, ℕ, ◌+◌, ◌∙◌}
use Rattle.dentry_cache.proofs.NameParts.{child_place, no_place}
use Rattle.dentry_cache.proofs.dividing.place_of.Goals as goal

pub returns-in-Some : goal.returns-in-Some
returns-in-Some c =
    child_place c.args.frag c.args.nb (hash_of c.args.name.now) _ _ _ c.in-Some.place (c.rjenkins.ensures ∙ ap hash_of c.as_bytes.ensures.bytes) c.value.ensures.value (c.span-size.ensures.value ∙ ap (λ (b : ℕ). span (b + c.args.nb)) c.bits.ensures.bits) c.in-Some.ensures.0 c.in-Some.ensures.1

pub returns-in-None : goal.returns-in-None
returns-in-None c = no_place c.args.frag c.args.nb (hash_of c.args.name.now) _ _ _ (c.rjenkins.ensures ∙ ap hash_of c.as_bytes.ensures.bytes) c.value.ensures.value (c.span-size.ensures.value ∙ ap (λ (b : ℕ). span (b + c.args.nb)) c.bits.ensures.bits) c.in-None.ensures
