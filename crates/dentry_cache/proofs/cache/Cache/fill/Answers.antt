use Rattle.dentry_cache.proofs.Common.{AreTold, Held, ap, held, leaf_is, option_copied_mut, rules, set_value, lru_cache, subst, sym, ◌∙◌}
use Rattle.std.specs.Map.{lookup}
use Rattle.dentry_cache.proofs.UsedLaws.{filled, found_promoted}
use Rattle.dentry_cache.proofs.SlotLaws.{never_gone}
use Rattle.dentry_cache.proofs.CandidateSteps.{resized_kept}
use Rattle.dentry_cache.proofs.cache.Cache.fill.Goals as goal

pub unreachable-requires-in_default : goal.unreachable-requires-in_default
unreachable-requires-in_default c =
    never_gone (c.args.dir, c.args.frag) c.self.inside.places c.touch.result c.touch.ensures.value c.if-not-touch.false
    (ap option_copied_mut (sym c.in_default.is) ∙ c.peek_mut.ensures.value ∙ ap (λ (h : Held). lookup (leaf_is (c.args.dir, c.args.frag)) h.entries) c.touch.ensures.entries ∙ found_promoted (c.args.dir, c.args.frag) c.self.inside.places.entries)

pub returns : goal.returns
returns c =
    ap (λ (h : Held). lru_cache (set_value (leaf_is (c.args.dir, c.args.frag)) h.entries (held c.args.fragment)) h.cap) c.touch.ensures.entries
    ∙ filled (c.args.dir, c.args.frag) c.args.self.now c.self.inside.places c.self.view_is c.requires (held c.args.fragment)

pub resize-requires : goal.resize-requires
resize-requires c =
    resized_kept (c.args.dir, c.args.frag) (held c.args.fragment) c.args.self.now _ c.self.inside.candidates _ (subst (λ (h : Held). AreTold h.entries c.self.inside.candidates) c.self.view_is c.self.invariant) c.requires
    (ap (λ (h : Held). lru_cache (set_value (leaf_is (c.args.dir, c.args.frag)) h.entries (held c.args.fragment)) h.cap) c.touch.ensures.entries
    ∙ filled (c.args.dir, c.args.frag) c.args.self.now c.self.inside.places c.self.view_is c.requires (held c.args.fragment)) (search rules)
