use Rattle.dentry_cache.proofs.UsedLaws.{is_used}
use Rattle.dentry_cache.proofs.Common.{AreTold, Held, subst, sym}
use Rattle.dentry_cache.proofs.CandidateSteps.{told_promoted}
use Rattle.dentry_cache.proofs.cache.Cache.touch.Goals as goal

pub returns : goal.returns
returns c = is_used (c.args.dir, c.args.frag) c.args.self.now _ _ _ c.self.view_is c.touch.ensures.value c.touch.ensures.entries

pub invariant_of-self : goal.invariant_of-self
invariant_of-self c =
    subst (λ (h : Held). AreTold h.entries c.self.inside.candidates) (sym c.touch.ensures.entries) (told_promoted (c.args.dir, c.args.frag) c.self.inside.places c.self.inside.candidates c.self.invariant)
