use Rattle.mdcache.proofs.Common.{Core, KeepsNone, subst, sym}
use Rattle.mdcache.proofs.ChangeSteps.{none_ended}
use Rattle.mdcache.proofs.mdcache.MdCache.end_leaf.Goals as goal

pub end-requires : goal.end-requires
end-requires g c = λ r. subst (λ (k : Core). KeepsNone k.caches) (sym c.self.view_is) c.requires.none r (c.args.dir, c.args.leaf)

pub returns-clause-none : goal.returns-clause-none
returns-clause-none g c =
    subst KeepsNone (sym c.end.ensures.ended) (none_ended c.self.inside.caches (c.args.dir, c.args.leaf) c.end.ensures.valid (subst (λ (k : Core). KeepsNone k.caches) (sym c.self.view_is) c.requires.none))
