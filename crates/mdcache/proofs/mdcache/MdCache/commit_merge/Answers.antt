use Rattle.mdcache.proofs.Common.{Core, KeepsNone, KeepsOnlyAt, None, Some, leaf_of, subst, sym, ◌≡◌}
use Rattle.std.specs.FinMap as map
use Rattle.mdcache.proofs.ChangeSteps.{filled_none}
use Rattle.mdcache.proofs.mdcache.MdCache.commit_merge.Goals as goal

pub end_leaves-requires-clause-none : goal.end_leaves-requires-clause-none
end_leaves-requires-clause-none g c =
    subst KeepsNone (sym c.fill.ensures) (filled_none c.self.inside.caches c.args.at.now _ (subst (λ (k : Core). KeepsOnlyAt (Some (c.args.at.now.rank, (leaf_of c.args.at.now))) k.caches) (sym c.self.view_is) c.requires.only)
    (subst (λ (k : Core). map.get k.caches.held (leaf_of c.args.at.now) ≡ None) (sym c.self.view_is) c.requires.ready.kept.1))

pub returns-clause-none : goal.returns-clause-none
returns-clause-none g c = subst (λ (k : Core). KeepsNone k.caches) (sym c.self-2.view_is) c.end_leaves.ensures.none
