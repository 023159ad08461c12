-- The leaves that aren't clean, as the caches list them.
use Rattle.std.specs.FinMap as map
use Rattle.mdcache.proofs.Common.{AllByRecursion, AreOfOtherLeaves, AreCaches, Core, IsUncleanAt, ap, leaves_of_places, length, subst, sym, unclean, unclean_places, ◌∙◌, ◌≤◌}
use Rattle.mdcache.proofs.PlacesLaws.{listed_all, listed_apart, listed_unclean}
use Rattle.mdcache.proofs.mdcache.MdCache.unclean_leaves.Goals as goal

pub returns-in-Ok : goal.returns-in-Ok
returns-in-Ok g c =
    let same = ap (λ (k : Core). k.caches) c.self.view_is in
    let leaves = c.in-Ok.ensures.leaves ∙ ap unclean_places same in
    let valid = subst AreCaches same c.in-Ok.ensures.valid in
    record {
      unclean = subst (AllByRecursion (IsUncleanAt c.args.self.now.caches)) (sym leaves) (listed_unclean c.args.self.now.caches);
      apart = subst (λ ls. AreOfOtherLeaves (leaves_of_places ls)) (sym leaves) (listed_apart c.args.self.now.caches valid);
      all = subst (λ ls. map.len (unclean c.args.self.now.caches) ≤ length ls) (sym leaves) (listed_all c.args.self.now.caches valid);
      refused = tt;
    }
