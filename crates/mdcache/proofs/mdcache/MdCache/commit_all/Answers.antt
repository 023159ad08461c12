-- All that wasn't clean was listed, and each that was listed is clean.
use Rattle.std.specs.FinMap as map
use Rattle.mdcache.proofs.Common.{Dirfrag, List, ap, arith, empty_of_len, length, on_ok_weaker, unclean, ◌+◌, ◌≡◌, ◌≤◌}
use Rattle.mdcache.proofs.KeptTree.{kept_itself}
use Rattle.mdcache.proofs.mdcache.MdCache.commit_all.Goals as goal

pub returns-in-Err-clause-tree : goal.returns-in-Err-clause-tree
returns-in-Err-clause-tree g c = kept_itself c.args.self.now

pub returns-clause-clean : goal.returns-clause-clean
returns-clause-clean g c =
    let same : length c.as_slice.result.now ≡ length c.in-Ok.leaves.items = ap (λ (l : List Dirfrag). length l) c.as_slice.ensures.value in
    let all : map.len (unclean c.args.self.now.caches) ≤ length c.in-Ok.leaves.items = c.in-Ok.ensures.all in
    on_ok_weaker c.commit_listed-done.result
    (λ (fewer : map.len (unclean c.commit_listed-done.new.self.caches) + length c.as_slice.result.now ≡ map.len (unclean c.args.self.now.caches)). empty_of_len (unclean c.commit_listed-done.new.self.caches) (omega (arith, fewer, same, all)))
    c.commit_listed-done.ensures.fewer
