use Rattle.dentry_cache.proofs.Common.{IsPlaceBehind, arith, subst, suc, sym, ◌+◌, ◌≡◌}
use Rattle.dentry_cache.proofs.LeafSetLaws.{behind_at, behind_gap}
use Rattle.dentry_cache.proofs.leaf_set.place_behind.Goals as goal

pub returns-in-Ok : goal.returns-in-Ok
returns-in-Ok c =
    let next : c.in-Ok.at + 1 ≡ suc c.in-Ok.at = omega arith in
    subst (IsPlaceBehind c.args.leaf.now c.args.leaves.now) (sym next) (behind_at c.args.leaf.now c.args.leaves.now c.in-Ok.at c.requires c.in-Ok.ensures.spot)

pub returns-in-Err : goal.returns-in-Err
returns-in-Err c = behind_gap c.args.leaf.now c.args.leaves.now c.in-Err.at c.in-Err.ensures.spot
