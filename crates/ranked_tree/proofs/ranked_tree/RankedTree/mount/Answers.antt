-- The roots are those of the tree that was found.
use Rattle.ranked_tree.proofs.Common.{AreTopRoots, Covers, IsOwned, Subtrees, ap, contents, dentry_cmp, subst, sym}
use Rattle.ranked_tree.proofs.StandLaws.{stand_none}
use Rattle.ranked_tree.proofs.MountedRoots.{mounted_owned}
use Rattle.ranked_tree.proofs.ranked_tree.RankedTree.mount.Goals as goal

pub invariant_of-result : goal.invariant_of-result
invariant_of-result g c =
    let top = subst (λ (cs : Covers). AreTopRoots cs c.in-Ok-top_roots.roots.roots) c.dirs.ensures.trees c.in-Ok-top_roots.ensures in
    stand_none c.in-Ok.tree c.new-regions.result c.new-regions.ensures.exports (subst (IsOwned c.in-Ok.tree) (ap (λ (s : Subtrees). s.roots) (sym c.new-regions.ensures.roots))
    (mounted_owned c.args.limit _ c.args.ranks c.args.places c.requires.some (contents dentry_cmp c.in-Ok.opening.entries) c.in-Ok.tree c.in-Ok-top_roots.roots.roots c.in-Ok.ensures.sound top c.in-Ok.ensures.mounted))
