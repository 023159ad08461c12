use Rattle.cluster_core.proofs.Common.{DirPins, IsNextPinned, None, Some, arith, rules, sight_of, subst}
use Rattle.cluster_core.proofs.DirWalkLaws.{fewer_dirs, pinned_found, pinned_none, pinned_passed}
use Rattle.cluster_core.proofs.pinned_away.first_pinned.Goals as goal

pub loop-dir-init : goal.loop-dir-init
loop-dir-init g c = λ grants leaf to pinned away. tt

pub returns-then-is_some : goal.returns-then-is_some
returns-then-is_some g c = λ grants.
    pinned_found (sight_of c.args.tree.now grants c.args.ranks c.args.rank) c.loop-dir.after c.in-Some.dir c.first_of_dir-first.result (c.loop-dir.invariant grants) (subst (λ (p : DirPins). IsNextPinned p c.loop-dir.after (Some c.in-Some.dir)) c.dirs.ensures.pins c.in-Some.ensures) (c.first_of_dir-first.ensures grants) (search rules)

pub loop-dir-smaller : goal.loop-dir-smaller
loop-dir-smaller g c = fewer_dirs c.loop-dir.after c.in-Some.dir (subst (λ (p : DirPins). IsNextPinned p c.loop-dir.after (Some c.in-Some.dir)) c.dirs.ensures.pins c.in-Some.ensures).1 (omega arith)

pub loop-dir-preserved : goal.loop-dir-preserved
loop-dir-preserved g c = λ grants.
    pinned_passed (sight_of c.args.tree.now grants c.args.ranks c.args.rank) c.loop-dir.after c.in-Some.dir c.first_of_dir-first.result (c.loop-dir.invariant grants) (subst (λ (p : DirPins). IsNextPinned p c.loop-dir.after (Some c.in-Some.dir)) c.dirs.ensures.pins c.in-Some.ensures) (c.first_of_dir-first.ensures grants) (search rules)

pub returns : goal.returns
returns g c = λ grants.
    pinned_none (sight_of c.args.tree.now grants c.args.ranks c.args.rank) c.loop-dir.after (c.loop-dir.invariant grants) (subst (λ (p : DirPins). IsNextPinned p c.loop-dir.after None) c.dirs.ensures.pins c.in_default.ensures)
