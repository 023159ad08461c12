use Rattle.ranked_tree.proofs.Common.{Some, inl, inr, refl, rules, subst, ◌≡◌}
use Rattle.ranked_tree.proofs.EndedLaws.{FindsRoot, found_outside}
use Rattle.ranked_tree.proofs.ending_jobs.end_inside.Goals as goal

pub returns-then-eq-clause-ended : goal.returns-then-eq-clause-ended
returns-then-eq-clause-ended g c =
    let same : c.find_root.result ≡ Some c.args.root.now = search rules in
    inl (
      rw (← c.dirs.ensures.homes, ← c.dirs.ensures.trees) (subst (FindsRoot c.args.roots.now.roots c.args.root.now c.dirs.result.now.homes c.dirs.result.now.trees (c.args.dir, c.args.frag)) same c.find_root.ensures),
      c.end_job.ensures.state,
    )

pub returns-else-eq-clause-ended : goal.returns-else-eq-clause-ended
returns-else-eq-clause-ended g c =
    let apart : c.find_root.result ≡ Some c.args.root.now → ⊥ = search rules in
    inr (
      λ inside. found_outside c.args.roots.now.roots c.args.root.now c.dirs.result.now.homes c.dirs.result.now.trees (c.args.dir, c.args.frag) c.find_root.result c.find_root.ensures apart
          (rw (c.dirs.ensures.homes, c.dirs.ensures.trees) inside),
      refl,
    )
