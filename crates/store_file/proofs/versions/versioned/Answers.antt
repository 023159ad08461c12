use Rattle.std.proofs.Common.{arith, subst, sym}
use Rattle.sqlite_trees.specs.View.{IsClean}
use Rattle.sqlite_store.specs.FileStore.{view}
use Rattle.kept_store.specs.Kept.{IsFreshMirror}
use Rattle.store_file.proofs.versions.versioned.Goals.{then-has_sums+then-version-ne-VERSION+in_ok-set_version, else-has_sums}
use Rattle.store_file.proofs.versions.versioned.Goals as goal

pub returns : goal.returns
returns g c clean =
    let mid = c.if-has_sums.store in
    let before : IsClean (view mid) = omega (arith, c.checkpoint.ensures.quiet.clean) in
    let fresh : IsClean (view mid) → IsFreshMirror (view mid) = elim c.if-has_sums.branch [
      | then-has_sums+then-version-ne-VERSION+in_ok-set_version w ↦ subst (λ s. IsClean (view s) → IsFreshMirror (view s)) (sym w.store-is) w.in_ok-set_version.ensures
      | else-has_sums w ↦ subst (λ s. IsClean (view s) → IsFreshMirror (view s)) (sym w.store-is) c.requires
    ] in
    subst IsFreshMirror (sym (c.checkpoint.ensures.same (c.in_ok-checkpoint.ensures.open clean))) (fresh before)
