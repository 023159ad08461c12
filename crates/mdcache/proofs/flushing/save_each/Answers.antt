-- Each turn saves the tree of the first directory that is left.
use Rattle.mdcache.proofs.Common.{Core, MayRefuse, all_trees, ap, arith, inl, refl, slice_get, state_of, subst, sym, trees_after, ◌∙◌}
use Rattle.mdcache.proofs.CoverRows.{known_by_row}
use Rattle.mdcache.proofs.SavedTreeLaws.{all_saved, no_first, saved_none, turn, turn_refused}
use Rattle.mdcache.proofs.flushing.save_each.Goals as goal

pub loop-dir-init : goal.loop-dir-init
loop-dir-init g c = record {
  saved = saved_none (state_of c.args.tree.now);
  done = λ d row. inl (all_trees c.args.tree.now.homes c.args.tree.now.covers d.0 (known_by_row c.args.tree.now.homes c.args.tree.now.covers c.requires.sound.table d.0 row) row);
  caches = refl;
  faults = refl;
  idle = λ none. refl;
  sound = c.requires;
}

pub returns-in-Err-clause-refused : goal.returns-in-Err-clause-refused
returns-in-Err-clause-refused g c =
    let first = (λ i. slice_get (trees_after (sym c.dirs.ensures.homes i) (sym c.dirs.ensures.trees i) c.loop-dir.last) 0) ∙ sym c.in-Some.ensures in
    subst (λ n. MayRefuse n c.commit_tree.new.self.faults c.in-Err.reason) c.loop-dir.invariant.faults
    (turn_refused (state_of c.loop-dir.tree) c.loop-dir.invariant.sound.sound c.loop-dir.last c.in-Some.dir first (state_of c.commit_tree.new.self) c.loop-dir.tree.faults c.commit_tree.new.self.faults c.in-Err.reason c.in-Err.ensures.saved)

pub returns-in-Err-clause-idle : goal.returns-in-Err-clause-idle
returns-in-Err-clause-idle g c = λ none.
    let first = (λ i. slice_get (trees_after (sym c.dirs.ensures.homes i) (sym c.dirs.ensures.trees i) c.loop-dir.last) 0) ∙ sym c.in-Some.ensures in
    absurd (no_first (state_of c.loop-dir.tree) c.loop-dir.last c.in-Some.dir first (ap (λ (t : Core). t.covers) (c.loop-dir.invariant.idle none) ∙ none))

pub returns-clause-idle : goal.returns-clause-idle
returns-clause-idle g c = λ none. (refl, c.loop-dir.invariant.idle none)

pub loop-dir-smaller : goal.loop-dir-smaller
loop-dir-smaller g c =
    let first = (λ i. slice_get (trees_after (sym c.dirs.ensures.homes i) (sym c.dirs.ensures.trees i) c.loop-dir.last) 0) ∙ sym c.in-Some.ensures in
    (turn (state_of c.loop-dir.tree) c.loop-dir.invariant.sound.sound c.loop-dir.last c.in-Some.dir first (state_of c.commit_tree.new.self) c.loop-dir.tree.faults c.commit_tree.new.self.faults c.in_default-commit_tree.ensures.saved
    (state_of c.args.tree.now) c.loop-dir.invariant.saved c.loop-dir.invariant.done).2

pub loop-dir-preserved : goal.loop-dir-preserved
loop-dir-preserved g c =
    let first = (λ i. slice_get (trees_after (sym c.dirs.ensures.homes i) (sym c.dirs.ensures.trees i) c.loop-dir.last) 0) ∙ sym c.in-Some.ensures in
    let its = turn (state_of c.loop-dir.tree) c.loop-dir.invariant.sound.sound c.loop-dir.last c.in-Some.dir first (state_of c.commit_tree.new.self) c.loop-dir.tree.faults c.commit_tree.new.self.faults c.in_default-commit_tree.ensures.saved
    (state_of c.args.tree.now) c.loop-dir.invariant.saved c.loop-dir.invariant.done in
    let counted = c.in_default-commit_tree.ensures.counted in
    let so_far = c.loop-dir.invariant.faults in
    record {
      saved = its.0;
      done = its.1;
      caches = c.in_default-commit_tree.ensures.caches ∙ c.loop-dir.invariant.caches;
      faults = omega (arith, counted, so_far);
      idle = λ none. absurd (no_first (state_of c.loop-dir.tree) c.loop-dir.last c.in-Some.dir first (ap (λ (t : Core). t.covers) (c.loop-dir.invariant.idle none) ∙ none));
      sound = c.in_default-commit_tree.ensures.sound;
    }

pub returns-clause-all : goal.returns-clause-all
returns-clause-all g c =
    all_saved (state_of c.loop-dir.tree) c.loop-dir.last ((λ i. slice_get (trees_after (sym c.dirs.ensures.homes i) (sym c.dirs.ensures.trees i) c.loop-dir.last) 0) ∙ sym c.in_default.ensures) c.loop-dir.invariant.done
