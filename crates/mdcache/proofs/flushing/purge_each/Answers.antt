use Rattle.mdcache.proofs.Common.{arith, state_of, sym, ◌∙◌}
use Rattle.mdcache.proofs.PurgedLaws.{no_names, purged_more}
use Rattle.mdcache.proofs.flushing.purge_each.Goals as goal

pub loop-tree-smaller : goal.loop-tree-smaller
loop-tree-smaller g c =
    (purged_more (state_of c.args.tree.now) (state_of c.loop-tree.tree) (state_of c.purge.new.self) c.loop-tree.invariant.purged (sym c.has_purges.ensures ∙ c.loop-tree-test.true) c.loop-tree.tree.faults c.purge.new.self.faults c.in_default.ensures.purged).1

pub loop-tree-preserved : goal.loop-tree-preserved
loop-tree-preserved g c =
    let counted = c.in_default.ensures.counted in
    let so_far = c.loop-tree.invariant.faults in
    record {
      purged = (purged_more (state_of c.args.tree.now) (state_of c.loop-tree.tree) (state_of c.purge.new.self) c.loop-tree.invariant.purged (sym c.has_purges.ensures ∙ c.loop-tree-test.true) c.loop-tree.tree.faults c.purge.new.self.faults c.in_default.ensures.purged).0;
      caches = c.in_default.ensures.caches ∙ c.loop-tree.invariant.caches;
      faults = omega (arith, counted, so_far);
      sound = c.in_default.ensures.sound;
    }

pub returns-clause-all : goal.returns-clause-all
returns-clause-all g c = no_names c.loop-tree.tree.purge (sym c.has_purges.ensures ∙ c.loop-tree-test.false)
