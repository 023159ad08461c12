use Rattle.mdcache.proofs.Common.{IsColdTree, ap, on_ok_weaker, state_of, subst, unclean, ◌∙◌}
use Rattle.mdcache.proofs.FlushSteps.{purged_are_flushed}
use Rattle.mdcache.proofs.FlushedLaws.{flushed_is_cold, purged_are_exact}
use Rattle.mdcache.proofs.KeptTree.{steps_keep_tree}
use Rattle.mdcache.proofs.mdcache.MdCache.flush_objects.Goals as goal

pub returns-in-Ok-clause-flushed : goal.returns-in-Ok-clause-flushed
returns-in-Ok-clause-flushed g c =
    let clean = ap unclean c.in-Ok.ensures.caches ∙ c.requires.clean in
    on_ok_weaker c.purge_all.result (purged_are_flushed (state_of c.save_trees.new.self) (state_of c.purge_all.new.self) clean c.in-Ok.ensures.all c.purge_all.ensures.purged c.purge_all.ensures.sound.sound) c.purge_all.ensures.all

pub returns-in-Ok-clause-cold : goal.returns-in-Ok-clause-cold
returns-in-Ok-clause-cold g c =
    let tree = c.purge_all.ensures.tree.tree ∙ c.in-Ok.ensures.tree.tree in
    on_ok_weaker c.purge_all.result (λ flushed. subst (IsColdTree c.purge_all.new.self.objects) tree (flushed_is_cold (state_of c.purge_all.new.self) c.purge_all.ensures.sound.sound flushed)) (returns-in-Ok-clause-flushed g c)

pub returns-in-Ok-clause-exact : goal.returns-in-Ok-clause-exact
returns-in-Ok-clause-exact g c =
    let clean = ap unclean c.in-Ok.ensures.caches ∙ c.requires.clean in
    let flushed = purged_are_flushed (state_of c.save_trees.new.self) (state_of c.purge_all.new.self) clean c.in-Ok.ensures.all c.purge_all.ensures.purged c.purge_all.ensures.sound.sound in
    on_ok_weaker c.purge_all.result (λ none. purged_are_exact (state_of c.purge_all.new.self) c.purge_all.ensures.sound.sound (flushed none) none) c.purge_all.ensures.all

pub returns-in-Ok-clause-tree : goal.returns-in-Ok-clause-tree
returns-in-Ok-clause-tree g c = steps_keep_tree c.args.self.now c.save_trees.new.self c.purge_all.new.self c.in-Ok.ensures.tree c.purge_all.ensures.tree
