use Rattle.mdcache.proofs.Common.{List, ap, leaves_of, rules, subst, sym, with_tree_at, ℕ, ◌∙◌, ◌≡◌}
use Rattle.std.specs.FinMap as map
use Rattle.mdcache.proofs.BesideLaws.{faults_sound, tree_done}
use Rattle.mdcache.proofs.mdcache.MdCache.commit_tree.Goals as goal

pub returns-in-Err-clause-sound : goal.returns-in-Err-clause-sound
returns-in-Err-clause-sound g c = faults_sound c.args.self.now _ c.self.view_is c.requires (g.S.Store.objects c.save_tree.new.store) (g.S.Store.faults c.save_tree.new.store) c.in-Err.ensures.same

pub returns : goal.returns
returns g c = search (
  rules,
  tree_done c.args.self.now _ c.self.view_is c.requires c.args.dir (g.S.Store.objects c.save_tree.new.store) c.remove.new.self.names (g.S.Store.faults c.save_tree.new.store) (record { dirs = c.self.inside.dirs.room; jobs = c.self.inside.jobs.room; purge = c.remove.new.self.room }) (sym c.contains.ensures.known ∙ c.if-not-contains.false)
      (subst (λ (text : List ℕ). g.S.Store.objects c.save_tree.new.store ≡ with_tree_at (g.S.Store.objects c.self.inside.store) text (leaves_of c.self.inside.dirs.trees c.args.dir.0)) (c.as_str.ensures ∙ c.of-text.ensures) c.in_default.ensures.saved)
      (c.remove.ensures.removed ∙ ap (map.remove c.self.inside.purge.names) c.of-listed.ensures),
)
