use Rattle.mdcache.proofs.Common.{IfSome, List, Option, ap, option_copied, rules, subst, sym, ℕ, ◌∙◌, ◌≡◌}
use Rattle.std.specs.FinMap as map
use Rattle.mdcache.proofs.BesideLaws.{faults_sound, purge_done}
use Rattle.mdcache.proofs.mdcache.MdCache.purge.Goals as goal

pub returns-in-Err-clause-sound : goal.returns-in-Err-clause-sound
returns-in-Err-clause-sound g c = faults_sound c.args.self.now _ c.self.view_is c.requires (g.S.Store.objects c.remove.new.self) (g.S.Store.faults c.remove.new.self) c.in-Err.ensures.same

pub returns : goal.returns
returns g c = search (
  rules,
  purge_done c.args.self.now _ c.self.view_is c.requires c.in-Some.name.now (g.S.Store.objects c.remove.new.self) c.remove_first.new.self.names (g.S.Store.faults c.remove.new.self) (record { dirs = c.self.inside.dirs.room; jobs = c.self.inside.jobs.room; purge = c.remove_first.new.self.room }) (sym c.first.ensures ∙ ap option_copied c.in-Some.is) (c.in_default-remove.ensures.done ∙ ap (map.remove (g.S.Store.objects c.self.inside.store)) (c.as_str.ensures ∙ c.text-text.ensures))
      (subst (λ (o : Option (List ℕ)). IfSome o (λ (name : List ℕ). c.remove_first.new.self.names ≡ map.remove c.self.inside.purge.names name)) (sym c.first.ensures ∙ ap option_copied c.in-Some.is) c.remove_first.ensures.removed) c.args.self.now.faults (g.S.Store.faults c.remove.new.self),
)
