use Rattle.mdcache.proofs.Common.{AreNumbers, IfOk-weaker, IsColdTree, Objects, inl, rules, shown_in, subst, sym, ◌∙◌, ◌≡◌}
use Rattle.std.specs.FinMap as map
use Rattle.mdcache.proofs.EmptyLaws.{none_if_not}
use Rattle.mdcache.proofs.MountLaws.{mounted_cold, mounted_core, mounted_shows, new_shows, ok_both}
use Rattle.mdcache.proofs.mdcache.MdCache.mount.Goals as goal

pub mount_new-requires-clause-empty : goal.mount_new-requires-clause-empty
mount_new-requires-clause-empty g c = c.in-Ok-false.ensures.same ∙ none_if_not (g.S.Store.objects c.args.store) c.in-Ok-false.field-0 c.in-Ok-false.ensures.found c.in-Ok-false.field-0-test

-- a store that was walked
pub returns-in-Ok : goal.returns-in-Ok
returns-in-Ok g c =
    let same : g.S.Store.objects c.walk.new.store ≡ g.S.Store.objects c.args.store = c.in-Ok.ensures.same ∙ c.in-Ok-true.ensures.same in
    record {
      mounted = search rules;
      cold = IfOk-weaker c.mount_walked.result _ _ (λ m made. subst (λ (o : Objects). IsColdTree o (shown_in m.0)) same (mounted_cold c.args.limit _ c.args.ranks c.args.places _ m.0 made)) c.mount_walked.ensures.made;
      opening = IfOk-weaker c.mount_walked.result _ _ (λ m made. sym (mounted_shows c.args.limit _ c.args.ranks c.args.places _ m.0 made)) c.mount_walked.ensures.made;
      numbers = ok_both c.mount_walked.result (λ m made numbers. subst (λ t. AreNumbers t c.args.ranks m.1.numbers.items) (sym (mounted_shows c.args.limit _ c.args.ranks c.args.places _ m.0 made)) numbers)
          c.mount_walked.ensures.made c.mount_walked.ensures.numbers;
      sound = IfOk-weaker c.mount_walked.result _ _ (λ m made. mounted_core c.args.limit _ c.args.ranks c.args.places _ m.0 made) c.mount_walked.ensures.made;
      faults = search rules;
      refused = search rules;
      left = search rules;
      counted = search rules;
    }

-- a store that has no object
pub returns-in-Ok-false : goal.returns-in-Ok-false
returns-in-Ok-false g c =
    let none : g.S.Store.objects c.args.store ≡ map.empty = none_if_not (g.S.Store.objects c.args.store) c.in-Ok-false.field-0 c.in-Ok-false.ensures.found c.in-Ok-false.field-0-test in
    record {
      mounted = IfOk-weaker c.mount_new.result _ _ (λ m made. inl (none, made)) c.mount_new.ensures.made;
      cold = IfOk-weaker c.mount_new.result _ _ (λ m made. inl (none, new_shows c.args.limit c.args.ranks c.args.places _ m.0 made)) c.mount_new.ensures.made;
      opening = IfOk-weaker c.mount_new.result _ _ (λ m made. made.none ∙ sym (new_shows c.args.limit c.args.ranks c.args.places _ m.0 made)) c.mount_new.ensures.made;
      numbers = ok_both c.mount_new.result (λ m made numbers. subst (λ t. AreNumbers t c.args.ranks m.1.numbers.items) (made.none ∙ sym (new_shows c.args.limit c.args.ranks c.args.places _ m.0 made)) numbers)
          c.mount_new.ensures.made c.mount_new.ensures.numbers;
      sound = search rules;
      faults = search rules;
      refused = search rules;
      left = search rules;
      counted = search rules;
    }
