use Rattle.std.proofs.Common.{List, ap, length, subst, sym, [], ◌++◌, ◌<◌, ◌∙◌, ◌∷◌, ℕ}
use Rattle.std.specs.List.{AllByRecursion}
use Rattle.std.specs.Map.Iter.{TakesLast, deref_pair}
use Rattle.dentry_cache.specs.Cache.{Leaf}
use Rattle.dentry_cache.specs.Slots.{places_in}
use Rattle.dentry_cache.specs.declared.place_lru.Slot.{Slot}
use Rattle.dentry_cache.proofs.SlotLaws.{last_placed, last_within}
use Rattle.std.proofs.lemmas.List.{get_or_default}
use Rattle.dentry_cache.proofs.place_iters.PlaceIterDoubleEndedIterator.next_back.Goals as goal
use Rattle.dentry_cache.proofs.place_iters.PlaceIterDoubleEndedIterator.next_back.Goals.{in-Some, in-None}

pub returns-clause-steps : goal.returns-clause-steps
returns-clause-steps c = elim c.match-next_back.branch [
  | in-Some w ↦
      let slots = c.self.inside.slots.now in
      let left = c.next_back.new.self in
      let e : Leaf × ℕ = (w.in-Some.leaf.now, w.in-Some.slot.now) in
      let within : e.1 < length slots = last_within slots left e (subst (λ (es : List (Leaf × ℕ)). AllByRecursion (λ x. x.1 < length slots) es) w.in-Some.ensures.steps c.self.invariant) in
      subst (λ r. TakesLast deref_pair c.args.self.now r (places_in slots left)) (sym w.result-is)
      (rw (← c.self.view_is) (ap (places_in slots) w.in-Some.ensures.steps ∙ last_placed slots left e
      ∙ ap (λ (s : Slot). places_in slots left ++ (e.0, s.place) ∷ []) (sym (get_or_default slots e.1 w.index-slots-slot.result _ within))))
  | in-None w ↦
      subst (λ r. TakesLast deref_pair c.args.self.now r (places_in c.self.inside.slots.now c.next_back.new.self)) (sym w.result-is)
      (rw (← c.self.view_is) (ap (places_in c.self.inside.slots.now) w.in-None.ensures.steps.0, ap (places_in c.self.inside.slots.now) w.in-None.ensures.steps.1))
]
