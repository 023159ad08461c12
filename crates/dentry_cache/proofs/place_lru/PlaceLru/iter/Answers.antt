use Rattle.std.proofs.Common.{List, length, subst, sym, ◌<◌, ℕ}
use Rattle.std.specs.List.{AllByRecursion}
use Rattle.dentry_cache.specs.Cache.{Leaf}
use Rattle.dentry_cache.specs.declared.place_lru.Slot.{Slot}
use Rattle.dentry_cache.proofs.SlotLaws.{each_found}
use Rattle.dentry_cache.proofs.place_lru.PlaceLru.iter.Goals as goal

pub invariant_of-result : goal.invariant_of-result
invariant_of-result c =
    let slots = c.self.inside.slots.items in
    subst (λ (l : List Slot). AllByRecursion (λ e. e.1 < length l) c.iter.result) (sym c.deref.ensures.value)
    (subst (λ (es : List (Leaf × ℕ)). AllByRecursion (λ e. e.1 < length slots) es) (sym c.iter.ensures.rest) (each_found slots (λ leaf i. i < length slots) c.self.inside.order.entries c.len.ensures.valid.0 c.self.invariant.within))
