use Rattle.std.proofs.Common.{List, Some, ap, option_map, subst, sym, ◌∙◌, ◌≡◌}
use Rattle.std.specs.Map.{lookup}
use Rattle.dentry_cache.specs.Cache.{leaf_is}
use Rattle.dentry_cache.specs.Slots.{AreSlotted}
use Rattle.dentry_cache.specs.declared.place_lru.Slot.{Slot}
use Rattle.dentry_cache.proofs.SlotLaws.{place_in, placed_there, read}
use Rattle.dentry_cache.proofs.place_lru.PlaceLru.peek.Goals as goal

pub index-requires : goal.index-requires
index-requires c =
    let its : lookup (leaf_is c.args.leaf.now) c.self.inside.order.entries ≡ Some c.in-Some.slot = sym c.slot_of.ensures ∙ c.in-Some.is in
    rw c.self.inside.slots.ok.0 (c.self.invariant.within _ _ its)

pub returns-in-Some : goal.returns-in-Some
returns-in-Some c =
    let slots = c.self.inside.slots.items in
    let its : lookup (leaf_is c.args.leaf.now) c.self.inside.order.entries ≡ Some c.in-Some.slot = sym c.slot_of.ensures ∙ c.in-Some.is in
    rw (← c.self.view_is)
    (ap (λ s. Some s.place) (read slots c.in-Some.slot c.index.result.now (c.self.invariant.within _ _ its) c.index.ensures)
    ∙ ap (option_map (place_in slots)) (sym its) ∙ sym (placed_there slots (leaf_is c.args.leaf.now) c.self.inside.order.entries))

pub returns-in-None : goal.returns-in-None
returns-in-None c =
    let slots = c.self.inside.slots.items in
    rw (← c.self.view_is)
    (ap (option_map (place_in slots)) (sym c.in-None.is ∙ c.slot_of.ensures) ∙ sym (placed_there slots (leaf_is c.args.leaf.now) c.self.inside.order.entries))

pub slot_of-requires : goal.slot_of-requires
slot_of-requires c = subst (λ (l : List Slot). AreSlotted l c.self.inside.order.entries) (sym c.deref.ensures.value) c.self.invariant
