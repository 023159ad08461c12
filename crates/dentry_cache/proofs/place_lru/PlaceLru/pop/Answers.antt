use Rattle.std.proofs.Common.{List, None, Some, ap, length, option_map, subst, sym, ◌<◌, ◌∙◌, ◌≡◌, ◌≤◌, ℕ}
use Rattle.std.specs.List.{IsDistinct, swap_remove}
use Rattle.std.specs.Map.{keys_of, lookup, set_value}
use Rattle.lru.specs.LruCache.{LruCache, lru_cache}
use Rattle.dentry_cache.specs.Cache.{Leaf, Places, leaf_is}
use Rattle.dentry_cache.specs.Slots.{AreSlotted, placed_by, slot_at}
use Rattle.dentry_cache.specs.declared.place_lru.Slot.{Slot}
use Rattle.dentry_cache.proofs.SlotLaws.{place_in, placed_there, placed_without, read}
use Rattle.dentry_cache.proofs.PoppedSlots.{none_removed, popped}
use Rattle.dentry_cache.proofs.place_lru.PlaceLru.pop.Goals as goal

pub invariant_of-self : goal.invariant_of-self
invariant_of-self c =
    let none : lookup (leaf_is c.args.leaf.now) c.self.inside.order.entries ≡ None = sym c.pop.ensures.value ∙ c.in_default.is in
    subst (λ (o : LruCache Leaf ℕ). AreSlotted c.self.inside.slots.items o.entries) (sym c.pop.ensures.entries)
    (subst (λ (l : List (Leaf × ℕ)). AreSlotted c.self.inside.slots.items l) (sym (none_removed (leaf_is c.args.leaf.now) c.self.inside.order.entries none)) c.self.invariant)

pub returns-in_default-clause-value : goal.returns-in_default-clause-value
returns-in_default-clause-value c =
    let slots = c.self.inside.slots.items in
    let none : lookup (leaf_is c.args.leaf.now) c.self.inside.order.entries ≡ None = sym c.pop.ensures.value ∙ c.in_default.is in
    rw (← c.self.view_is) (sym (placed_there slots (leaf_is c.args.leaf.now) c.self.inside.order.entries ∙ ap (option_map (place_in slots)) none))

pub returns-in_default-clause-entries : goal.returns-in_default-clause-entries
returns-in_default-clause-entries c =
    let slots = c.self.inside.slots.items in
    rw (← c.self.view_is) (ap (λ (o : LruCache Leaf ℕ). placed_by o slots) c.pop.ensures.entries
    ∙ ap (λ (l : Places). lru_cache l c.self.inside.order.cap) (sym (placed_without slots (leaf_is c.args.leaf.now) c.self.inside.order.entries)))

pub swap_remove-slot-requires : goal.swap_remove-slot-requires
swap_remove-slot-requires c =
    let found : lookup (leaf_is c.args.leaf.now) c.self.inside.order.entries ≡ Some c.in-Some.number = sym c.pop.ensures.value ∙ c.in-Some.is in
    rw c.self.inside.slots.ok.0 (c.self.invariant.within _ _ found)

pub invariant_of-self-2 : goal.invariant_of-self-2
invariant_of-self-2 c =
    let slots = c.self.inside.slots.items in
    let order = c.self.inside.order in
    let found : lookup (leaf_is c.args.leaf.now) order.entries ≡ Some c.in-Some.number = sym c.pop.ensures.value ∙ c.in-Some.is in
    let seen : c.deref.result.now ≡ swap_remove slots c.in-Some.number c.swap_remove-slot.result = c.deref.ensures.value ∙ c.swap_remove-slot.ensures.items in
    let done = popped slots order.entries c.self.invariant c.len.ensures.valid.0 c.args.leaf.now c.in-Some.number found c.swap_remove-slot.result order.cap c.renumber.new.order
    (subst (λ (o : LruCache Leaf ℕ). IsDistinct leaf_is (keys_of o.entries)) c.pop.ensures.entries c.len-2.ensures.valid.0)
    (λ past. c.renumber.ensures.past (subst (λ (l : List Slot). length l ≤ c.in-Some.number) (sym seen) past) ∙ c.pop.ensures.entries)
    (λ less. c.renumber.ensures.moved (subst (λ (l : List Slot). c.in-Some.number < length l) (sym seen) less)
    ∙ ap (λ (l : List Slot). lru_cache (set_value (leaf_is (slot_at l c.in-Some.number).leaf) c.pop.new.self.entries c.in-Some.number) c.pop.new.self.cap) seen
    ∙ ap (λ (o : LruCache Leaf ℕ). lru_cache (set_value (leaf_is (slot_at (swap_remove slots c.in-Some.number c.swap_remove-slot.result) c.in-Some.number).leaf) o.entries c.in-Some.number) o.cap) c.pop.ensures.entries) in
    subst (λ (l : List Slot). AreSlotted l c.renumber.new.order.entries) (sym c.swap_remove-slot.ensures.items) done.0

pub returns-clause-value : goal.returns-clause-value
returns-clause-value c =
    let slots = c.self.inside.slots.items in
    let found : lookup (leaf_is c.args.leaf.now) c.self.inside.order.entries ≡ Some c.in-Some.number = sym c.pop.ensures.value ∙ c.in-Some.is in
    rw (← c.self.view_is)
    (ap (λ (s : Slot). Some s.place) (read slots c.in-Some.number c.swap_remove-slot.result (c.self.invariant.within _ _ found) c.swap_remove-slot.ensures.value)
    ∙ ap (option_map (place_in slots)) (sym found) ∙ sym (placed_there slots (leaf_is c.args.leaf.now) c.self.inside.order.entries))

pub returns-clause-entries : goal.returns-clause-entries
returns-clause-entries c =
    let slots = c.self.inside.slots.items in
    let order = c.self.inside.order in
    let found : lookup (leaf_is c.args.leaf.now) order.entries ≡ Some c.in-Some.number = sym c.pop.ensures.value ∙ c.in-Some.is in
    let seen : c.deref.result.now ≡ swap_remove slots c.in-Some.number c.swap_remove-slot.result = c.deref.ensures.value ∙ c.swap_remove-slot.ensures.items in
    let done = popped slots order.entries c.self.invariant c.len.ensures.valid.0 c.args.leaf.now c.in-Some.number found c.swap_remove-slot.result order.cap c.renumber.new.order
    (subst (λ (o : LruCache Leaf ℕ). IsDistinct leaf_is (keys_of o.entries)) c.pop.ensures.entries c.len-2.ensures.valid.0)
    (λ past. c.renumber.ensures.past (subst (λ (l : List Slot). length l ≤ c.in-Some.number) (sym seen) past) ∙ c.pop.ensures.entries)
    (λ less. c.renumber.ensures.moved (subst (λ (l : List Slot). c.in-Some.number < length l) (sym seen) less)
    ∙ ap (λ (l : List Slot). lru_cache (set_value (leaf_is (slot_at l c.in-Some.number).leaf) c.pop.new.self.entries c.in-Some.number) c.pop.new.self.cap) seen
    ∙ ap (λ (o : LruCache Leaf ℕ). lru_cache (set_value (leaf_is (slot_at (swap_remove slots c.in-Some.number c.swap_remove-slot.result) c.in-Some.number).leaf) o.entries c.in-Some.number) o.cap) c.pop.ensures.entries) in
    rw (← c.self.view_is) (ap (λ (l : List Slot). placed_by c.renumber.new.order l) c.swap_remove-slot.ensures.items ∙ done.1
    ∙ ap (λ (l : Places). lru_cache l order.cap) (sym (placed_without slots (leaf_is c.args.leaf.now) order.entries)))
