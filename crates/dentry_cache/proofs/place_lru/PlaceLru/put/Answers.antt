use Rattle.std.proofs.Common.{List, None, ap, ap₂, length, refl, subst, sym, [], ◌++◌, ◌<◌, ◌∙◌, ◌∷◌, ◌≡◌, ℕ}
use Rattle.std.specs.Map.{lookup}
use Rattle.lru.specs.LruCache.{LruCache, lru_cache, put_entries}
use Rattle.dentry_cache.specs.Cache.{Held, Leaf, Places, leaf_is}
use Rattle.dentry_cache.specs.Slots.{AreSlotted, placed_by}
use Rattle.dentry_cache.specs.declared.place_lru.Slot.{Slot}
use Rattle.dentry_cache.proofs.SlotLaws.{each_found, more_places, no_slot, placed_count, slotted_more}
use Rattle.dentry_cache.proofs.UsedLaws.{placed}
use Rattle.dentry_cache.proofs.place_lru.PlaceLru.put.Goals as goal

pub invariant_of-self-in-Ok : goal.invariant_of-self-in-Ok
invariant_of-self-in-Ok c =
    let slots = c.self.inside.slots.items in
    let order = c.self.inside.order in
    let s : Slot = record { leaf = c.args.leaf.now; place = c.args.place } in
    let none : lookup (leaf_is c.args.leaf.now) order.entries ≡ None = no_slot slots _ order.entries (subst (λ (h : Held). lookup (leaf_is c.args.leaf.now) h.entries ≡ None) (sym c.self.view_is) c.requires.absent) in
    let room : length order.entries < order.cap = subst (λ n. n < order.cap) (placed_count slots order.entries) (subst (λ (h : Held). length h.entries < h.cap) (sym c.self.view_is) c.requires.room) in
    let number : c.len-number.result ≡ length slots = c.len-number.ensures ∙ c.reserve.new.self.ok.0 ∙ ap length c.reserve.ensures.items in
    let new : c.put.new.self ≡ lru_cache ((c.args.leaf.now, length slots) ∷ order.entries) order.cap = placed c.args.leaf.now (length slots) order order c.put.new.self refl none room
    (subst (λ n. c.put.new.self ≡ lru_cache (put_entries leaf_is order c.args.leaf.now n) order.cap) number c.in-Ok.ensures.entries) in
    let items : c.push_reserved.new.self.items ≡ slots ++ s ∷ [] = c.push_reserved.ensures.items ∙ ap (λ (l : List Slot). l ++ s ∷ []) c.reserve.ensures.items in
    subst (λ (x : LruCache Leaf ℕ). AreSlotted c.push_reserved.new.self.items x.entries) (sym new)
    (subst (λ (l : List Slot). AreSlotted l ((c.args.leaf.now, length slots) ∷ order.entries)) (sym items) (slotted_more slots s order.entries c.self.invariant none))

pub returns-in-Ok-clause-put : goal.returns-in-Ok-clause-put
returns-in-Ok-clause-put c =
    let slots = c.self.inside.slots.items in
    let order = c.self.inside.order in
    let s : Slot = record { leaf = c.args.leaf.now; place = c.args.place } in
    let none : lookup (leaf_is c.args.leaf.now) order.entries ≡ None = no_slot slots _ order.entries (subst (λ (h : Held). lookup (leaf_is c.args.leaf.now) h.entries ≡ None) (sym c.self.view_is) c.requires.absent) in
    let room : length order.entries < order.cap = subst (λ n. n < order.cap) (placed_count slots order.entries) (subst (λ (h : Held). length h.entries < h.cap) (sym c.self.view_is) c.requires.room) in
    let number : c.len-number.result ≡ length slots = c.len-number.ensures ∙ c.reserve.new.self.ok.0 ∙ ap length c.reserve.ensures.items in
    let new : c.put.new.self ≡ lru_cache ((c.args.leaf.now, length slots) ∷ order.entries) order.cap = placed c.args.leaf.now (length slots) order order c.put.new.self refl none room
    (subst (λ n. c.put.new.self ≡ lru_cache (put_entries leaf_is order c.args.leaf.now n) order.cap) number c.in-Ok.ensures.entries) in
    let items : c.push_reserved.new.self.items ≡ slots ++ s ∷ [] = c.push_reserved.ensures.items ∙ ap (λ (l : List Slot). l ++ s ∷ []) c.reserve.ensures.items in
    rw (← c.self.view_is) (ap₂ placed_by new items
    ∙ ap (λ (l : Places). lru_cache l order.cap) (more_places slots s order.entries (each_found slots (λ leaf i. i < length slots) order.entries c.len.ensures.valid.0 c.self.invariant.within)))
