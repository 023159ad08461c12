use Rattle.std.proofs.Common.{List, Some, ap, length, option_map, refl, set, subst, sym, ◌<◌, ◌∙◌, ◌≡◌}
use Rattle.std.specs.Map.{lookup}
use Rattle.lru.specs.LruCache.{lru_cache}
use Rattle.sorted_map.proofs.ContentLaws.{same_loan}
use Rattle.dentry_cache.specs.Cache.{Places, leaf_is}
use Rattle.dentry_cache.specs.Slots.{AreSlotted, places_in}
use Rattle.dentry_cache.specs.declared.place_lru.Slot.{Slot}
use Rattle.dentry_cache.proofs.SlotLaws.{owned_each, place_in, placed_there, read, slotted_written, written}
use Rattle.dentry_cache.proofs.place_lru.PlaceLru.peek_mut.Goals as goal

pub returns-in-None : goal.returns-in-None
returns-in-None c =
    let slots = c.self.inside.slots.items in
    rw (← c.self.view_is) (
      refl,
      record {
        writes_back = tt;
        value = ap (option_map (place_in slots)) (sym c.in-None.is ∙ c.slot_of.ensures) ∙ sym (placed_there slots (leaf_is c.args.leaf.now) c.self.inside.order.entries);
      },
    )

pub index_mut-requires : goal.index_mut-requires
index_mut-requires c =
    let its : lookup (leaf_is c.args.leaf.now) c.self.inside.order.entries ≡ Some c.in-Some.slot = sym c.slot_of.ensures ∙ c.in-Some.is in
    rw c.self.inside.slots.ok.0 (c.self.invariant.within _ _ its)

pub invariant_of-self-lent : goal.invariant_of-self-lent
invariant_of-self-lent c = λ w.
    let slots = c.self.inside.slots.items in
    let i = c.in-Some.slot in
    let its : lookup (leaf_is c.args.leaf.now) c.self.inside.order.entries ≡ Some i = sym c.slot_of.ensures ∙ c.in-Some.is in
    let within : i < length slots = c.self.invariant.within _ _ its in
    rw (read slots i c.index_mut.result.now within c.index_mut.ensures.value) (slotted_written slots i w c.self.inside.order.entries within c.self.invariant)

pub returns : goal.returns
returns c =
    let slots = c.self.inside.slots.items in
    let i = c.in-Some.slot in
    let entries = c.self.inside.order.entries in
    let its : lookup (leaf_is c.args.leaf.now) entries ≡ Some i = sym c.slot_of.ensures ∙ c.in-Some.is in
    let within : i < length slots = c.self.invariant.within _ _ its in
    let mine = read slots i c.index_mut.result.now within c.index_mut.ensures.value in
    let distinct = c.len.ensures.valid.0 in
    rw (← c.self.view_is) (
      same_loan _ _ _ (λ w.
          ap (λ (s : Slot). lru_cache (places_in (set slots i (record { leaf = s.leaf; place = w })) entries) c.self.inside.order.cap) mine
          ∙ ap (λ (l : Places). lru_cache l c.self.inside.order.cap) (written slots c.args.leaf.now i w entries within (c.self.invariant.owned _ _ its) distinct (owned_each slots entries distinct c.self.invariant.owned) its)),
      record { writes_back = tt; value = ap (λ (s : Slot). Some s.place) mine ∙ ap (option_map (place_in slots)) (sym its) ∙ sym (placed_there slots (leaf_is c.args.leaf.now) entries) },
    )

pub slot_of-requires : goal.slot_of-requires
slot_of-requires c = subst (λ (l : List Slot). AreSlotted l c.self.inside.order.entries) (sym c.deref.ensures.value) c.self.invariant
