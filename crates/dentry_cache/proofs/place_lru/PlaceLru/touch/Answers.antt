use Rattle.std.proofs.Common.{Some, ap, is_some, option_map, rules, slice_get, sym, ◌∙◌, ◌≡◌}
use Rattle.std.specs.Map.Iter.{deref_pair}
use Rattle.lru.specs.LruCache.{lru_cache}
use Rattle.dentry_cache.specs.Cache.{Leaf, Places, leaf_is}
use Rattle.dentry_cache.specs.Slots.{places_in}
use Rattle.dentry_cache.proofs.SlotLaws.{first_found, first_promoted, place_in, placed_promoted, placed_there}
use Rattle.dentry_cache.proofs.place_lru.PlaceLru.touch.Goals as goal

pub returns-then-eq-clause-value : goal.returns-then-eq-clause-value
returns-then-eq-clause-value c =
    let slots = c.self.inside.slots.items in
    let entries = c.self.inside.order.entries in
    let same : c.in-Some.newest.now ≡ c.args.leaf.now = search rules in
    let first : Some (c.args.leaf.now, c.in-Some.slot.now) ≡ slice_get entries 0 = ap (λ (l : Leaf). Some (l, c.in-Some.slot.now)) (sym same) ∙ ap (option_map deref_pair) (sym c.in-Some.is) ∙ c.peek_mru.ensures in
    rw (← c.self.view_is) (ap is_some (sym (placed_there slots (leaf_is c.args.leaf.now) entries ∙ ap (option_map (place_in slots)) (first_found c.args.leaf.now c.in-Some.slot.now entries first))))

pub returns-then-eq-clause-entries : goal.returns-then-eq-clause-entries
returns-then-eq-clause-entries c =
    let slots = c.self.inside.slots.items in
    let entries = c.self.inside.order.entries in
    let same : c.in-Some.newest.now ≡ c.args.leaf.now = search rules in
    let first : Some (c.args.leaf.now, c.in-Some.slot.now) ≡ slice_get entries 0 = ap (λ (l : Leaf). Some (l, c.in-Some.slot.now)) (sym same) ∙ ap (option_map deref_pair) (sym c.in-Some.is) ∙ c.peek_mru.ensures in
    rw (← c.self.view_is) (ap (λ (l : Places). lru_cache l c.self.inside.order.cap) (sym (placed_promoted slots (leaf_is c.args.leaf.now) entries ∙ ap (places_in slots) (first_promoted c.args.leaf.now c.in-Some.slot.now entries first))))
