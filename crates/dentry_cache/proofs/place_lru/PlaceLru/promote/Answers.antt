use Rattle.std.proofs.Common.{ap, is_some, subst, sym, ◌∙◌, ℕ}
use Rattle.std.specs.Map.{lookup}
use Rattle.lru.specs.LruCache.{LruCache, lru_cache}
use Rattle.dentry_cache.specs.Cache.{Leaf, Places, leaf_is}
use Rattle.dentry_cache.specs.Slots.{AreSlotted, placed_by}
use Rattle.dentry_cache.proofs.SlotLaws.{is_placed, placed_promoted, placed_there, slotted_promoted}
use Rattle.dentry_cache.proofs.place_lru.PlaceLru.promote.Goals as goal

pub invariant_of-self : goal.invariant_of-self
invariant_of-self c =
    subst (λ (o : LruCache Leaf ℕ). AreSlotted c.self.inside.slots.items o.entries) (sym c.promote.ensures.entries) (slotted_promoted c.self.inside.slots.items c.args.leaf.now c.self.inside.order.entries c.self.invariant)

pub returns-clause-value : goal.returns-clause-value
returns-clause-value c =
    rw (← c.self.view_is) (c.promote.ensures.value ∙ is_placed c.self.inside.slots.items (lookup (leaf_is c.args.leaf.now) c.self.inside.order.entries) ∙ ap is_some (sym (placed_there c.self.inside.slots.items (leaf_is c.args.leaf.now) c.self.inside.order.entries)))

pub returns-clause-entries : goal.returns-clause-entries
returns-clause-entries c =
    rw (← c.self.view_is) (ap (λ (o : LruCache Leaf ℕ). placed_by o c.self.inside.slots.items) c.promote.ensures.entries
    ∙ ap (λ (l : Places). lru_cache l c.self.inside.order.cap) (sym (placed_promoted c.self.inside.slots.items (leaf_is c.args.leaf.now) c.self.inside.order.entries)))
