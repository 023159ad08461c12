use Rattle.std.proofs.Common.{List, subst, sym, ◌∙◌, ◌≤◌}
use Rattle.std.specs.List.{IsDistinct}
use Rattle.dentry_cache.specs.Cache.{Leaf, leaf_is}
use Rattle.dentry_cache.specs.Places.{IsCache}
use Rattle.dentry_cache.proofs.SlotLaws.{placed_count, placed_keys}
use Rattle.dentry_cache.proofs.place_lru.PlaceLru.len.Goals as goal

pub returns-clause-len : goal.returns-clause-len
returns-clause-len c = rw (← c.self.view_is) (c.len.ensures.len ∙ sym (placed_count c.self.inside.slots.items c.self.inside.order.entries))

pub returns-clause-valid : goal.returns-clause-valid
returns-clause-valid c = subst IsCache c.self.view_is (record {
  distinct = subst (λ (l : List Leaf). IsDistinct leaf_is l) (sym (placed_keys c.self.inside.slots.items c.self.inside.order.entries)) c.len.ensures.valid.0;
  fits = subst (λ n. n ≤ c.self.inside.order.cap) (sym (placed_count c.self.inside.slots.items c.self.inside.order.entries)) c.len.ensures.valid.1;
})
