use Rattle.std.proofs.Common.{List, None, ap, get_or, subst, sym, ◌∙◌, ◌≡◌, ℕ}
use Rattle.std.specs.Option.{option_copied_mut}
use Rattle.std.specs.Map.{lookup}
use Rattle.lru.specs.LruCache.{lru_cache}
use Rattle.dentry_cache.specs.Cache.{Leaf, leaf_is}
use Rattle.dentry_cache.specs.declared.place_lru.Slot.{Slot}
use Rattle.std.proofs.lemmas.List.{get_or_default}
use Rattle.dentry_cache.proofs.PoppedSlots.{none_set}
use Rattle.dentry_cache.proofs.place_lru.renumber.Goals as goal

pub returns-in_default-clause-moved : goal.returns-in_default-clause-moved
returns-in_default-clause-moved c = λ less.
    let none : lookup (leaf_is (get_or c.args.slots.now c.args.number c.index-slots-number.result).leaf) c.args.order.now.entries ≡ None = sym c.peek_mut.ensures.value ∙ ap option_copied_mut c.in_default.is in
    let its = subst (λ (s : Slot). lookup (leaf_is s.leaf) c.args.order.now.entries ≡ None) (get_or_default c.args.slots.now c.args.number c.index-slots-number.result _ less) none in
    ap (λ (l : List (Leaf × ℕ)). lru_cache l c.args.order.now.cap) (sym (none_set _ c.args.order.now.entries c.args.number its))
