-- A hand-over in the words of a step: the other rank uses the leaves that go there, and the places of all end at the first.
use Rattle.dentry_cache.proofs.Common.{AllByRecursion, CacheMap, HandsFragmentsOver, HaveNoPlace, IsDistinct, Leaf, List, leaf_is, length, list_any, true, ℕ, ◌<◌, ◌≡◌}

module _ (from to : ℕ) (leaves clean : List Leaf) (old new : CacheMap) (h : HandsFragmentsOver from to leaves clean old new) (other : to < length old.used) (absent : HaveNoPlace old to leaves) (once : IsDistinct leaf_is leaves) where
  abbrev Named : List Leaf → Type 0
  Named ls = AllByRecursion (λ (leaf : Leaf). list_any (leaf_is leaf) leaves ≡ true) ls
