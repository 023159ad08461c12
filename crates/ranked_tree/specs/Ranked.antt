-- The tree with its subtrees as contracts see it, and what reads keep of it.
use Rattle.std.specs.Prelude.{◌≡◌, Option}
use Rattle.std.specs.FinMap as map
use Rattle.mds_types.specs.declared.ids.Ino.{Ino}
use Rattle.mds_types.specs.declared.refusals.Refusal.{Refusal}
use Rattle.mds_types.specs.declared.operations.Op.{Op}
use Rattle.export_steps.specs.Holder.{IsFrozen, holding}
use Rattle.export_steps.specs.Standing.{Standing}
use Rattle.namespace_ops.specs.Changes.{Concerns}
use Rattle.subtree_map.specs.Authority.{Leaf, Roots}
use Rattle.subtree_map.specs.Changes.{Subtrees}
use Rattle.mdcache.specs.Core.{Core, state_of}
use Rattle.mdcache.specs.Frags.{KeepsState, MayRefuse as MayRefuseIn}
use Rattle.mdcache.specs.New.{root_leaf}
use Rattle.ranked_tree.specs.Held.{ComesFor, LacksPlacesAsked, ReadsFor, WithOffer}

-- the tree over its caches and store, its subtree roots, and the exports that stand
pub record Ranked : Type 0 where
  pub tree : Core
  pub subtrees : Subtrees
  pub exports : Standing

-- the roots, each with the rank that holds its region
abbrev pub held_roots : Ranked → Roots
held_roots ranked = holding ranked.exports ranked.subtrees.roots

-- a leaf changes no more until the export of its region ends
abbrev pub IsFrozenLeaf : Ranked → Leaf → Type 0
IsFrozenLeaf ranked leaf = IsFrozen ranked.exports ranked.subtrees.roots ranked.tree.homes ranked.tree.covers leaf

-- reads for an operation and refusals keep the state, the number of ranks and places, the roots and the exports; the
-- store's count of faults rises by one where a fault is told, and not otherwise; and of the caches live leaves of
-- directories that the operation concerns are used at most, at the ranks that hold them, and, where it is refused, the
-- first leaf of the directory that it was to make
pub record KeepsRanked (old new : Ranked) (op : Op) (told : Option Refusal) : Type 0 where
  pub tree : KeepsState old.tree new.tree told
  pub roots : new.subtrees.roots ≡ old.subtrees.roots
  pub exports : new.exports ≡ old.exports
  pub reads : WithOffer told (λ (number : Option Ino). ReadsFor (held_roots old) (Concerns op)
      (ComesFor (state_of old.tree) (held_roots old) op number) old.tree new.tree)

-- a call for an operation is refused for want of memory, by a store whose count of faults rose, where fewer than two
-- places are free, or can become so, at a rank that holds a live leaf of a directory which the operation concerns, or
-- where a counter is at its end
abbrev pub MayRefuse : (old new : Ranked) → Op → Refusal → Type 0
MayRefuse old new op reason =
    MayRefuseIn (LacksPlacesAsked 2 old.tree (held_roots old)
    (Concerns op)) old.tree new.tree op reason

-- the one subtree root of a new tree: the root directory's leaf is rank 0's
abbrev pub new_roots : Roots
new_roots = map.insert map.empty root_leaf (record { 0 = 0 })
