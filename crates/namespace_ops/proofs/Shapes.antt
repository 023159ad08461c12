-- The four shapes of a change that may be made.
use Rattle.std.proofs.Common.{◌≡◌, Bool, true, false, Option, Some, None, refl, sym, ap, subst, ◌∙◌}
use Rattle.mds_types.specs.declared.ids.Ino.{Ino}
use Rattle.mds_types.specs.declared.inodes.Inode.{Inode}
use Rattle.mds_types.specs.Tree.{Tree}
use Rattle.inode_table.specs.Dirs.{Covers}
use Rattle.namespace_ops.specs.declared.plans.Spot.{Spot}
use Rattle.namespace_ops.specs.declared.plans.Change.{Change}
use Rattle.namespace_ops.specs.Changes.{MayChange, TakesBy, adds, directory_gone, moves, removes, sets}

-- an inode comes, gets other attributes, goes, or moves
pub data Shape : Change → Type 0 where
  add : (spot : Spot) (inode : Inode) → Shape (adds spot inode)
  set : (spot : Spot) (inode : Inode) → Shape (sets spot inode)
  remove : (spot : Spot) (went : Option Ino) → Shape (removes spot went)
  move : (from to : Spot) (inode : Inode) (went : Option Ino) → Shape (moves from to inode went)

-- a change that may be made has one of them
pub shape_of : (tree : Tree) (covers : Covers) (change : Change) → MayChange tree covers change → Shape change
shape_of tree covers change may = go change.takes change.puts change.comes change.gone may.takes may.carries.gone
  where
    go : (takes : Option Spot) (puts : Option (Spot × Inode)) (comes : Bool) (gone : Option Ino) → TakesBy tree takes puts comes → gone ≡ directory_gone tree takes puts → Shape (record { takes = takes; puts = puts; comes = comes; gone = gone })
    go None None comes gone takes is = absurd takes
    go None (Some put) true gone takes is = subst (λ (g : Option Ino). Shape (record { takes = None; puts = Some put; comes = true; gone = g })) (sym is) (add put.0 put.1)
    go None (Some put) false gone takes is = subst (λ (g : Option Ino). Shape (record { takes = None; puts = Some put; comes = false; gone = g })) (sym is) (set put.0 put.1)
    go (Some spot) None true gone takes is = absurd takes
    go (Some spot) None false gone takes is = remove spot gone
    go (Some spot) (Some put) true gone takes is = absurd takes
    go (Some spot) (Some put) false gone takes is = move spot put.0 put.1 gone

-- ---- which one it is, by its fields

module _ (tree : Tree) (covers : Covers) (change : Change) (may : MayChange tree covers change) where
  -- where nothing is taken no directory goes
  none_gone : change.takes ≡ None → change.gone ≡ None
  none_gone takes = may.carries.gone ∙ ap (λ (t : Option Spot). directory_gone tree t change.puts) takes

  -- and where something is taken nothing comes
  none_comes : (spot : Spot) → change.takes ≡ Some spot → change.comes ≡ false
  none_comes spot takes = go change.puts change.comes (subst (λ (t : Option Spot). TakesBy tree t change.puts change.comes) takes may.takes)
    where
      go : (puts : Option (Spot × Inode)) (comes : Bool) → TakesBy tree (Some spot) puts comes → comes ≡ false
      go None true h = absurd h
      go (Some put) true h = absurd h
      go puts false h = refl

  pub is_adds : (spot : Spot) (inode : Inode) → change.takes ≡ None → change.puts ≡ Some (spot, inode) → change.comes ≡ true → change ≡ adds spot inode
  is_adds spot inode takes puts comes = λ i. record { takes = takes i; puts = puts i; comes = comes i; gone = none_gone takes i }

  pub is_sets : (spot : Spot) (inode : Inode) → change.takes ≡ None → change.puts ≡ Some (spot, inode) → change.comes ≡ false → change ≡ sets spot inode
  is_sets spot inode takes puts comes = λ i. record { takes = takes i; puts = puts i; comes = comes i; gone = none_gone takes i }

  pub is_removes : (spot : Spot) → change.takes ≡ Some spot → change.puts ≡ None → change ≡ removes spot change.gone
  is_removes spot takes puts = λ i. record { takes = takes i; puts = puts i; comes = none_comes spot takes i; gone = change.gone }

  pub is_moves : (from to : Spot) (inode : Inode) → change.takes ≡ Some from → change.puts ≡ Some (to, inode) → change ≡ moves from to inode change.gone
  is_moves from to inode takes puts = λ i. record { takes = takes i; puts = puts i; comes = none_comes from takes i; gone = change.gone }
