-- A directory that goes has no leaf but those that a rank may change, where these inherit what the leaf of its name has.
use Rattle.cluster_core.proofs.Common.{Bool, Carries, Change, Covers, Dentry, Homes, IfSome, Ino, Inode, IsAtHolder, IsAuthority, IsFrozenAt, Leaf, MayTouch, MayTouchEach, None, Option, Rank, Request, Some, Spot, Standing, State, Tree, ap, cond, dentry_at, directory_at, directory_gone, false, get-empty, in_directory, inl, is_dir_kind, is_some, leaf_cmp, leaf_of, leaves_gone, leaves_of, not_none, refl, same_Some, subst, sym, thawed_rules, true, ◌∙◌, ◌≡◌}
use Rattle.std.specs.FinMap as map
use Rattle.cluster_core.proofs.GrantLaws.{of_each}
use Rattle.inode_table.specs.TreeTable.{HoldsHomes, home_at}
use Rattle.namespace_ops.specs.Changes.{IsSpot}
use Rattle.ranked_tree.specs.Subtrees.{Inherits}
use Rattle.subtree_map.specs.Authority.{inherited as up}

-- a directory that goes stands in the table where its name lies
pub stands_at : (tree : Tree) (homes : Homes) → HoldsHomes tree homes → (dentry : Dentry) (dir : Ino) → Some dir ≡ directory_at (map.get tree dentry) → map.get homes dir.0 ≡ Some (home_at dentry)
stands_at tree homes holds dentry dir goes = go (map.get tree dentry) refl goes
  where
    go : (found : Option Inode) → map.get tree dentry ≡ found → Some dir ≡ directory_at found → map.get homes dir.0 ≡ Some (home_at dentry)
    go None is none = let clash : Some dir ≡ None = none in cc
    go (Some inode) is some = kinded (is_dir_kind inode.kind) refl some
      where
        kinded : (b : Bool) → is_dir_kind inode.kind ≡ b → Some dir ≡ cond b (Some inode.ino) None → map.get homes dir.0 ≡ Some (home_at dentry)
        kinded true kind one = subst (λ (d : Ino). map.get homes d.0 ≡ Some (home_at dentry)) (sym (same_Some _ _ one)) (holds.listed dentry inode is kind)
        kinded false kind none = let clash : Some dir ≡ None = none in cc

-- of a removal the directory goes that stands at its name, and the name's leaf is told
pub removed_from : (tree : Tree) (covers : Covers) (change : Change) (spot : Spot) (dir : Ino) → Carries tree covers change → change.takes ≡ Some spot → is_some change.puts ≡ false → change.gone ≡ Some dir
    → (Some dir ≡ directory_at (map.get tree (dentry_at spot))) × IsSpot covers spot
removed_from tree covers change spot dir carries takes puts gone = (
  sym gone ∙ carries.gone ∙ ap (λ (o : Option Spot). directory_gone tree o change.puts) takes ∙ ap (directory_gone tree (Some spot)) (none change.puts puts),
  subst (λ (o : Option Spot). IfSome o (IsSpot covers)) takes carries.taken,
)
  where
    none : (o : Option (Spot × Inode)) → is_some o ≡ false → o ≡ None
    none None is = refl
    none (Some put) is = let clash : true ≡ false = is in cc

module _ (state : State) (rank : Rank) (request : Request) where
  pub along : (dir : Ino) (spot : Spot) → Inherits state.roots state.exports dir → map.get state.tree.homes dir.0 ≡ Some (home_at (dentry_at spot)) → IsSpot state.tree.covers spot → IsAtHolder state spot.at → spot.at.rank ≡ rank
      → MayTouchEach state rank request (leaves_gone state.tree.covers (Some dir))
  along dir spot inherits home pick held same =
      of_each dir.0 (MayTouch state rank request) (leaves_of state.tree.covers dir.0) (λ g has. (
        thawed (in_directory dir.0 g),
        inl (record {
          root = mine.root;
          nearest = up (in_directory dir.0 g) (leaf_of spot.at) mine.root (home_at (dentry_at spot)) (inherits.1 (in_directory dir.0 g) refl) home (record { parent = refl; pick = pick }) mine.nearest;
          ranked = mine.ranked;
        }),
      ))
    where
      thawed : (leaf : Leaf) → IsFrozenAt state leaf → ⊥
      thawed leaf frozen = not_none _ frozen.export (ap (λ (e : Standing). map.get e frozen.root) inherits.0 ∙ get-empty leaf_cmp frozen.root) frozen.stands

      mine : IsAuthority state (leaf_of spot.at) rank
      mine = subst (IsAuthority state (leaf_of spot.at)) same (thawed_rules state.exports state.roots state.tree.homes state.tree.covers (leaf_of spot.at) spot.at.rank (thawed (leaf_of spot.at)) held)
