-- Leaves keep their authority where others come in their place: an induction on the way up.
use Rattle.subtree_map.proofs.Common.{Covers, HasAuthority, HoldsDentry, Home, Homes, Ino, IsLive, IsTable, KeepAuthority, Leaf, NearestRoot, None, Option, Rank, Roots, Some, ap, inherited, itself, refl, ◌∙◌, ◌≡◌}
use Rattle.std.specs.FinMap as map
use Rattle.subtree_map.proofs.Nearest.{holder_is_leaf}

module _ (old new : Roots) (homes : Homes) (covers later : Covers) (table : IsTable homes covers) (Becomes : Leaf → Leaf → Type 0)
    -- what becomes of a leaf is a leaf of the same directory
    (place : (leaf after : Leaf) → Becomes leaf after → after.0 ≡ leaf.0)
    -- a root's rank stays
    (ranked : (leaf after : Leaf) (rank : Rank) → IsLive homes covers leaf → Becomes leaf after → map.get old leaf ≡ Some rank → map.get new after ≡ Some rank)
    -- a leaf that becomes a root has the rank that it inherited
    (gained : (leaf after : Leaf) (rank now : Rank) → IsLive homes covers leaf → Becomes leaf after → map.get old leaf ≡ None → HasAuthority old homes covers leaf rank → map.get new after ≡ Some now → now ≡ rank)
    -- what holds a dentry becomes what holds it then
    (holders : (home : Home) (holder : Leaf) → IsLive homes covers holder → HoldsDentry covers home holder → (after : Leaf) × Becomes holder after × HoldsDentry later home after) where
  carried : (leaf root : Leaf) → IsLive homes covers leaf → NearestRoot old homes covers leaf root → (rank : Rank) → map.get old root ≡ Some rank → (after : Leaf) → Becomes leaf after → HasAuthority new homes later after rank
  carried _ _ is (itself root r has) rank ranks after becomes =
      let stays = ranked root after rank is becomes ranks in
      record { root = after; nearest = itself after rank stays; ranked = stays }
  carried _ _ is (inherited leaf holder root home none stands holds rest) rank ranks after becomes =
      let within = holder_is_leaf homes covers table leaf.0.0 home holder stands holds in
      let up = holders home holder within holds in
      go (map.get new after) refl up.0 up.2 (carried holder root within rest rank ranks up.0 up.1)
    where
      go : (o : Option Rank) → map.get new after ≡ o → (above : Leaf) → HoldsDentry later home above → HasAuthority new homes later above rank → HasAuthority new homes later after rank
      go (Some now) has above held further =
          let same : now ≡ rank = gained leaf after rank now is becomes none (record { root = root; nearest = inherited leaf holder root home none stands holds rest; ranked = ranks }) has in
          record { root = after; nearest = itself after now has; ranked = has ∙ ap (λ r. Some r) same }
      go None gone above held further = record {
        root = further.root;
        nearest = inherited after above further.root home gone (ap (λ (d : Ino). map.get homes d.0) (place leaf after becomes) ∙ stands) held further.nearest;
        ranked = further.ranked;
      }

  pub kept : KeepAuthority old new homes homes covers later Becomes
  kept leaf after rank is becomes has = carried leaf has.root is has.nearest rank has.ranked after becomes
