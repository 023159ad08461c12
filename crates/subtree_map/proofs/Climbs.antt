-- The way up from a leaf, a leaf and its directory's home at a time.
use Rattle.subtree_map.proofs.Common.{Covers, FindsAbove, FindsRow, Fragment, HoldsDentry, Home, Homes, Ino, IsLeafAt, IsLive, LocatesLeaf, IsNearestRow, IsPick, IsSubtrees, IsTable, Leaf, NearestRoot, None, Option, Rank, Roots, Some, ap, false, hash_of, is_known, leaves_of, option_map, refl, same_Some, subst, sym, true, ℕ, ◌↔◌, ◌∙◌, ◌≡◌}
use Rattle.std.specs.FinMap as map
use Rattle.subtree_map.proofs.Nearest.{one_holder, one_root, parent_known, some_root}

module _ (homes : Homes) (covers : Covers) where
  -- the leaf of a parent that the hash of a name picks holds the dentry
  pub holds_at : (home : Home) (hash : ℕ) (leaf : Fragment) (above : Option Home) → hash ≡ hash_of home.name → IsLeafAt homes covers home.parent.0 hash leaf above → HoldsDentry covers home (home.parent, leaf)
  holds_at home hash leaf above is at = record { parent = refl; pick = subst (λ h. IsPick (leaves_of covers home.parent.0) h leaf) is at.pick }

  -- a parent stands
  pub no_stranger : IsTable homes covers → (x : ℕ) (home : Home) → map.get homes x ≡ Some home → is_known homes home.parent.0 ≡ false → ⊥
  no_stranger table x home is stranger = let clash : true ≡ false = sym (parent_known homes covers table x home is) ∙ stranger in cc

  module _ (roots : Roots) where
    -- of a leaf that stands a climb finds a row
    pub finds_some : IsTable homes covers → IsSubtrees roots homes covers → (leaf : Leaf) → IsLive homes covers leaf → (found : Option (Leaf × Rank)) → FindsRow roots homes covers leaf found → found ≡ None → ⊥
    finds_some table valid leaf stands None none is = let near = some_root roots homes covers table valid leaf stands in none near.0 near.1
    finds_some table valid leaf stands (Some row) found is = cc

    pub located : (dir : Ino) (hash : ℕ) (leaf : Fragment) (above : Option Home) (row : Leaf × Rank) → IsLeafAt homes covers dir.0 hash leaf above → IsNearestRow roots homes covers (dir, leaf) row → LocatesLeaf roots homes covers dir hash leaf row.1
    located dir hash leaf above row at near = record { known = at.known; pick = at.pick; has = record { root = row.0; nearest = near.nearest; ranked = near.ranked } }

    module _ (home : Home) where
      -- the row that is found above is that of a root exactly where the leaf that holds the dentry is in its region
      pub row_above : (found : Option (Leaf × Rank)) (root : Leaf) → FindsAbove roots homes covers home found → (option_map (λ (row : Leaf × Rank). row.0) found ≡ Some root)
          ↔ ((holder : Leaf) × HoldsDentry covers home holder × NearestRoot roots homes covers holder root)
      row_above None root (holder, holds, none) = (
        λ is. let clash : None ≡ Some root = is in cc,
        λ (other, its, near). absurd (none root (subst (λ k. NearestRoot roots homes covers k root) (one_holder covers home other holder its holds) near)),
      )
      row_above (Some row) root (holder, holds, at) = (
        λ is. (holder, holds, let same : row.0 ≡ root = same_Some _ _ is in subst (NearestRoot roots homes covers holder) same at.nearest),
        λ (other, its, near). ap Some (one_root roots homes covers holder row.0 root at.nearest (subst (λ k. NearestRoot roots homes covers k root) (one_holder covers home other holder its holds) near)),
      )
