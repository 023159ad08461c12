-- A walk over candidates, one after the other, ends at the least of which something more holds.
use Rattle.cluster_core.proofs.Common.{IsBehind, IsNextLeaf, Leaf, Less, None, Option, Some, inl, inr, leaf_cmp, subst, ◌≡◌, ◌⊎◌}

-- what passes holds of candidates alone, and of none before this one
pub record IsWalked (Passes : Leaf → Type 0) (after : Option Leaf) : Type 0 where
  pub behind : (leaf : Leaf) → Passes leaf → IsBehind after leaf

module _ (Candidate Passes : Leaf → Type 0) (is : (leaf : Leaf) → Passes leaf → Candidate leaf) where
  pub begun : IsWalked Passes None
  begun = record { behind = λ leaf passes. tt }

  -- a candidate that doesn't pass is left behind
  pub passed : (after : Option Leaf) (leaf : Leaf) → IsWalked Passes after → IsNextLeaf Candidate after (Some leaf) → (Passes leaf → ⊥) → IsWalked Passes (Some leaf)
  passed after leaf walked next not = record { behind = λ other passes. go other passes (next.least other (is other passes) (walked.behind other passes)) }
    where
      go : (other : Leaf) → Passes other → (other ≡ leaf) ⊎ (leaf_cmp leaf other ≡ Less) → leaf_cmp leaf other ≡ Less
      go other passes (inl same) = absurd (not (subst Passes same passes))
      go other passes (inr less) = less

  -- one that passes is the least
  pub found : (after : Option Leaf) (leaf : Leaf) → IsWalked Passes after → IsNextLeaf Candidate after (Some leaf) → (other : Leaf) → Passes other → (other ≡ leaf) ⊎ (leaf_cmp leaf other ≡ Less)
  found after leaf walked next other passes = next.least other (is other passes) (walked.behind other passes)

  -- where none is left, none passes
  pub ended : (after : Option Leaf) → IsWalked Passes after → IsNextLeaf Candidate after None → (leaf : Leaf) → Passes leaf → ⊥
  ended after walked none leaf passes = none leaf (is leaf passes) (walked.behind leaf passes)
