-- Leaves in order, as numbers: a walk along them ends.
use Rattle.cluster_core.proofs.Common.{Equal, Greater, IsBehind, Leaf, Less, MatchOrdering, None, Option, Ordering, Some, arith, frag_cmp, inl, inr, nat_cmp, ordering_then, ranked, refl, ℕ, ◌%◌, ◌*◌, ◌+◌, ◌-◌, ◌<◌, ◌^◌, ◌≡◌, ◌⊎◌}

-- the place of a leaf in their order
abbrev place : Leaf → ℕ
place leaf = (leaf.0.0 * 2 ^ 24 + leaf.1.value % 2 ^ 24) * 2 ^ 8 + leaf.1.bits % 2 ^ 8

-- how many places are behind it
abbrev pub left : Option Leaf → ℕ
left None = 2 ^ 96
left (Some leaf) = 2 ^ 96 - (place leaf + 1)

-- the first numbers are in order, or they are one, and the rest is
then_less : (x y : ℕ) (rest : Ordering) → ordering_then (nat_cmp x y) rest ≡ Less → (x < y) ⊎ ((x ≡ y) × (rest ≡ Less))
then_less x y rest is = go (nat_cmp x y) (ranked x y (nat_cmp x y) refl) is
  where
    go : (o : Ordering) → MatchOrdering o (x < y) (x ≡ y) (y < x) → ordering_then o rest ≡ Less → (x < y) ⊎ ((x ≡ y) × (rest ≡ Less))
    go Less less _ = inl less
    go Equal same is = inr (same, is)
    go Greater more is = let clash : Greater ≡ Less = is in cc

less : (x y : ℕ) → nat_cmp x y ≡ Less → x < y
less x y is = go (nat_cmp x y) (ranked x y (nat_cmp x y) refl) is
  where
    go : (o : Ordering) → MatchOrdering o (x < y) (x ≡ y) (y < x) → o ≡ Less → x < y
    go Less less _ = less
    go Equal same is = let clash : Equal ≡ Less = is in cc
    go Greater more is = let clash : Greater ≡ Less = is in cc

-- behind a later leaf there are fewer
pub fewer : (after : Option Leaf) (leaf : Leaf) → IsBehind after leaf → leaf.0.0 < 2 ^ 64 → leaf.1.value < 2 ^ 24 → leaf.1.bits < 2 ^ 8 → left (Some leaf) < left after
fewer None leaf behind dir value bits = omega (arith, dir, value, bits)
fewer (Some one) leaf behind dir value bits = by_dir (then_less one.0.0 leaf.0.0 (frag_cmp one.1 leaf.1) behind)
  where
    by_value : one.0.0 ≡ leaf.0.0 → (one.1.value < leaf.1.value) ⊎ ((one.1.value ≡ leaf.1.value) × (nat_cmp one.1.bits leaf.1.bits ≡ Less)) → left (Some leaf) < left (Some one)
    by_value same (inl under) = omega (arith, same, under, dir, value, bits)
    by_value same (inr (too, last)) = omega (arith, same, too, less one.1.bits leaf.1.bits last, dir, value, bits)

    by_dir : (one.0.0 < leaf.0.0) ⊎ ((one.0.0 ≡ leaf.0.0) × (frag_cmp one.1 leaf.1 ≡ Less)) → left (Some leaf) < left (Some one)
    by_dir (inl under) = omega (arith, under, dir, value, bits)
    by_dir (inr (same, rest)) = by_value same (then_less one.1.value leaf.1.value (nat_cmp one.1.bits leaf.1.bits) rest)
