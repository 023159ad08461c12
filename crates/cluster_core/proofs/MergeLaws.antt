-- Eight leaves that are the children of a fragment are all that lie inside it.
use Rattle.cluster_core.proofs.Common.{CanMerge, Contains-from_range, Counts, Fragment, HasLeaf, IsFragment, IsPick, IsTree, List, all_counted, arith, between, child_of, ends_low, first_counted, leaves_inside, length, mod-eq_of_lt, mul-le-mul_left, next_counted, pick_from_leaf, span, span-split, span_pos, subst, suc, zero, ℕ, ◌%◌, ◌*◌, ◌+◌, ◌<◌, ◌^◌, ◌≡◌, ◌≤◌}

module _ (xs : List Fragment) (tree : IsTree xs) (f : Fragment) (whole : IsFragment f) (each : (i : ℕ) → i < 8 → HasLeaf xs (child_of f i 3)) where
  fragment : (i : ℕ) → i < 8 → IsFragment (child_of f i 3)
  fragment i lt = (between 0 (2 ^ 24) xs (child_of f i 3) tree.tiles (each i lt)).0

  fits : f.bits + 3 ≤ 24
  fits = (fragment 0 (omega arith)).few_bits

  eight : span f.bits ≡ 8 * span (f.bits + 3)
  eight = span-split f.bits 3 fits

  -- the child where a hash lies that is its value
  pick_at : (i h : ℕ) → i < 8 → h < 2 ^ 24 → (child_of f i 3).value ≤ h → h < (child_of f i 3).value + span (f.bits + 3) → IsPick xs h (child_of f i 3)
  pick_at i h lt low from under =
      let same : h % 2 ^ 24 ≡ h = mod-eq_of_lt low in
      pick_from_leaf xs h (child_of f i 3) tree (each i lt) (Contains-from_range (child_of f i 3) h (fragment i lt) (omega (arith, same, from)) (omega (arith, same, under)))

  counted : (i : ℕ) → i < 8 → Counts xs f (child_of f i 3) (suc i)
  counted zero lt = first_counted xs tree f whole (child_of f 0 3) (pick_at 0 f.value lt whole.in_range (omega arith) (omega (arith, span_pos (f.bits + 3)))) (omega arith)
  counted (suc i) lt =
      let before : Counts xs f (child_of f i 3) (suc i) = counted i (omega (arith, lt)) in
      let room : span (f.bits + 3) * (i + 2) ≤ span (f.bits + 3) * 8 = mul-le-mul_left (span (f.bits + 3)) (omega (arith, lt)) in
      let pos = span_pos (f.bits + 3) in
      let less : (child_of f i 3).value + span (f.bits + 3) < f.value + span f.bits = omega (arith, room, pos, eight) in
      let low : (child_of f i 3).value + span (f.bits + 3) < 2 ^ 24 = omega (arith, less, ends_low f whole) in
      let one_more : suc i + 1 ≡ suc (suc i) = omega arith in
      subst (λ (n : ℕ). Counts xs f (child_of f (suc i) 3) n) one_more (next_counted xs tree f whole (child_of f i 3) (suc i) before (child_of f (suc i) 3) less (pick_at (suc i) ((child_of f i 3).value + span (f.bits + 3)) lt low (omega arith) (omega (arith, pos))))

  pub can_merge : CanMerge xs f
  can_merge =
      let all : 8 ≡ length (leaves_inside f xs) = all_counted xs tree f whole (child_of f 7 3) 8 (counted 7 (omega arith)) (omega (arith, eight)) in
      record { some = omega (arith, all); few = omega (arith, all) }
