-- Why a leaf's children in its place make a tree again, and which leaves that tree has.
use Rattle.std.proofs.Common.{◌≡◌, ◌≢◌, ◌⊎◌, inl, inr, ℕ, zero, suc, ◌+◌, ◌-◌, ◌*◌, ◌^◌, ◌<◌, ◌≤◌, List, [], ◌∷◌, ◌++◌, length, map, sym, ap, subst, ◌∙◌, arith}
use Rattle.std.proofs.lemmas.List.{length-append}
use Rattle.std.proofs.lemmas.List.FromFn.{length-map-range_with_len, get_or-map-range_with_len}
use Rattle.std.specs.List.{range_with_len}
use Rattle.mds_types.specs.Frag.{Fragment, IsFragment, child_of, span}
use Rattle.mds_types.proofs.Fragments.{span-split, child_is_fragment}
use Rattle.fragtree.specs.FragTree.{Tiles, IsTree, HasLeaf, CanSplit, IsChild, IsSplit}
use Rattle.fragtree.proofs.Ranges.{span_pos}
use Rattle.fragtree.proofs.Tilings.{only_leaf, parts, replaced, replaced_tiles}

-- the children of f from one on tile the hashes from where it begins
children_tile : (f : Fragment) (nb i n low high : ℕ) → IsFragment f → f.bits + nb ≤ 24 → i + n ≤ 2 ^ nb → low ≡ f.value + i * span (f.bits + nb) → high ≡ low + n * span (f.bits + nb)
    → Tiles low high (map (λ k. child_of f k nb) (range_with_len i n))
children_tile f nb i zero low high h few below from to = omega (arith, to)
children_tile f nb i (suc n) low high h few below from to =
    (child_is_fragment f i nb h few (omega arith), sym from, children_tile f nb (i + 1) n (low + span (f.bits + nb)) high h few (omega arith) (omega (arith, from)) (omega (arith, to)))

module _ (f : Fragment) (nb : ℕ) where
  abbrev children : List Fragment
  children = map (λ i. child_of f i nb) (range_with_len 0 (2 ^ nb))

  count : length children ≡ 2 ^ nb
  count = length-map-range_with_len (λ i. child_of f i nb) 0 (2 ^ nb)

  IsChild-from_leaf : (g : Fragment) → HasLeaf children g → IsChild f nb g
  IsChild-from_leaf g (k, stands, is) =
      let below : k < 2 ^ nb = omega (arith, count) in
      (k, below, sym is ∙ get_or-map-range_with_len (λ i. child_of f i nb) 0 (2 ^ nb) k k g below (omega arith))

  leaf_from_IsChild : (g : Fragment) → IsChild f nb g → HasLeaf children g
  leaf_from_IsChild g (k, below, is) = (k, omega (arith, count), get_or-map-range_with_len (λ i. child_of f i nb) 0 (2 ^ nb) k k g below (omega arith) ∙ sym is)

  pub splits : (xs : List Fragment) → IsTree xs → CanSplit xs f nb → (ys : List Fragment) × IsTree ys × IsSplit xs ys f nb
  splits xs tree can =
      let (whole, p) = parts 0 (2 ^ 24) xs f tree.tiles can.stands in
      let ys = p.front ++ (children ++ p.back) in
      let tiles = replaced_tiles f p.front (f ∷ []) children p.back p.before p.after (children_tile f nb 0 (2 ^ nb) f.value (f.value + span f.bits) whole can.fits.in_all (omega arith) (omega arith) (omega (arith, span-split f.bits nb can.fits.in_all))) in
      let long : length ys ≡ length (p.front ++ f ∷ p.back) - 1 + 2 ^ nb = omega (arith, length-append p.front (children ++ p.back), length-append children p.back, length-append p.front (f ∷ p.back), count) in
      let beside : (g : Fragment) → (g.value + span g.bits ≤ f.value) ⊎ (f.value + span f.bits ≤ g.value) → g ≢ f = λ g out same.
      elim out [ inl before ↦ omega (arith, before, ap (λ (k : Fragment). k.value) same, span_pos g.bits) | inr behind ↦ omega (arith, behind, ap (λ (k : Fragment). k.value) same, span_pos f.bits) ] in
      let leaves = replaced f p.front (f ∷ []) children p.back p.before p.after (λ g. g ≢ f) (IsChild f nb) beside (λ g here other. other (only_leaf f g here)) (λ g. (IsChild-from_leaf g, leaf_from_IsChild g)) in
      (ys, record { tiles = tiles; few = omega (arith, long, can.few, ap (length {A = Fragment}) p.is) }, subst (λ zs. IsSplit zs ys f nb) (sym p.is) (record { leaves = leaves; count = long }))
