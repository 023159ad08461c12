-- The leaves properly inside a fragment, counted one after the other.
use Rattle.std.proofs.Common.{◌≡◌, ℕ, ◌+◌, ◌%◌, ◌^◌, ◌<◌, ◌≤◌, List, [], ◌∷◌, length, inl, inr, sym, ap, subst, arith}
use Rattle.std.proofs.Math.Nat.{mod-eq_of_lt}
use Rattle.std.proofs.lemmas.Bool.{cases_lt}
use Rattle.mds_types.specs.Frag.{Fragment, IsFragment, span}
use Rattle.fragtree.specs.FragTree.{Tiles, IsTree, HasLeaf, IsPick, leaves_inside}
use Rattle.fragtree.proofs.Merges.{finer, inside-append, none_before, none_behind, one_inside}
use Rattle.fragtree.proofs.Ranges.{span_pos, ends_before, ends_low, ends_within, lies_inside-true, range_from_Contains, Contains-from_range}
use Rattle.fragtree.proofs.Tilings.{first, later, of_parts, parts}

-- so many leaves inside f are counted, of which this is the last
pub record Counts (xs : List Fragment) (f leaf : Fragment) (count : ℕ) : Type 0 where
  pub rest : List Fragment
  pub some : (g : Fragment) → HasLeaf rest g → HasLeaf xs g
  pub tiles : Tiles (leaf.value + span leaf.bits) (2 ^ 24) rest
  pub from : f.value ≤ leaf.value
  pub within : leaf.value + span leaf.bits ≤ f.value + span f.bits
  pub left : count + length (leaves_inside f rest) ≡ length (leaves_inside f xs)

-- the pick of the hash where the leaves to come begin is the next of them
pub next_leaf : (xs rest : List Fragment) (next : ℕ) (leaf : Fragment) → Tiles next (2 ^ 24) rest → next < 2 ^ 24 → ((g : Fragment) → HasLeaf rest g → HasLeaf xs g) → IsPick xs next leaf → (gs : List Fragment) × (rest ≡ leaf ∷ gs)
next_leaf xs [] next leaf t low some p = absurd (omega (arith, t))
next_leaf xs (g ∷ gs) next leaf t low some p =
    let low_bits : next % 2 ^ 24 ≡ next = mod-eq_of_lt low in
    let has = Contains-from_range g next t.0 (omega (arith, t.1, low_bits)) (omega (arith, t.1, low_bits, span_pos g.bits)) in
    (gs, ap (λ k. k ∷ gs) (p.alone g (some g (first g gs)) has))

module _ (xs : List Fragment) (tree : IsTree xs) (f : Fragment) (whole : IsFragment f) where
  -- the pick of the first hash of f, and where it lies
  begun : (leaf : Fragment) → IsPick xs f.value leaf → (leaf.value ≤ f.value) × (f.value < leaf.value + span leaf.bits)
  begun leaf p =
      let r = range_from_Contains leaf f.value (parts 0 (2 ^ 24) xs leaf tree.tiles p.stands).0 p.contains in
      subst (λ n. (leaf.value ≤ n) × (n < leaf.value + span leaf.bits)) (mod-eq_of_lt whole.in_range) r

  pub none_counted : (leaf : Fragment) → IsPick xs f.value leaf → leaf.bits ≤ f.bits → length (leaves_inside f xs) ≡ 0
  none_counted leaf p coarse = elim (cases_lt 0 (length (leaves_inside f xs))) [
    | inl some ↦ absurd (omega (arith, finer f whole xs tree some leaf p.stands (omega (arith, (begun leaf p).0, span_pos f.bits)) (begun leaf p).1, coarse))
    | inr none ↦ omega arith
  ]

  pub first_counted : (leaf : Fragment) → IsPick xs f.value leaf → f.bits < leaf.bits → Counts xs f leaf 1
  first_counted leaf p more =
      let (fragment, q) = parts 0 (2 ^ 24) xs leaf tree.tiles p.stands in
      let r = begun leaf p in
      let not_before : leaf.value < f.value → ⊥ = λ before. omega (arith, ends_before f leaf whole fragment (omega arith) before, r.1) in
      let begins : leaf.value ≡ f.value = omega (arith, r.0, not_before) in
      let within : leaf.value < f.value + span f.bits = omega (arith, begins, span_pos f.bits) in
      let none = none_before f whole 0 q.front (subst (λ n. Tiles 0 n q.front) begins q.before) in
      let here = one_inside f leaf q.back (lies_inside-true f leaf whole more (omega arith) within) in
      record {
        rest = q.back;
        some = λ g stands. subst (λ ys. HasLeaf ys g) (sym q.is) (of_parts q.front (leaf ∷ []) q.back g (inl (inr stands)));
        tiles = q.after;
        from = omega arith;
        within = ends_within f leaf whole fragment (omega arith) within;
        left = omega (arith, ap (λ ys. length (leaves_inside f ys)) q.is, inside-append f q.front (leaf ∷ q.back), none, here);
      }

  module _ (leaf : Fragment) (count : ℕ) (c : Counts xs f leaf count) where
    -- all leaves before the end of f are counted
    pub all_counted : f.value + span f.bits ≤ leaf.value + span leaf.bits → count ≡ length (leaves_inside f xs)
    all_counted ends = omega (arith, c.left, none_behind f whole (leaf.value + span leaf.bits) (2 ^ 24) c.rest c.tiles ends)

    -- the leaf where the last one ends is the next
    pub next_counted : (next : Fragment) → leaf.value + span leaf.bits < f.value + span f.bits → IsPick xs (leaf.value + span leaf.bits) next → Counts xs f next (count + 1)
    next_counted next less p =
        let (gs, is) = next_leaf xs c.rest (leaf.value + span leaf.bits) next c.tiles (omega (arith, less, ends_low f whole)) c.some p in
        let t = subst (Tiles (leaf.value + span leaf.bits) (2 ^ 24)) is c.tiles in
        let behind : f.value < next.value = omega (arith, t.1, c.from, span_pos leaf.bits) in
        let within : next.value < f.value + span f.bits = omega (arith, t.1, less) in
        let not_coarse : next.bits ≤ f.bits → ⊥ = λ coarse. omega (arith, ends_before next f t.0 whole coarse behind) in
        let here = one_inside f next gs (lies_inside-true f next whole (omega (arith, not_coarse)) (omega arith) within) in
        record {
          rest = gs;
          some = λ g stands. c.some g (subst (λ ys. HasLeaf ys g) (sym is) (later next g gs stands));
          tiles = subst (λ n. Tiles (n + span next.bits) (2 ^ 24) gs) (sym t.1) t.2;
          from = omega arith;
          within = ends_within f next whole t.0 (omega (arith, not_coarse)) within;
          left = omega (arith, c.left, ap (λ ys. length (leaves_inside f ys)) is, here);
        }
