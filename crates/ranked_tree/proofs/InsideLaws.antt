-- A walk over the leaves of a directory that lie properly inside a fragment, from hash to hash.
use Rattle.ranked_tree.proofs.Common.{Contains-from_range, Covers, Fragment, HasLeaf, Homes, Ino, IsFragment, IsInsideAt, IsLive, IsPick, IsTree, List, None, Some, and_from, and_parts, ap, arith, cases_lt, contains_start, ends_before, ends_low, ends_within, eq-eqb, eqb-true, false, is_inside, leaves, leaves_of, lies_inside, lies_inside-true, range_from_Contains, range_from_inside, refl, span, subst, sym, true, ℕ, ⊎_elim, ◌%◌, ◌+◌, ◌<◌, ◌==◌, ◌^◌, ◌∙◌, ◌≡◌, ◌≤◌, Leaf}
use Rattle.mds_types.specs.Frag.{Contains}
use Rattle.subtree_map.proofs.Covers.{is_fragment, one_leaf}

module _ (leaves : List Fragment) (tree : IsTree leaves) (f : Fragment) (valid : IsFragment f) (hash : ℕ) where
  module _ (from : f.value ≤ hash) (within : hash < f.value + span f.bits) (leaf : Fragment) (pick : IsPick leaves hash leaf) where
    its : IsFragment leaf
    its = is_fragment leaves leaf tree pick.stands

    range : (leaf.value ≤ hash) × (hash < leaf.value + span leaf.bits)
    range =
        let ends = range_from_Contains leaf hash its pick.contains in
        let low : hash < 2 ^ 24 = omega (arith, within, ends_low f valid) in
        let same : hash % 2 ^ 24 ≡ hash = omega (arith, low) in
        (omega (arith, ends.0, same), omega (arith, ends.1, same))

    -- where the leaf at the hash contains the fragment, no leaf lies inside
    pub none_inside : lies_inside f leaf ≡ false → IsInsideAt leaves f hash None
    none_inside outside g has inside =
        let fewer : leaf.bits ≤ f.bits =
        ⊎_elim (λ less.
        let start : leaf.value < f.value → ⊥ = λ before. let ends = ends_before f leaf valid its (omega (arith, less)) before in omega (arith, ends, from, range.1) in
        let clash : true ≡ false = sym (lies_inside-true f leaf valid less (omega (arith, start)) (omega (arith, range.0, within))) ∙ outside in
        absurd cc) (λ few. few) (cases_lt f.bits leaf.bits) in
        let start : f.value < leaf.value → ⊥ = λ after. let ends = ends_before leaf f its valid fewer after in omega (arith, ends, within, range.0) in
        let ends = ends_within leaf f its valid fewer (omega (arith, from, range.1)) in
        let of_g = is_fragment leaves g tree has in
        let inner = range_from_inside f g valid inside in
        let same : g.value % 2 ^ 24 ≡ g.value = omega (arith, of_g.in_range) in
        let holds : Contains leaf g.value = Contains-from_range leaf g.value its (omega (arith, same, start, inner.1)) (omega (arith, same, ends, inner.2)) in
        let one : leaf ≡ g = one_leaf leaves leaf g g.value tree pick.stands has holds (contains_start g of_g) in
        let bits : leaf.bits ≡ g.bits = ap (λ (h : Fragment). h.bits) one in
        absurd (omega (arith, bits, fewer, inner.0))

-- each turn comes nearer to the end of all hashes
pub walk_on : (leaves : List Fragment) (f : Fragment) (hash : ℕ) (leaf : Fragment) (end : ℕ) → IsTree leaves → IsInsideAt leaves f hash (Some leaf) → end ≡ leaf.value + span leaf.bits → (hash < end) × (end ≤ 2 ^ 24)
walk_on leaves f hash leaf end tree at ends = (omega (arith, at.3, ends), omega (arith, ends, ends_low leaf (is_fragment leaves leaf tree at.0)))

-- of each leaf inside that begins before a hash this holds
abbrev pub Done : List Fragment → Fragment → (Fragment → Type 0) → ℕ → Type 0
Done leaves f P hash = (g : Fragment) → HasLeaf leaves g → lies_inside f g ≡ true → g.value < hash → P g

module _ (leaves : List Fragment) (tree : IsTree leaves) (f : Fragment) (valid : IsFragment f) (P : Fragment → Type 0) where
  pub walk_starts : Done leaves f P f.value
  walk_starts g has inside before = let range = range_from_inside f g valid inside in absurd (omega (arith, before, range.1))

  pub walk_goes : (hash : ℕ) (leaf : Fragment) (end : ℕ) → Done leaves f P hash → IsInsideAt leaves f hash (Some leaf) → P leaf → end ≡ leaf.value + span leaf.bits → Done leaves f P end
  walk_goes hash leaf end done at holds ends g has inside before =
      ⊎_elim (done g has inside)
      (λ behind.
      let its = is_fragment leaves leaf tree at.0 in
      let of_g = is_fragment leaves g tree has in
      let same : g.value % 2 ^ 24 ≡ g.value = omega (arith, of_g.in_range) in
      let contains : Contains leaf g.value = Contains-from_range leaf g.value its (omega (arith, same, at.2, behind)) (omega (arith, same, ends, before)) in
      subst P (one_leaf leaves leaf g g.value tree at.0 has contains (contains_start g of_g)) holds) (cases_lt g.value hash)

  -- where none is left it holds of all inside
  pub walk_ends : (hash : ℕ) → Done leaves f P hash → IsInsideAt leaves f hash None → (g : Fragment) → HasLeaf leaves g → lies_inside f g ≡ true → P g
  walk_ends hash done none g has inside = done g has inside (none g has inside)

-- what holds of all leaves of a directory inside a fragment, in the words of all leaves
pub of_all : (homes : Homes) (covers : Covers) (dir : Ino) (f : Fragment) (P : Leaf → Type 0) → ((g : Fragment) → HasLeaf (leaves_of covers dir.0) g → lies_inside f g ≡ true → P (dir, g))
    → (leaf : Leaf) → IsLive homes covers leaf → is_inside dir.0 f leaf ≡ true → P leaf
of_all homes covers dir f P all leaf live inside =
    let both = and_parts (leaf.0.0 == dir.0) (lies_inside f leaf.1) inside in
    let here : leaf.0.0 ≡ dir.0 = eqb-true _ _ both.0 in
    let there : (dir, leaf.1) ≡ leaf = λ i. (record { 0 = sym here i }, leaf.1) in
    subst P there (all leaf.1 (subst (λ (d : ℕ). HasLeaf (leaves_of covers d) leaf.1) here live.stands) both.1)

-- one of them is a live leaf inside
pub is_within : (dir : Ino) (f g : Fragment) → lies_inside f g ≡ true → is_inside dir.0 f (dir, g) ≡ true
is_within dir f g inside = and_from (dir.0 == dir.0) (lies_inside f g) (eq-eqb dir.0 dir.0 refl) inside
