-- Splits by 1 bit round each leaf spell the leaves.
use Rattle.fragtree.proofs.Common.{ContainsFragment, Descends, Err, Fragment, HasLeaf, SpellsLeaves, IsLedTo, IsSplitRound, IsTree, List, None, Ok, OnErr, Option, Result, Some, Spells, FragSplits, [], ap, arith, cases_lt, frag_of_hash, frag_cmp, get-empty, get_or_default, inl, inr, spelled_leaves, length, on, pow-le-pow_right, refl, root_fragment, span, splits_round, subst, suc, sym, there, zero, ℕ, ◌+◌, ◌<◌, ◌^◌, ◌∙◌, ◌∷◌, ◌≡◌, ◌≤◌}
use Rattle.std.specs.FinMap as map
use Rattle.fragtree.proofs.DescentLaws.{joined}
use Rattle.fragtree.proofs.Entries.{after_put, get_beside, get_put, one_or_other}
use Rattle.fragtree.proofs.Ranges.{span_pos, ends_low}
use Rattle.fragtree.proofs.Kept.{whole_tree}
use Rattle.fragtree.proofs.Spelled.{is_kept}
use Rattle.fragtree.proofs.Rounds.{frag_at-alike, not_within_round, within_round}
use Rattle.fragtree.proofs.Tilings.{between, leaf_at}
use Rattle.fragtree.proofs.TreeLaws.{one_leaf, only_leaf}

-- all splits are by 1 bit, of fragments round one of the leaves
abbrev pub AreRound : FragSplits → List Fragment → Type 0
AreRound splits leaves = (g : Fragment) (nb : ℕ) → map.get splits g ≡ Some nb → (nb ≡ 1) × (leaf : Fragment) × HasLeaf leaves leaf × (g.bits < leaf.bits) × (g ≡ frag_of_hash g.bits leaf.value)

by_ones : (round : ℕ → Option ℕ) (to : ℕ) → ((b : ℕ) → b < to → round b ≡ Some 1) → Descends round to 0
by_ones round zero each = there 0 refl
by_ones round (suc to) each =
    joined round to (suc to) 0 (by_ones round to (λ b below. each b (omega (arith, below)))) (on to 1 (each to (omega arith)) (there (to + 1) (omega arith)))

none_unless : (o : Option ℕ) → ((nb : ℕ) → o ≡ Some nb → ⊥) → o ≡ None
none_unless None never = refl
none_unless (Some nb) never = absurd (never nb refl)

pub made_spells : (s : FragSplits) (xs : List Fragment) → IsTree xs → AreRound s xs → ((leaf : Fragment) → HasLeaf xs leaf → IsLedTo s leaf leaf.bits) → Spells s xs
made_spells s xs tree are led = record {
  some = λ f nb is. omega (arith, (are f nb is).0);
  ends = λ g stands h low high.
      let whole = (between 0 (2 ^ 24) xs g tree.tiles stands).0 in
      record {
        descends = by_ones (splits_round s h) g.bits (λ b below. ap (map.get s) (frag_at-alike g h b whole low high (omega (arith, below))) ∙ led g stands b below);
        -- no fragment within a leaf is round a leaf
        nothing = λ b more few. none_unless (map.get s (frag_of_hash b h)) (λ nb is.
            let (one, leaf, stands2, less, same) = are (frag_of_hash b h) nb is in
            let within = subst (ContainsFragment g) same (within_round g h b whole (omega (arith, high, ends_low g whole)) few low high more) in
            let apart : (g.value ≤ leaf.value) × (leaf.value < g.value + span g.bits) → ⊥ = λ w.
            let only = one_leaf xs g leaf leaf.value tree stands stands2 w.0 w.1 (omega arith) (omega (arith, span_pos leaf.bits)) in
            omega (arith, less, more, ap (λ (f : Fragment). f.bits) only) in
            not_within_round g leaf.value b whole (between 0 (2 ^ 24) xs leaf tree.tiles stands2).0.in_range few apart within);
      };
}

-- no splits at first
pub none_round : (s : FragSplits) (xs : List Fragment) → s ≡ map.empty → AreRound s xs
none_round s xs is g nb split = let clash : None ≡ Some nb = sym (ap (λ (m : FragSplits). map.get m g) is ∙ get-empty frag_cmp g) ∙ split in cc

-- `*` alone is spelled by none
pub whole_keeps : (s : FragSplits) → s ≡ map.empty → (spelled_leaves s 1 ≡ root_fragment ∷ []) × SpellsLeaves s 1
whole_keeps s is =
    let led : (leaf : Fragment) → HasLeaf (root_fragment ∷ []) leaf → IsLedTo s leaf leaf.bits = λ leaf has b below. absurd (omega (arith, below, ap (λ (g : Fragment). g.bits) (only_leaf root_fragment leaf has))) in
    is_kept s (root_fragment ∷ []) 1 whole_tree (made_spells s (root_fragment ∷ []) whole_tree (none_round s (root_fragment ∷ []) is) led) refl

pub all_led : (s : FragSplits) (xs : List Fragment) → ((j : ℕ) → j < length xs → IsLedTo s (leaf_at xs j) (leaf_at xs j).bits) → (leaf : Fragment) → HasLeaf xs leaf → IsLedTo s leaf leaf.bits
all_led s xs led leaf (k, stands, is) =
    let same : leaf_at xs k ≡ leaf = get_or_default xs k root_fragment leaf stands ∙ is in
    subst (λ (g : Fragment). IsLedTo s g g.bits) same (led k stands)

pub one_more : (old s : FragSplits) (leaf : Fragment) (bits : ℕ) → IsSplitRound old s leaf bits → IsSplitRound old (map.insert s (frag_of_hash bits leaf.value) 1) leaf (bits + 1)
one_more old s leaf bits w = record {
  led = λ b below. elim (cases_lt b bits) [
    | inl less ↦ get_beside s (frag_of_hash bits leaf.value) 1 (frag_of_hash b leaf.value) (λ same. omega (arith, ap (λ (k : Fragment). k.bits) same, less)) ∙ w.led b less
    | inr more ↦
        let same : b ≡ bits = omega (arith, below, more) in
        ap (λ n. map.get (map.insert s (frag_of_hash bits leaf.value) 1) (frag_of_hash n leaf.value)) same ∙ get_put s (frag_of_hash bits leaf.value) 1
  ];
  kept = λ g is. elim (one_or_other g (frag_of_hash bits leaf.value)) [
    | inl same ↦ ap (map.get (map.insert s (frag_of_hash bits leaf.value) 1)) same ∙ get_put s (frag_of_hash bits leaf.value) 1
    | inr other ↦ get_beside s (frag_of_hash bits leaf.value) 1 g other ∙ w.kept g is
  ];
  fewer = λ g nb is. elim (after_put s (frag_of_hash bits leaf.value) 1 g nb is) [
    | inl (same, one) ↦
        let bits_are : g.bits ≡ bits = ap (λ (k : Fragment). k.bits) same in
        inr (sym one, omega (arith, bits_are), same ∙ ap (λ b. frag_of_hash b leaf.value) (sym bits_are))
    | inr other ↦ elim (w.fewer g nb other) [ inl before ↦ inl before | inr now ↦ inr (now.0, omega (arith, now.1), now.2) ]
  ];
}

-- a tree of which a leaf fixes some bits has two leaves or more: one alone fixes none
pub several : (xs : List Fragment) (leaf : Fragment) → IsTree xs → HasLeaf xs leaf → 0 < leaf.bits → 2 ≤ length xs
several [] leaf tree (k, stands, is) some = absurd (omega (arith, stands))
several (f ∷ []) leaf tree has some =
    let same : leaf.bits ≡ f.bits = ap (λ (g : Fragment). g.bits) (only_leaf f leaf has) in
    let whole : 0 + span f.bits ≡ 2 ^ 24 = tree.tiles.2 in
    let half : span f.bits ≤ 2 ^ 23 = pow-le-pow_right (omega arith) {j = 23} (omega (arith, some, same)) in
    absurd (omega (arith, whole, half))
several (f ∷ g ∷ fs) leaf tree has some = omega arith

pub on_err : {A E : Type 0} (result : Result A E) {P : Type 0} → P → OnErr result P
on_err (Ok x) is = tt
on_err (Err error) is = is
