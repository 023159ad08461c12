-- The leaves properly inside a fragment, and why the fragment in their place makes a tree again.
use Rattle.std.proofs.Common.{◌≡◌, ◌⊎◌, inl, inr, ℕ, suc, ◌+◌, ◌^◌, ◌<◌, ◌≤◌, true, false, cond, List, [], ◌∷◌, ◌++◌, length, refl, sym, ap, subst, ◌∙◌, arith}
use Rattle.std.proofs.lemmas.Bool.{cases_Bool, cases_lt, false≢true}
use Rattle.std.proofs.lemmas.List.{length-append}
use Rattle.std.proofs.lemmas.List.Elements.{All-contains_itself, All-filter, All-get_or, Contains-append_left, Contains-append_right, filter-append, filter_passes}
use Rattle.mds_types.specs.Frag.{Fragment, IsFragment, root_fragment, span}
use Rattle.fragtree.specs.FragTree.{Tiles, IsTree, HasLeaf, IsMerge, lies_inside, leaves_inside}
use Rattle.fragtree.proofs.Ranges.{span_pos, ends_before, ends_low, ends_within, lies_inside-true, range_from_inside}
use Rattle.fragtree.proofs.Tilings.{between, cut, first, later, leaf_at, only_leaf, replaced, replaced_tiles}
use Rattle.fragtree.proofs.TreeLaws.{one_leaf}

pub inside-append : (f : Fragment) (xs ys : List Fragment) → length (leaves_inside f (xs ++ ys)) ≡ length (leaves_inside f xs) + length (leaves_inside f ys)
inside-append f xs ys = ap (length {A = Fragment}) (filter-append (lies_inside f) xs ys) ∙ length-append (leaves_inside f xs) (leaves_inside f ys)

pub one_inside : (f g : Fragment) (gs : List Fragment) → lies_inside f g ≡ true → length (leaves_inside f (g ∷ gs)) ≡ suc (length (leaves_inside f gs))
one_inside f g gs is = ap (λ b. length (cond b (g ∷ leaves_inside f gs) (leaves_inside f gs))) is

all_inside : (f : Fragment) (xs : List Fragment) → ((g : Fragment) → HasLeaf xs g → lies_inside f g ≡ true) → length (leaves_inside f xs) ≡ length xs
all_inside f [] each = refl
all_inside f (g ∷ gs) each = omega (arith, one_inside f g gs (each g (first g gs)), all_inside f gs (λ k stands. each k (later g k gs stands)))

pub none_inside : (f : Fragment) (xs : List Fragment) → ((g : Fragment) → HasLeaf xs g → lies_inside f g ≡ false) → length (leaves_inside f xs) ≡ 0
none_inside f [] each = refl
none_inside f (g ∷ gs) each = ap (λ b. length (cond b (g ∷ leaves_inside f gs) (leaves_inside f gs))) (each g (first g gs)) ∙ none_inside f gs (λ k stands. each k (later g k gs stands))

module _ (f : Fragment) (h : IsFragment f) where
  pub beside : (g : Fragment) → (g.value + span g.bits ≤ f.value) ⊎ (f.value + span f.bits ≤ g.value) → lies_inside f g ≡ false
  beside g out = elim (cases_Bool (lies_inside f g)) [
    | inr other ↦ other
    | inl is ↦ let w = range_from_inside f g h is in elim out [ inl before ↦ absurd (omega (arith, w.1, span_pos g.bits)) | inr behind ↦ absurd (omega (arith, w.2)) ]
  ]

  pub none_before : (low : ℕ) (xs : List Fragment) → Tiles low f.value xs → length (leaves_inside f xs) ≡ 0
  none_before low xs t = none_inside f xs (λ g stands. beside g (inl (between low f.value xs g t stands).2))

  pub none_behind : (low high : ℕ) (xs : List Fragment) → Tiles low high xs → f.value + span f.bits ≤ low → length (leaves_inside f xs) ≡ 0
  none_behind low high xs t out = none_inside f xs (λ g stands. beside g (inr (omega (arith, (between low high xs g t stands).1))))

  module _ (xs : List Fragment) (tree : IsTree xs) (some : 1 ≤ length (leaves_inside f xs)) where
    an_inside : (g : Fragment) × HasLeaf xs g × (lies_inside f g ≡ true)
    an_inside = (
      leaf_at (leaves_inside f xs) 0,
      All-get_or (HasLeaf xs) (leaves_inside f xs) 0 root_fragment some (All-filter (lies_inside f) (HasLeaf xs) xs (All-contains_itself xs)),
      All-get_or (λ g. lies_inside f g ≡ true) (leaves_inside f xs) 0 root_fragment some (filter_passes (lies_inside f) xs),
    )

    -- where a leaf lies inside f, each that shares a hash with f has more bits
    pub finer : (g : Fragment) → HasLeaf xs g → g.value < f.value + span f.bits → f.value < g.value + span g.bits → f.bits < g.bits
    finer g stands to from = elim (cases_lt f.bits g.bits) [
      | inl more ↦ more
      | inr coarse ↦
          let (k, stands2, is) = an_inside in
          let w = range_from_inside f k h is in
          let fragment = (between 0 (2 ^ 24) xs g tree.tiles stands).0 in
          let not_behind : f.value < g.value → ⊥ = λ behind. omega (arith, ends_before g f fragment h coarse behind) in
          let ends = ends_within g f fragment h coarse from in
          let one = one_leaf xs g k k.value tree stands stands2 (omega (arith, w.1, not_behind)) (omega (arith, w.2, ends)) (omega arith) (omega (arith, span_pos k.bits)) in
          absurd (omega (arith, w.0, coarse, ap (λ (j : Fragment). j.bits) one))
    ]

    -- so none passes over an end of f
    ends_apart : (g : Fragment) → HasLeaf xs g → (g.value < f.value → g.value + span g.bits ≤ f.value) × (g.value < f.value + span f.bits → g.value + span g.bits ≤ f.value + span f.bits)
    ends_apart g stands = elim (cases_lt f.value (g.value + span g.bits)) [
      | inr out ↦ (λ less. out, λ less. omega arith)
      | inl over ↦
          let fragment = (between 0 (2 ^ 24) xs g tree.tiles stands).0 in (
            λ less. ends_before f g h fragment (omega (arith, finer g stands (omega arith) over)) less,
            λ less. ends_within f g h fragment (omega (arith, finer g stands less over)) less,
          )
    ]

    pub merges : (ys : List Fragment) × IsTree ys × IsMerge xs ys f
    merges =
        let c = cut 0 f.value (2 ^ 24) xs tree.tiles (omega arith) (omega (arith, h.in_range)) (λ g stands. (ends_apart g stands).0) in
        let in_back = λ (g : Fragment) (stands : HasLeaf c.back g). subst (λ ys. HasLeaf ys g) (sym c.is) (Contains-append_right c.front c.back g stands) in
        let d = cut f.value (f.value + span f.bits) (2 ^ 24) c.back c.after (omega arith) (ends_low f h) (λ g stands. (ends_apart g (in_back g stands)).1) in
        let inside : (g : Fragment) → HasLeaf d.front g → lies_inside f g ≡ true = λ g stands.
        let b = between f.value (f.value + span f.bits) d.front g d.before stands in
        let below : g.value < f.value + span f.bits = omega (arith, b.2, span_pos g.bits) in
        let all = in_back g (subst (λ ys. HasLeaf ys g) (sym d.is) (Contains-append_left d.front d.back g stands)) in
        lies_inside-true f g h (finer g all below (omega (arith, b.1, span_pos g.bits))) b.1 below in
        let whole : xs ≡ c.front ++ (d.front ++ d.back) = c.is ∙ ap (λ ys. c.front ++ ys) d.is in
        let none_after = none_behind (f.value + span f.bits) (2 ^ 24) d.back d.after (omega arith) in
        let inner : length (leaves_inside f (c.front ++ (d.front ++ d.back))) ≡ length d.front =
        omega (arith, inside-append f c.front (d.front ++ d.back), inside-append f d.front d.back, none_before 0 c.front c.before, all_inside f d.front inside, none_after) in
        let count : length (c.front ++ f ∷ d.back) + length d.front ≡ length (c.front ++ (d.front ++ d.back)) + 1 =
        omega (arith, length-append c.front (f ∷ d.back), length-append c.front (d.front ++ d.back), length-append d.front d.back) in
        let gone : (g : Fragment) → HasLeaf d.front g → lies_inside f g ≡ false → ⊥ = λ g here out. false≢true (sym out ∙ inside g here) in
        let leaves = replaced f c.front d.front (f ∷ []) d.back c.before d.after (λ g. lies_inside f g ≡ false) (λ g. g ≡ f) beside gone (λ g. (only_leaf f g, λ same. subst (HasLeaf (f ∷ [])) (sym same) (first f []))) in
        let few : length (c.front ++ f ∷ d.back) ≤ 4096 = omega (arith, count, inner, ap (length {A = Fragment}) whole, ap (λ ys. length (leaves_inside f ys)) whole, tree.few) in (
          c.front ++ f ∷ d.back,
          record { tiles = replaced_tiles f c.front d.front (f ∷ []) d.back c.before d.after (h, refl, refl); few = few },
          subst (λ ys. IsMerge ys (c.front ++ f ∷ d.back) f) (sym whole) (record { leaves = leaves; count = omega (arith, count, inner) }),
        )
