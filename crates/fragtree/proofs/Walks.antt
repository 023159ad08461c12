-- A walk over the leaves of a tree from one to the next.
use Rattle.std.proofs.Common.{◌≡◌, ◌≢◌, inl, inr, ℕ, ◌+◌, ◌^◌, ◌<◌, ◌≤◌, List, [], ◌∷◌, ◌++◌, length, take, drop, refl, sym, ap, subst, ◌∙◌, arith}
use Rattle.std.proofs.lemmas.List.{append-nil, drop-drop, length-drop, take-append-drop}
use Rattle.std.proofs.lemmas.List.Elements.{Contains-append_right, Contains-push_cases}
use Rattle.std.proofs.lemmas.List.Sums.{count_by-le-length, length-filter}
use Rattle.mds_types.specs.Frag.{Fragment, span}
use Rattle.fragtree.specs.FragTree.{Tiles, IsTree, IsPick, HasLeaf, lies_inside, leaves_inside}
use Rattle.fragtree.proofs.Counted.{next_leaf}
use Rattle.fragtree.proofs.Ranges.{span_pos}
use Rattle.fragtree.proofs.Tilings.{low_le_high}
use Rattle.fragtree.proofs.TreeLaws.{same_tiles}

pub none_at_end : (n high : ℕ) (xs : List Fragment) → Tiles n high xs → n ≡ high → xs ≡ []
none_at_end n high [] t same = refl
none_at_end n high (f ∷ fs) t same = absurd (omega (arith, low_le_high (n + span f.bits) high fs t.2, span_pos f.bits))

-- the leaf that contains the hash where those to come begin is the next
module _ (xs : List Fragment) (i next : ℕ) (t : Tiles next (2 ^ 24) (drop i xs)) (before : next ≢ 2 ^ 24) (leaf : Fragment) (p : IsPick xs next leaf) where
  left : (g : Fragment) → HasLeaf (drop i xs) g → HasLeaf xs g
  left g stands = subst (λ ys. HasLeaf ys g) (take-append-drop i xs) (Contains-append_right (take i xs) (drop i xs) g stands)

  pub next_is : drop i xs ≡ leaf ∷ drop (i + 1) xs
  next_is =
      let (gs, is) = next_leaf xs (drop i xs) next leaf t (omega (arith, low_le_high next (2 ^ 24) (drop i xs) t, before)) left p in
      is ∙ ap (λ ys. leaf ∷ ys) (sym (ap (drop 1) is) ∙ drop-drop 1 i xs)

  pub next_stands : i < length xs
  next_stands = omega (arith, ap (length {A = Fragment}) next_is, length-drop i xs)

  pub next_tiles : (after : ℕ) → after ≡ leaf.value + span leaf.bits → Tiles after (2 ^ 24) (drop (i + 1) xs)
  next_tiles after is =
      let u = subst (Tiles next (2 ^ 24)) next_is t in
      subst (λ n. Tiles n (2 ^ 24) (drop (i + 1) xs)) (omega (arith, u.1, is)) u.2

pub inside_few : (f : Fragment) (xs : List Fragment) → length (leaves_inside f xs) ≤ length xs
inside_few f xs = omega (arith, length-filter (lies_inside f) xs, count_by-le-length (lies_inside f) xs)

-- leaves of a tree that are leaves of another too
pub all_found : (xs done ys : List Fragment) → xs ≡ done ++ [] → ((g : Fragment) → HasLeaf done g → HasLeaf ys g) → IsTree xs → IsTree ys → xs ≡ ys
all_found xs done ys is all t u = same_tiles 0 (2 ^ 24) xs ys t.tiles u.tiles (λ g stands. all g (subst (λ zs. HasLeaf zs g) (is ∙ append-nil done) stands))

pub found_too : (done ys : List Fragment) (leaf : Fragment) → ((g : Fragment) → HasLeaf done g → HasLeaf ys g) → HasLeaf ys leaf → (g : Fragment) → HasLeaf (done ++ leaf ∷ []) g → HasLeaf ys g
found_too done ys leaf all here g stands = elim (Contains-push_cases done leaf g stands) [ inl before ↦ all g before | inr same ↦ subst (HasLeaf ys) same here ]
