-- The first leaf that contains a hash is its pick.
use Rattle.namespace_ops.proofs.Common.{Fragment, HasLeaf, IsPick, List, [], ap, arith, cond, false, first, first_or_later, inl, inr, is_apart, holds_hash, is_same, later, pick_of, same_or_apart, span, subst, sym, true, ℕ, ⊎_elim, ◌%◌, ◌/◌, ◌^◌, ◌∙◌, ◌∷◌, ◌≡◌, ◌⊎◌}
use Rattle.mds_types.specs.Frag.{Contains}

is_in_or_not : (f : Fragment) (hash : ℕ) → ((holds_hash f hash ≡ true) × Contains f hash) ⊎ ((holds_hash f hash ≡ false) × (Contains f hash → ⊥))
is_in_or_not f hash =
    ⊎_elim (λ same. inl (is_same _ _ same, same)) (λ apart. inr (is_apart _ _ apart, apart))
    (same_or_apart ((hash % 2 ^ 24) / span f.bits) (f.value / span f.bits))

module _ (hash : ℕ) (f : Fragment) (contains : Contains f hash) where
  other : (g : Fragment) (gs : List Fragment) → HasLeaf (g ∷ gs) f → (Contains g hash → ⊥) → HasLeaf gs f
  other g gs has apart = ⊎_elim (λ same. absurd (apart (subst (λ x. Contains x hash) (sym same) contains))) (λ h. h) (first_or_later g f gs has)

  among : (leaves : List Fragment) → HasLeaf leaves f → ((g : Fragment) → HasLeaf leaves g → Contains g hash → g ≡ f) → pick_of leaves hash ≡ f
  among [] (k, stands, is) alone = absurd (omega (arith, stands))
  among (g ∷ gs) has alone =
      ⊎_elim (λ w. ap (λ b. cond b g (pick_of gs hash)) w.0 ∙ alone g (first g gs) w.1)
      (λ w. ap (λ b. cond b g (pick_of gs hash)) w.0 ∙ among gs (other g gs has w.1) (λ h stands. alone h (later g h gs stands)))
      (is_in_or_not g hash)

-- where one leaf alone contains the hash, that is the one
pub picked : (leaves : List Fragment) (hash : ℕ) (f : Fragment) → IsPick leaves hash f → pick_of leaves hash ≡ f
picked leaves hash f pick = among hash f pick.contains leaves pick.stands pick.alone
