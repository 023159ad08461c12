-- The effective pin of a directory, by the way up.
use Rattle.cluster_core.proofs.Common.{DirPins, HasPin, Home, Homes, Ino, IsNextPinned, IsSome, MatchOption, None, Option, Rank, Some, ap, false, inherited, inl, inr, is_none, is_some, not_none, one_value, own, subst, sym, true, ℕ, ◌↔◌, ◌∙◌, ◌≡◌, ◌⊎◌}
use Rattle.std.specs.FinMap as map

module _ (pins : DirPins) (homes : Homes) where
  -- without a pin of its own a directory has that of its parent
  pub up : (d : ℕ) (home : Home) (rank : Rank) → map.get pins d ≡ None → map.get homes d ≡ Some home → HasPin pins homes d rank → HasPin pins homes home.parent.0 rank
  up _ home rank none stands (own d _ is) = absurd (not_none _ rank none is)
  up _ home rank none stands (inherited d other _ _ is rest) = subst (λ (h : Home). HasPin pins homes h.parent.0 rank) (one_value _ other home is stands) rest

  -- where the way up ends, there is a pin, or none
  pub at_top : (d at : ℕ) (found : Option Rank) → found ≡ map.get pins at → IsSome (map.get pins at) ⊎ (map.get homes at ≡ None) → ((rank : Rank) → HasPin pins homes at rank ↔ HasPin pins homes d rank)
      → MatchOption found ((rank : Rank) → HasPin pins homes d rank → ⊥) (λ rank. HasPin pins homes d rank)
  at_top d at (Some rank) is top same = (same rank).0 (own at rank (sym is))
  at_top d at None is top same = λ rank has. none at rank is top ((same rank).1 has)
    where
      none : (x : ℕ) (rank : Rank) → None ≡ map.get pins x → IsSome (map.get pins x) ⊎ (map.get homes x ≡ None) → HasPin pins homes x rank → ⊥
      none _ rank is top (own x _ has) = not_none _ rank (sym is) has
      none _ rank is (inl some) (inherited x home _ _ stands rest) = let clash : false ≡ true = ap is_some is ∙ some in cc
      none _ rank is (inr top) (inherited x home _ _ stands rest) = not_none _ home top stands

  -- where no directory has a pin, none has an effective one
  pub unpinned : IsNextPinned pins None None → (d : ℕ) (rank : Rank) → HasPin pins homes d rank → ⊥
  unpinned none _ rank (own d _ is) = none d (ap is_some is) tt
  unpinned none _ rank (inherited d home _ _ _ rest) = unpinned none home.parent.0 rank rest

  pub unpinned_by : (found : Option Ino) → is_none found ≡ true → IsNextPinned pins None found → (d : ℕ) (rank : Rank) → HasPin pins homes d rank → ⊥
  unpinned_by None is none = unpinned none
  unpinned_by (Some dir) is next = let clash : false ≡ true = is in cc

-- the same pins, seen in another place
pub pin_over : (a b : DirPins) (x y : Homes) → a ≡ b → x ≡ y → (d : ℕ) (rank : Rank) → HasPin a x d rank → HasPin b y d rank
pin_over a b x y same too d rank has = subst (λ (h : Homes). HasPin b h d rank) too (subst (λ (p : DirPins). HasPin p x d rank) same has)
