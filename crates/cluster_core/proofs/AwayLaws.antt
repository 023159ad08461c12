-- The first of the leaves that are to start for another rank.
use Rattle.cluster_core.proofs.Common.{Equal, Greater, IsAwayTo, IsBehind, IsFirst, IsFirstAway, IsFirstStep, IsLeast, IsNextLeaf, IsProposable, IsSome, Leaf, Less, None, OfPin, Option, Ordering, Rank, Roots, Sight, Some, Start, ap, cond, false, inl, inr, is_leaf_after, is_lt, is_some, leaf-exact, leaf-total, leaf_cmp, lesser_candidate, ordering_reverse, refl, subst, sym, true, ◌∙◌, ◌≡◌, ◌⊎◌}
use Rattle.std.specs.FinMap as map
use Rattle.cluster_core.proofs.WalkLaws.{IsWalked, ended, found, passed}

-- a leaf of these is to start
abbrev pub Starts : Sight → (Leaf → Type 0) → Leaf → Type 0
Starts s Place leaf = (to : Rank) × Place leaf × IsAwayTo s leaf to

module _ (s : Sight) (Place : Leaf → Type 0) where
  place_of : (leaf : Leaf) → Starts s Place leaf → Place leaf
  place_of leaf starts = starts.1

  pub away_found : (after : Option Leaf) (leaf : Leaf) (to : Rank) → IsWalked (Starts s Place) after → IsNextLeaf Place after (Some leaf) → IsAwayTo s leaf to → IsFirstAway s Place (Some (leaf, to))
  away_found after leaf to walked next away = (next.is, away, λ other another place its. found Place (Starts s Place) place_of after leaf walked next other (another, place, its))

  pub away_passed : (after : Option Leaf) (leaf : Leaf) → IsWalked (Starts s Place) after → IsNextLeaf Place after (Some leaf) → ((to : Rank) → IsAwayTo s leaf to → ⊥) → IsWalked (Starts s Place) (Some leaf)
  away_passed after leaf walked next none = passed Place (Starts s Place) place_of after leaf walked next (λ starts. none starts.0 starts.2)

  pub away_none : (after : Option Leaf) → IsWalked (Starts s Place) after → IsNextLeaf Place after None → IsFirstAway s Place None
  away_none after walked none = λ leaf to place away. ended Place (Starts s Place) place_of after walked none leaf (to, place, away)

-- the next root, in these words
is_behind : (after : Option Leaf) (leaf : Leaf) → is_leaf_after after leaf ≡ true → IsBehind after leaf
is_behind None leaf is = tt
is_behind (Some one) leaf is = go (leaf_cmp one leaf) is
  where
    go : (o : Ordering) → is_lt o ≡ true → o ≡ Less
    go Less is = refl
    go Equal is = let clash : false ≡ true = is in cc
    go Greater is = let clash : false ≡ true = is in cc

behind_is : (after : Option Leaf) (leaf : Leaf) → IsBehind after leaf → is_leaf_after after leaf ≡ true
behind_is None leaf is = refl
behind_is (Some one) leaf is = ap is_lt is

abbrev pub IsRootOf : Roots → Leaf → Type 0
IsRootOf roots leaf = IsSome (map.get roots leaf)

pub next_of_roots : (roots : Roots) (after : Option Leaf) (next : Option Leaf) → IsFirst roots (is_leaf_after after) next → IsNextLeaf (IsRootOf roots) after next
next_of_roots roots after (Some leaf) first = record { is = first.1; behind = is_behind after leaf first.0; least = λ other is behind. first.2 other (behind_is after other behind) is }
next_of_roots roots after None none = λ leaf is behind. let clash : true ≡ false = sym is ∙ ap is_some (none leaf (behind_is after leaf behind)) in cc

-- ---- the lesser of two

module _ (s : Sight) (P Q : Leaf → Type 0) where
  abbrev Both : Leaf → Type 0
  Both leaf = P leaf ⊎ Q leaf

  pub no_first : (other : Option (Leaf × Rank)) → IsFirstAway s P None → IsFirstAway s Q other → IsFirstAway s Both other
  no_first None none rest = λ leaf to place away. go leaf to away place
    where
      go : (leaf : Leaf) (to : Rank) → IsAwayTo s leaf to → P leaf ⊎ Q leaf → ⊥
      go leaf to away (inl p) = none leaf to p away
      go leaf to away (inr q) = rest leaf to q away
  no_first (Some at) none rest = (inr rest.0, rest.1, λ leaf to place away. go leaf to away place)
    where
      go : (leaf : Leaf) (to : Rank) → IsAwayTo s leaf to → P leaf ⊎ Q leaf → (leaf ≡ at.0) ⊎ (leaf_cmp at.0 leaf ≡ Less)
      go leaf to away (inl p) = absurd (none leaf to p away)
      go leaf to away (inr q) = rest.2 leaf to q away

  no_second : (one : Leaf × Rank) → IsFirstAway s P (Some one) → IsFirstAway s Q None → IsFirstAway s Both (Some one)
  no_second at first none = (inl first.0, first.1, λ leaf to place away. go leaf to away place)
    where
      go : (leaf : Leaf) (to : Rank) → IsAwayTo s leaf to → P leaf ⊎ Q leaf → (leaf ≡ at.0) ⊎ (leaf_cmp at.0 leaf ≡ Less)
      go leaf to away (inl p) = first.2 leaf to p away
      go leaf to away (inr q) = absurd (none leaf to q away)

  of_two : (one other : Leaf × Rank) (o : Ordering) → leaf_cmp other.0 one.0 ≡ o → IsFirstAway s P (Some one) → IsFirstAway s Q (Some other) → IsFirstAway s Both (Some (cond (is_lt o) other one))
  of_two one other Less is first second = (inr second.0, second.1, λ leaf to place away. go leaf to away place)
    where
      on : (leaf : Leaf) → (leaf ≡ one.0) ⊎ (leaf_cmp one.0 leaf ≡ Less) → (leaf ≡ other.0) ⊎ (leaf_cmp other.0 leaf ≡ Less)
      on leaf (inl same) = inr (subst (λ (l : Leaf). leaf_cmp other.0 l ≡ Less) (sym same) is)
      on leaf (inr less) = inr (leaf-total.trans other.0 one.0 leaf is less)

      go : (leaf : Leaf) (to : Rank) → IsAwayTo s leaf to → P leaf ⊎ Q leaf → (leaf ≡ other.0) ⊎ (leaf_cmp other.0 leaf ≡ Less)
      go leaf to away (inl p) = on leaf (first.2 leaf to p away)
      go leaf to away (inr q) = second.2 leaf to q away
  of_two one other Equal is first second = (inl first.0, first.1, λ leaf to place away. go leaf to away place)
    where
      same_two : other.0 ≡ one.0
      same_two = leaf-exact other.0 one.0 is

      go : (leaf : Leaf) (to : Rank) → IsAwayTo s leaf to → P leaf ⊎ Q leaf → (leaf ≡ one.0) ⊎ (leaf_cmp one.0 leaf ≡ Less)
      go leaf to away (inl p) = first.2 leaf to p away
      go leaf to away (inr q) = subst (λ (l : Leaf). (leaf ≡ l) ⊎ (leaf_cmp l leaf ≡ Less)) same_two (second.2 leaf to q away)
  of_two one other Greater is first second = (inl first.0, first.1, λ leaf to place away. go leaf to away place)
    where
      less : leaf_cmp one.0 other.0 ≡ Less
      less = leaf-total.antisymm one.0 other.0 ∙ ap ordering_reverse is

      on : (leaf : Leaf) → (leaf ≡ other.0) ⊎ (leaf_cmp other.0 leaf ≡ Less) → (leaf ≡ one.0) ⊎ (leaf_cmp one.0 leaf ≡ Less)
      on leaf (inl same) = inr (subst (λ (l : Leaf). leaf_cmp one.0 l ≡ Less) (sym same) less)
      on leaf (inr more) = inr (leaf-total.trans one.0 other.0 leaf less more)

      go : (leaf : Leaf) (to : Rank) → IsAwayTo s leaf to → P leaf ⊎ Q leaf → (leaf ≡ one.0) ⊎ (leaf_cmp one.0 leaf ≡ Less)
      go leaf to away (inl p) = first.2 leaf to p away
      go leaf to away (inr q) = on leaf (second.2 leaf to q away)

  pub first_of_both : (one : Leaf × Rank) (other : Option (Leaf × Rank)) → IsFirstAway s P (Some one) → IsFirstAway s Q other → IsFirstAway s Both (Some (lesser_candidate one other))
  first_of_both one None first none = no_second one first none
  first_of_both one (Some other) first second = of_two one other (leaf_cmp other.0 one.0) refl first second

-- the step of the first
pub start_of : (s : Sight) (found : Leaf × Rank) → IsFirstAway s (IsProposable s) (Some found) → IsLeast s OfPin (Start s.rank found.0.0 found.0.1 found.1)
start_of s at first = record {
  leaf = at.0;
  would = record { to = at.1; own = first.1.own; place = first.0; pin = first.1.pin; other = first.1.other; there = first.1.there; thawed = first.1.thawed; none = first.1.none; is = refl };
  least = λ other event away. first.2 other away.to away.place (record { own = away.own; pin = away.pin; other = away.other; there = away.there; thawed = away.thawed; none = away.none });
}

pub start_none : (s : Sight) → IsFirstAway s (IsProposable s) None → IsFirstStep s OfPin None
start_none s none = λ leaf event away. none leaf away.to away.place (record { own = away.own; pin = away.pin; other = away.other; there = away.there; thawed = away.thawed; none = away.none })
