-- Proposals: there is one at most, and its split passes the checks of splits.
use Rattle.cluster_core.proofs.Common.{CanSplit, DirPins, Event, ExportState, Greater, HasPin, Home, Homes, IsFirstKindOf, IsLarge, IsLargeIn, IsLeast, IsNextLeaf, IsNextOf, IsNextStep, IsSmallIn, Kind, Leaf, Less, List, None, OfExport, OfLarge, OfPin, OfSmall, Option, Rank, Sight, Some, Start, Would, WouldNot, [], ap, arith, inherited, inl, inr, leaf-total, leaf_cmp, leaves_of, not_none, one_value, ordering_reverse, own, refl, subst, sym, ℕ, ◌∙◌, ◌∷◌, ◌≡◌, ◌⊎◌}
use Rattle.export_steps.specs.declared.exports.ExportState.TheVariants as at

-- a directory has at most one effective pin
pub one_pin : (pins : DirPins) (homes : Homes) (d : ℕ) (a b : Rank) → HasPin pins homes d a → HasPin pins homes d b → a ≡ b
one_pin pins homes _ a b (own d _ is) (own _ _ other) = one_value _ a b is other
one_pin pins homes _ a b (own d _ is) (inherited _ home _ none stands rest) = absurd (not_none _ a none is)
one_pin pins homes _ a b (inherited d home _ none stands rest) (own _ _ is) = absurd (not_none _ b none is)
one_pin pins homes _ a b (inherited d home _ none stands rest) (inherited _ above _ none_too stands_too rest_too) =
    let homes_same : above ≡ home = one_value _ above home stands_too stands in
    one_pin pins homes home.parent.0 a b rest (subst (λ (h : Home). HasPin pins homes h.parent.0 b) homes_same rest_too)

-- an export has one next step
one_next : (s : Sight) (root : Leaf) (state : ExportState) (a b : Event) → IsNextStep s root state a → IsNextStep s root state b → a ≡ b
one_next s root at.Started a b (inl (is, may)) (inl (other, may_too)) = is ∙ sym other
one_next s root at.Started a b (inl (is, may)) (inr (other, none)) = absurd (none may.own)
one_next s root at.Started a b (inr (is, none)) (inl (other, may)) = absurd (none may.own)
one_next s root at.Started a b (inr (is, none)) (inr (other, none_too)) = is ∙ sym other
one_next s root at.Frozen a b is other = is ∙ sym other
one_next s root at.Prepared a b is other = is ∙ sym other
one_next s root at.Sent a b is other = is ∙ sym other
one_next s root at.Imported a b is other = is ∙ sym other

-- a rank would make one step of a kind at a leaf
one_step : (s : Sight) (kind : Kind) (leaf : Leaf) (a b : Event) → Would s kind leaf a → Would s kind leaf b → a ≡ b
one_step s OfExport leaf a b g h =
    let same : h.export ≡ g.export = one_value _ h.export g.export h.stands g.stands in
    one_next s leaf g.export.state a b g.next (subst (λ (e : _). IsNextStep s leaf e.state b) same h.next)
one_step s OfLarge leaf a b g h = g.is ∙ sym h.is
one_step s OfSmall leaf a b g h = g.is ∙ sym h.is
one_step s OfPin leaf a b g h =
    let same : g.to ≡ h.to = one_pin s.pins s.homes leaf.0.0 g.to h.to g.pin h.pin in
    g.is ∙ ap (λ (to : Rank). Start s.rank leaf.0 leaf.1 to) same ∙ sym h.is

not_both : (a b : Leaf) → leaf_cmp a b ≡ Less → leaf_cmp b a ≡ Less → ⊥
not_both a b less more =
    let clash : Less ≡ Greater = sym less ∙ leaf-total.antisymm a b ∙ ap ordering_reverse more in
    cc

one_least : (s : Sight) (kind : Kind) (a b : Event) → IsLeast s kind a → IsLeast s kind b → a ≡ b
one_least s kind a b g h = go (g.least h.leaf b h.would) (h.least g.leaf a g.would)
  where
    go : (h.leaf ≡ g.leaf) ⊎ (leaf_cmp g.leaf h.leaf ≡ Less) → (g.leaf ≡ h.leaf) ⊎ (leaf_cmp h.leaf g.leaf ≡ Less) → a ≡ b
    go (inl same) other = one_step s kind g.leaf a b g.would (subst (λ (l : Leaf). Would s kind l b) same h.would)
    go (inr less) (inl same) = one_step s kind h.leaf a b (subst (λ (l : Leaf). Would s kind l a) same g.would) h.would
    go (inr less) (inr more) = absurd (not_both g.leaf h.leaf less more)

pub one_first : (s : Sight) (kinds : List Kind) (a b : Option Event) → IsFirstKindOf s kinds a → IsFirstKindOf s kinds b → a ≡ b
one_first s [] None None g h = refl
one_first s [] None (Some b) g h = absurd h
one_first s [] (Some a) b g h = absurd g
one_first s (kind ∷ others) None None g h = refl
one_first s (kind ∷ others) None (Some b) (none, rest) (inl is) = absurd (none is.leaf b is.would)
one_first s (kind ∷ others) None (Some b) (none, rest) (inr (none_too, rest_too)) = one_first s others None (Some b) rest rest_too
one_first s (kind ∷ others) (Some a) None (inl is) (none, rest) = absurd (none is.leaf a is.would)
one_first s (kind ∷ others) (Some a) None (inr (none, rest)) (none_too, rest_too) = one_first s others (Some a) None rest rest_too
one_first s (kind ∷ others) (Some a) (Some b) (inl is) (inl other) = ap (λ (x : Event). Some x) (one_least s kind a b is other)
one_first s (kind ∷ others) (Some a) (Some b) (inl is) (inr (none, rest)) = absurd (none is.leaf a is.would)
one_first s (kind ∷ others) (Some a) (Some b) (inr (none, rest)) (inl is) = absurd (none is.leaf b is.would)
one_first s (kind ∷ others) (Some a) (Some b) (inr (none, rest)) (inr (none_too, rest_too)) = one_first s others (Some a) (Some b) rest rest_too

-- a proposed split passes the checks of splits
pub split_passes : (s : Sight) (leaf : Leaf) (event : Event) → IsLarge s leaf event → CanSplit (leaves_of s.covers leaf.0.0) leaf.1 3
split_passes s leaf event large = record {
  stands = large.idle.own.live.stands;
  fits = record { some = omega arith; at_once = omega arith; in_all = omega (arith, large.many.bits) };
  few = omega (arith, large.leaves);
}

-- without a candidate of a kind none of its steps would be made
pub none_export : (s : Sight) → IsNextOf s.exports s.rank None None → WouldNot s OfExport
none_export s none root event on = none root on.export on.stands on.exporter tt

pub none_large : (s : Sight) → IsNextLeaf (IsLargeIn s.cached) None None → WouldNot s OfLarge
none_large s none leaf event is = none leaf is.many tt

pub none_small : (s : Sight) → IsNextLeaf (IsSmallIn s.cached) None None → WouldNot s OfSmall
none_small s none whole event is = none whole is.few tt
