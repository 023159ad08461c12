-- The nearest root of a leaf: there is one, and one alone.
use Rattle.subtree_map.proofs.Common.{Covers, HasAuthority, HasLeaf, HoldsDentry, Home, Homes, Ino, IsLive, IsSome, IsSubtrees, IsTable, Leaf, NearestRoot, None, Option, Rank, Reaches, Roots, Some, ap, hash_of, inherited, is_known, itself, known_by, known_reaches, leaves_of, or_left, parent_reaches, refl, some_pick, subst, suc, sym, tree_of_row, true, zero, ℕ, ◌==◌, ◌∙◌, ◌≡◌}
use Rattle.std.specs.FinMap as map
use Rattle.sorted_map.proofs.NatKeys as nat
use Rattle.subtree_map.proofs.Options.{not_none, value_of, one_value}

-- a directory that others stand in is known
pub parent_known : (homes : Homes) (covers : Covers) → IsTable homes covers → (x : ℕ) (home : Home) → map.get homes x ≡ Some home → is_known homes home.parent.0 ≡ true
parent_known homes covers table x home is =
    let up = table.rooted.rooted x home is in
    let rest = parent_reaches homes up.0 x home table.rooted.rootless is up.1 in
    reached rest.0 home.parent.0 rest.2
  where
    reached : (n p : ℕ) → Reaches homes n p → is_known homes p ≡ true
    reached zero p root = or_left (p == 1) _ (nat.is_same p 1 root)
    reached (suc n) p (h, is, reaches) = known_by homes p (Some h) is refl

-- one leaf holds a dentry
pub one_holder : (covers : Covers) (home : Home) (a b : Leaf) → HoldsDentry covers home a → HoldsDentry covers home b → a ≡ b
one_holder covers home a b p q =
    let dirs : a.0 ≡ b.0 = p.parent ∙ sym q.parent in
    let frags : a.1 ≡ b.1 = q.pick.alone a.1 p.pick.stands p.pick.contains in
    λ i. (dirs i, frags i)

-- the leaf that holds the dentry of a directory
pub some_holder : (homes : Homes) (covers : Covers) → IsTable homes covers → (home : Home) → (holder : Leaf) × HoldsDentry covers home holder
some_holder homes covers table home =
    let pick = some_pick (leaves_of covers home.parent.0) (hash_of home.name) (tree_of_row homes covers table home.parent.0) in
    ((home.parent, pick.0), record { parent = refl; pick = pick.1 })

pub holder_is_leaf : (homes : Homes) (covers : Covers) → IsTable homes covers → (x : ℕ) (home : Home) (holder : Leaf) → map.get homes x ≡ Some home → HoldsDentry covers home holder → IsLive homes covers holder
holder_is_leaf homes covers table x home holder is holds = record {
  known = subst (λ (d : Ino). is_known homes d.0 ≡ true) (sym holds.parent) (parent_known homes covers table x home is);
  stands = subst (λ (d : Ino). HasLeaf (leaves_of covers d.0) holder.1) (sym holds.parent) holds.pick.stands;
}

module _ (roots : Roots) (homes : Homes) (covers : Covers) where
  -- a root is its own nearest root
  pub is_itself : (leaf root : Leaf) (rank : Rank) → map.get roots leaf ≡ Some rank → NearestRoot roots homes covers leaf root → leaf ≡ root
  is_itself _ _ rank is (itself root r has) = refl
  is_itself _ _ rank is (inherited leaf holder root home none stands holds rest) = absurd (not_none _ rank none is)

  -- the nearest root of a leaf that is none is that of the leaf which holds the dentry of its directory
  pub followed : (leaf holder root : Leaf) (home : Home) → map.get roots leaf ≡ None → map.get homes leaf.0.0 ≡ Some home → HoldsDentry covers home holder → NearestRoot roots homes covers leaf root → NearestRoot roots homes covers holder root
  followed _ holder _ home none stands holds (itself root r has) = absurd (not_none _ r none has)
  followed _ holder _ home none stands holds (inherited leaf h root home' none' stands' holds' rest) =
      let homes_same : home' ≡ home = one_value _ home' home stands' stands in
      subst (λ x. NearestRoot roots homes covers x root) (one_holder covers home h holder (subst (λ k. HoldsDentry covers k h) homes_same holds') holds) rest

  pub one_root : (leaf a b : Leaf) → NearestRoot roots homes covers leaf a → NearestRoot roots homes covers leaf b → a ≡ b
  one_root _ _ b (itself root r has) other = is_itself root b r has other
  one_root _ _ b (inherited leaf holder a home none stands holds rest) other = one_root holder a b rest (followed leaf holder b home none stands holds other)

  -- the nearest root is a root
  pub is_ranked : (leaf root : Leaf) → NearestRoot roots homes covers leaf root → (rank : Rank) × (map.get roots root ≡ Some rank)
  is_ranked _ _ (itself root r has) = (r, has)
  is_ranked _ _ (inherited leaf holder root home none stands holds rest) = is_ranked holder root rest

  pub one_authority : (leaf : Leaf) (a b : Rank) → HasAuthority roots homes covers leaf a → HasAuthority roots homes covers leaf b → a ≡ b
  one_authority leaf a b p q = one_value _ a b (ap (map.get roots) (sym (one_root leaf p.root q.root p.nearest q.nearest)) ∙ p.ranked) q.ranked

  -- no way leads up from a leaf of the root directory, which is a root
  pub top_is_root : IsSubtrees roots homes covers → (leaf : Leaf) → IsLive homes covers leaf → leaf.0.0 ≡ 1 → IsSome (map.get roots leaf)
  top_is_root valid leaf is top =
      let there : HasLeaf (leaves_of covers 1) leaf.1 = subst (λ d. HasLeaf (leaves_of covers d) leaf.1) top is.stands in
      let key : ◌≡◌ {A = Leaf} (record { 0 = 1 }, leaf.1) leaf = λ i. (record { 0 = sym top i }, leaf.1) in
      subst (λ (k : Leaf). IsSome (map.get roots k)) key (valid.top leaf.1 there)

  has_root : IsTable homes covers → IsSubtrees roots homes covers → (n : ℕ) (leaf : Leaf) → IsLive homes covers leaf → Reaches homes n leaf.0.0 → (o : Option Rank) → map.get roots leaf ≡ o → (root : Leaf) × NearestRoot roots homes covers leaf root
  has_root table valid n leaf is reaches (Some r) has = (leaf, itself leaf r has)
  has_root table valid zero leaf is top None none = let there = value_of _ (top_is_root valid leaf is top) in absurd (not_none _ there.0 none there.1)
  has_root table valid (suc n) leaf is reaches None none =
      let up = some_holder homes covers table reaches.0 in
      let chain : Reaches homes n up.0.0.0 = subst (λ (d : Ino). Reaches homes n d.0) (sym up.1.parent) reaches.2 in
      let rest = has_root table valid n up.0 (holder_is_leaf homes covers table leaf.0.0 reaches.0 up.0 reaches.1 up.1) chain (map.get roots up.0) refl in
      (rest.0, inherited leaf up.0 rest.0 reaches.0 none reaches.1 up.1 rest.1)

  -- each leaf of a well-formed table has a nearest root
  pub some_root : IsTable homes covers → IsSubtrees roots homes covers → (leaf : Leaf) → IsLive homes covers leaf → (root : Leaf) × NearestRoot roots homes covers leaf root
  some_root table valid leaf is =
      let way = known_reaches homes table.rooted leaf.0.0 is.known in
      has_root table valid way.0 leaf is way.1 (map.get roots leaf) refl

  pub some_authority : IsTable homes covers → IsSubtrees roots homes covers → (leaf : Leaf) → IsLive homes covers leaf → (rank : Rank) × HasAuthority roots homes covers leaf rank
  some_authority table valid leaf is =
      let near = some_root table valid leaf is in
      let ranked = is_ranked leaf near.0 near.1 in
      (ranked.0, record { root = near.0; nearest = near.1; ranked = ranked.1 })

  -- where no way leads up from a leaf that is no root, it has none
  pub none_from_top : (leaf root : Leaf) → map.get roots leaf ≡ None → map.get homes leaf.0.0 ≡ None → NearestRoot roots homes covers leaf root → ⊥
  none_from_top _ _ none nowhere (itself root r has) = not_none _ r none has
  none_from_top _ _ none nowhere (inherited leaf holder root home gone stands holds rest) = let clash : None ≡ Some home = sym nowhere ∙ stands in cc
