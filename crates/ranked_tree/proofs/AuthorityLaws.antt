-- Whose a leaf is that was found.
use Rattle.ranked_tree.proofs.Common.{Bool, Core, Covers, Dirfrag, Fragment, HasAuthority, HasLeaf, HoldsAt, Home, Homes, Ino, IsAt, IsLeafAt, IsLive, IsOwned, IsPick, IsTrue, Leaf, MatchOption, None, Option, Rank, Roots, Rules, Some, ap, false, is_directory, is_known, known_is, leaf_of, leaves_of, none-some, one_authority, same_Some, shown_tree, state_of, subst, sym, true, ℕ, ◌↔◌, ◌∙◌, ◌≡◌}

-- whether the authority, which this rank is, is that one
pub authority_same : (roots : Roots) (homes : Homes) (covers : Covers) (leaf : Leaf) (its rank : Rank) (same : Bool) → (same ≡ true → its ≡ rank) → (its ≡ rank → same ≡ true) → HasAuthority roots homes covers leaf its → IsTrue same ↔ HasAuthority roots homes covers leaf rank
authority_same roots homes covers leaf its rank same there back has = (
  λ told. subst (HasAuthority roots homes covers leaf) (there told) has,
  λ other. back (one_authority roots homes covers leaf its rank has other),
)

-- whether the authority that was found is
pub authority_is : (roots : Roots) (homes : Homes) (covers : Covers) (leaf : Leaf) (rank : Rank) (found : Option Rank) (same : Bool) → (same ≡ true → found ≡ Some rank) → (found ≡ Some rank → same ≡ true)
    → MatchOption found ((other : Rank) → HasAuthority roots homes covers leaf other → ⊥) (HasAuthority roots homes covers leaf) → IsTrue same ↔ HasAuthority roots homes covers leaf rank
authority_is roots homes covers leaf rank None same there back tells = (λ told. absurd (none-some rank (there told)), λ has. absurd (tells rank has))
authority_is roots homes covers leaf rank (Some its) same there back tells = authority_same roots homes covers leaf its rank same (λ told. same_Some its rank (there told)) (λ one. back (ap Some one)) tells

-- where a hash falls, told of the directory table, is told of the tree
module _ (core : Core) (roots : Roots) (owned : IsOwned core roots) (dir : Ino) (hash : ℕ) (homes : Homes) (covers : Covers) (same : homes ≡ core.homes) (alike : covers ≡ core.covers) where
  pub nowhere : is_known homes dir.0 ≡ false → is_directory (shown_tree (state_of core)) dir.0 ≡ false
  nowhere none = sym (known_is (shown_tree (state_of core)) core.homes owned.sound.sound.tabled dir.0) ∙ subst (λ (hs : Homes). is_known hs dir.0 ≡ false) same none

  module _ (frag : Fragment) (above : Option Home) (is : IsLeafAt homes covers dir.0 hash frag above) where
    known : is_known core.homes dir.0 ≡ true
    known = subst (λ (hs : Homes). is_known hs dir.0 ≡ true) same is.known

    pick : IsPick (leaves_of core.covers dir.0) hash frag
    pick = subst (λ (cs : Covers). IsPick (leaves_of cs dir.0) hash frag) alike is.pick

    -- the leaf lies at the rank that holds it
    pub located : (at : Dirfrag) → at.dir ≡ dir → at.frag ≡ frag → HoldsAt (state_of core) roots at → IsAt (shown_tree (state_of core)) core.covers (HoldsAt (state_of core) roots) dir.0 hash at
    located at here this held = record {
      dir = ap (λ (d : Ino). d.0) here;
      stands = sym (known_is (shown_tree (state_of core)) core.homes owned.sound.sound.tabled dir.0) ∙ known;
      leaf = subst (IsPick (leaves_of core.covers dir.0) hash) (sym this) pick;
      held = held;
    }

-- a leaf is held by the rank at which it was found so
module _ (core : Core) (roots : Roots) (owned : IsOwned core roots) (dir : Ino) (frag : Fragment) (at : Dirfrag) (is : IsAt (shown_tree (state_of core)) core.covers (HoldsAt (state_of core) roots) dir.0 frag.value at) where
  pub found_held : at.frag ≡ frag → IsLive core.homes core.covers (dir, frag) × Rules (state_of core) roots (dir, frag) at.rank
  found_held same =
      let here : leaf_of at ≡ (dir, frag) = λ i. (record { 0 = is.dir i }, same i) in (
        record { known = known_is (shown_tree (state_of core)) core.homes owned.sound.sound.tabled dir.0 ∙ is.stands; stands = subst (HasLeaf (leaves_of core.covers dir.0)) same is.leaf.stands },
        subst (λ (leaf : Leaf). Rules (state_of core) roots leaf at.rank) here is.held,
      )

-- no leaf is in a directory that isn't there
pub none_held : (core : Core) (roots : Roots) → IsOwned core roots → (dir : Ino) (frag : Fragment) → is_directory (shown_tree (state_of core)) dir.0 ≡ false → IsLive core.homes core.covers (dir, frag) → ⊥
none_held core roots owned dir frag none live = let clash : false ≡ true = sym none ∙ sym (known_is (shown_tree (state_of core)) core.homes owned.sound.sound.tabled dir.0) ∙ live.known in cc
