-- What a leaf has once an operation was applied which moves and pins nothing it had before: its authority, its place and its effective pin.
use Rattle.cluster_core.proofs.Common.{Covers, Dentry, DirPins, Fragment, HasAuthority, HasLeaf, HasPin, HoldsPins, Homes, Ino, Inode, IsLive, IsSome, IsSubtrees, IsTable, IsTabled, IsUnused, Leaf, List, None, Option, Rank, Roots, Some, StandsAs, Tree, [], ap, cond, dentry_of, directory_stands, false, inherited, inl, inr, is_dir_kind, is_directory, is_known, is_some, known_is, leaves_of, one_authority, or_right, own, refl, root_fragment, some_authority, subst, sym, true, ℕ, ◌==◌, ◌∙◌, ◌∷◌, ◌≡◌, ◌⊎◌}
use Rattle.std.specs.FinMap as map
use Rattle.cluster_core.proofs.DirsStay.{CameOf, DirsStay, fresh, stood}

value_of : (o : Option Rank) → IsSome o → (rank : Rank) × (o ≡ Some rank)
value_of None some = let clash : false ≡ true = some in cc
value_of (Some rank) some = (rank, refl)

module _ (old new : Tree) (homes later : Homes) (pins noted : DirPins) (tabled : IsTabled old homes) (still : IsTabled new later) (pinned : HoldsPins old pins) (left : HoldsPins new noted) (stay : DirsStay old new) where
  -- what stood is known
  known_of : (d : ℕ) → is_directory old d ≡ true → is_known homes d ≡ true
  known_of d is = known_is old homes tabled d ∙ is

  -- a pin was there before
  pub pin_was : (d : ℕ) (rank : Rank) → map.get noted d ≡ Some rank → map.get pins d ≡ Some rank
  pin_was d rank is = go (left.stands d rank is)
    where
      go : (dentry : Dentry) × (inode : Inode) × (map.get new dentry ≡ Some inode) × (inode.ino.0 ≡ d) × (is_dir_kind inode.kind ≡ true) → map.get pins d ≡ Some rank
      go (dentry, inode, stands, same, kinded) = by (stay dentry inode stands kinded)
        where
          has : inode.pin ≡ Some rank
          has = sym (left.listed dentry inode stands kinded) ∙ ap (map.get noted) same ∙ is

          by : CameOf old dentry inode → map.get pins d ≡ Some rank
          by (stood before was ino kind pin) = ap (map.get pins) (sym (ap (λ (i : Ino). i.0) ino ∙ same)) ∙ pinned.listed dentry before was kind ∙ pin ∙ has
          by (fresh none unused) = let clash : None ≡ Some rank = sym none ∙ has in cc

  -- what has a pin is known
  pub pinned_known : (d : ℕ) (rank : Rank) → map.get pins d ≡ Some rank → is_known homes d ≡ true
  pinned_known d rank is = go (pinned.stands d rank is)
    where
      go : (dentry : Dentry) × (inode : Inode) × (map.get old dentry ≡ Some inode) × (inode.ino.0 ≡ d) × (is_dir_kind inode.kind ≡ true) → is_known homes d ≡ true
      go (dentry, inode, stands, same, kinded) = or_right (d == 1) _ (ap (λ x. is_some (map.get homes x)) (sym same) ∙ ap is_some (tabled.holds.listed dentry inode stands kinded))

  -- what is new wasn't known
  not_known : (d : ℕ) → is_known homes d ≡ true → IsUnused old d → ⊥
  not_known d known unused = go (directory_stands old d (sym (known_is old homes tabled d) ∙ known))
    where
      go : (d ≡ 1) ⊎ StandsAs old d → ⊥
      go (inl root) = unused.not_root root
      go (inr w) = unused.not_there w.dentry.dir.0 w.dentry.name w.inode w.stands w.numbered

  -- the effective pin of a directory that stood is what it was
  pub has_pin : (d : ℕ) (rank : Rank) → is_known homes d ≡ true → HasPin noted later d rank → HasPin pins homes d rank
  has_pin d rank known (own _ _ is) = own d rank (pin_was d rank is)
  has_pin d rank known (inherited _ home _ none is above) = go (still.holds.stands d home is) (λ here. has_pin home.parent.0 rank here above)
    where
      go : (inode : Inode) × (map.get new (dentry_of home.parent.0 home.name) ≡ Some inode) × (inode.ino.0 ≡ d) × (is_dir_kind inode.kind ≡ true)
          → (is_known homes home.parent.0 ≡ true → HasPin pins homes home.parent.0 rank) → HasPin pins homes d rank
      go (inode, stands, same, kinded) further = by (stay (dentry_of home.parent.0 home.name) inode stands kinded)
        where
          by : CameOf old (dentry_of home.parent.0 home.name) inode → HasPin pins homes d rank
          by (stood before was ino kind pin) =
              let its : before.ino.0 ≡ d = ap (λ (i : Ino). i.0) ino ∙ same in
              inherited d home rank
              (ap (map.get pins) (sym its) ∙ pinned.listed _ before was kind ∙ pin ∙ sym (left.listed _ inode stands kinded) ∙ ap (map.get noted) same ∙ none)
              (ap (map.get homes) (sym its) ∙ tabled.holds.listed _ before was kind)
              (further (known_of home.parent.0 (tabled.whole.parents home.parent.0 home.name before was)))
          by (fresh none unused) = absurd (not_known d known (subst (IsUnused old) same unused))

  module _ (covers carried : Covers) (roots after : Roots) (table : IsTable homes covers) (valid : IsSubtrees roots homes covers)
      (carries : (d : ℕ) → is_directory new d ≡ true → leaves_of carried d ≡ cond (is_directory old d) (leaves_of covers d) (root_fragment ∷ []))
      (kept : (leaf : Leaf) (rank : Rank) → IsLive homes covers leaf → IsLive later carried leaf → HasAuthority roots homes covers leaf rank → HasAuthority after later carried leaf rank)
      (were : (leaf : Leaf) → IsSome (map.get after leaf) → IsSome (map.get roots leaf)) where
    -- a subtree root, or a leaf of a pinned directory, was one
    pub place_was : (leaf : Leaf) → IsSome (map.get after leaf) ⊎ IsSome (map.get noted leaf.0.0) → IsSome (map.get roots leaf) ⊎ IsSome (map.get pins leaf.0.0)
    place_was leaf (inl root) = inl (were leaf root)
    place_was leaf (inr some) = let its = value_of (map.get noted leaf.0.0) some in inr (ap is_some (pin_was leaf.0.0 its.0 its.1))

    -- and its directory stood
    pub place_known : (leaf : Leaf) → IsSome (map.get roots leaf) ⊎ IsSome (map.get pins leaf.0.0) → is_known homes leaf.0.0 ≡ true
    place_known leaf (inl root) = (valid.live leaf root).known
    place_known leaf (inr some) = let its = value_of (map.get pins leaf.0.0) some in pinned_known leaf.0.0 its.0 its.1

    pub live_was : (leaf : Leaf) → is_known homes leaf.0.0 ≡ true → IsLive later carried leaf → IsLive homes covers leaf
    live_was leaf known live = record {
      known = known;
      stands = subst (λ (leaves : List Fragment). HasLeaf leaves leaf.1)
          (carries leaf.0.0 (sym (known_is new later still leaf.0.0) ∙ live.known) ∙ ap (λ b. cond b (leaves_of covers leaf.0.0) (root_fragment ∷ [])) (sym (known_is old homes tabled leaf.0.0) ∙ known))
          live.stands;
    }

    -- the authority of a leaf that stood is what it was
    pub mine_was : (leaf : Leaf) (rank : Rank) → IsLive homes covers leaf → IsLive later carried leaf → HasAuthority after later carried leaf rank → HasAuthority roots homes covers leaf rank
    mine_was leaf rank live lives has =
        let some = some_authority roots homes covers table valid leaf live in
        subst (λ (r : Rank). HasAuthority roots homes covers leaf r) (one_authority after later carried leaf some.0 rank (kept leaf some.0 live lives some.1) has) some.1
