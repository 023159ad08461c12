-- The leaves that a change names, and the ranks that hold them.
use Rattle.ranked_tree.proofs.Common.{AreHeld, AreHeldAt, AreOneRank, CacheMap, Change, Fragment, HoldsAt, Home, Homes, IfSome, IfSome_then, Ino, Inode, IsLive, IsNamedIn, IsPick, IsSound, IsSpot, IsThat, Leaf, MayChange, MayCome, MayHoldEach, NamesDir, Option, Roots, Rules, Shape, Some, Spot, add, adds, ap, dentry_at, false, first_leaf, hash_of, inl, inr, is_dir_kind, is_directory, is_known, is_some, known_is, leaf_of, leaves_of, may_come, move, one_authority, refl, remove, set, shape_of, shown_tree, subst, sym, true, ℕ, ⊎_elim, ◌||◌, ◌∙◌, ◌≡◌, ◌⊎◌, State}
use Rattle.sorted_map.proofs.NatKeys as nat
use Rattle.ranked_tree.proofs.HeldLaws.{is_that, may_hold}

-- a directory that comes in was not known
pub is_unknown : (homes : Homes) (d : ℕ) (home : Home) → MayCome homes d home → is_known homes d ≡ false
is_unknown homes d home may = λ i. nat.is_apart d 1 may.other i || is_some (may.fresh i)

pub was_unknown : (homes : Homes) (d : ℕ) (home : Home) → MayCome homes d home → is_known homes d ≡ true → ⊥
was_unknown homes d home may known = let clash : true ≡ false = sym known ∙ is_unknown homes d home may in cc

module _ (s : State) (sound : IsSound s) where
  -- the leaf that the hash of a name picks of a directory is live
  pub pick_live : (dir : Ino) (hash : ℕ) (f : Fragment) → is_directory (shown_tree s) dir.0 ≡ true → IsPick (leaves_of s.covers dir.0) hash f → IsLive s.homes s.covers (dir, f)
  pick_live dir hash f is pick = record { known = known_is (shown_tree s) s.homes sound.tabled dir.0 ∙ is; stands = pick.stands }

  -- the leaf of a spot in a directory that is there is live
  spot_live : (spot : Spot) → is_directory (shown_tree s) spot.at.dir.0 ≡ true → IsSpot s.covers spot → IsLive s.homes s.covers (leaf_of spot.at)
  spot_live spot is pick = pick_live spot.at.dir (hash_of spot.name) spot.at.frag is pick

  -- the leaves that a change names are live
  pub named_live : (change : Change) → Shape change → MayChange (shown_tree s) s.covers change → IfSome change.takes (λ (spot : Spot). IsLive s.homes s.covers (leaf_of spot.at)) × IfSome change.puts (λ (put : Spot × Inode). IsLive s.homes s.covers (leaf_of put.0.at))
  named_live _ (add spot inode) may = (tt, spot_live spot may.takes.parent may.carries.put)
  named_live _ (set spot inode) may = (tt, spot_live spot (sound.tabled.whole.parents spot.at.dir.0 spot.name may.takes.before may.takes.stands) may.carries.put)
  named_live _ (remove spot went) may = (spot_live spot (sound.tabled.whole.parents spot.at.dir.0 spot.name may.takes.inode may.takes.stands) may.carries.taken, tt)
  named_live _ (move source target inode went) may = (spot_live source (sound.tabled.whole.parents source.at.dir.0 source.name inode may.takes.stands) may.carries.taken, spot_live target may.takes.parent may.carries.put)

  pub taken_live : (change : Change) → MayChange (shown_tree s) s.covers change → (from : Spot) → change.takes ≡ Some from → IsLive s.homes s.covers (leaf_of from.at)
  taken_live change may from is = subst (λ (o : Option Spot). IfSome o (λ (spot : Spot). IsLive s.homes s.covers (leaf_of spot.at))) is (named_live change (shape_of (shown_tree s) s.covers change may) may).0

  pub put_live : (change : Change) → MayChange (shown_tree s) s.covers change → (put : Spot × Inode) → change.puts ≡ Some put → IsLive s.homes s.covers (leaf_of put.0.at)
  put_live change may put is = subst (λ (o : Option (Spot × Inode)). IfSome o (λ (to : Spot × Inode). IsLive s.homes s.covers (leaf_of to.0.at))) is (named_live change (shape_of (shown_tree s) s.covers change may) may).1

  -- the leaf of a directory that comes isn't live
  pub new_is_not_live : (spot : Spot) (inode : Inode) → MayChange (shown_tree s) s.covers (adds spot inode) → IsLive s.homes s.covers (first_leaf inode.ino) → ⊥
  new_is_not_live spot inode may live =
      let comes = may_come (shown_tree s) s.homes (dentry_at spot) inode sound.tabled may.takes in
      was_unknown s.homes inode.ino.0 _ comes live.known

  -- the leaves that a change names are used by ranks that hold them, where they are leaves
  module _ (roots : Roots) where
    at_spot : (r : ℕ) (q : Leaf) (spot : Spot) → IsLive s.homes s.covers (leaf_of spot.at) → HoldsAt s roots spot.at → IsThat spot.at.rank.0 (leaf_of spot.at) r q → (q.0.0 ≡ spot.at.dir.0) × IsLive s.homes s.covers q × Rules s roots q (record { 0 = r })
    at_spot r q spot live holds that = (ap (λ (l : Leaf). l.0.0) that.1, subst (IsLive s.homes s.covers) (sym that.1) live, is_that s roots (leaf_of spot.at) spot.at.rank holds r q that)

    pub named_by : (change : Change) → Shape change → MayChange (shown_tree s) s.covers change → AreHeldAt s roots change → (r : ℕ) (q : Leaf) → IsNamedIn change r q
        → (NamesDir change q.0.0 × IsLive s.homes s.covers q × Rules s roots q (record { 0 = r })) ⊎ ((spot : Spot) × (inode : Inode) × (change ≡ adds spot inode) × (is_dir_kind inode.kind ≡ true) × IsThat spot.at.rank.0 (first_leaf inode.ino) r q)
    named_by _ (add spot inode) able at r q (inl that) = inl (at_spot r q spot (named_live _ (add spot inode) able).1 at.put that)
    named_by _ (add spot inode) able at r q (inr first) = inr (spot, inode, refl, first.0, first.1)
    named_by _ (set spot inode) able at r q that = inl (at_spot r q spot (named_live _ (set spot inode) able).1 at.put that)
    named_by _ (remove spot went) able at r q that = inl (at_spot r q spot (named_live _ (remove spot went) able).0 at.taken that)
    named_by _ (move source target inode went) able at r q (inl that) = let its = at_spot r q source (named_live _ (move source target inode went) able).0 at.taken that in inl (inl its.0, its.1, its.2)
    named_by _ (move source target inode went) able at r q (inr that) = let its = at_spot r q target (named_live _ (move source target inode went) able).1 at.put that in inl (inr its.0, its.1, its.2)

    pub named_held : (change : Change) → MayChange (shown_tree s) s.covers change → AreHeldAt s roots change → (r : ℕ) (q : Leaf) → IsNamedIn change r q → IsLive s.homes s.covers q → Rules s roots q (record { 0 = r })
    named_held change may held r q is live =
        ⊎_elim (λ its. its.2) (λ new. absurd (new_is_not_live new.0 new.1 (subst (MayChange (shown_tree s) s.covers) new.2 may) (subst (IsLive s.homes s.covers) new.4.1 live))) (named_by change (shape_of (shown_tree s) s.covers change may) may held r q is)

    -- the ranks may hold the leaves; one leaf has one holder
    pub hold_each : (caches : CacheMap) → AreHeld s caches roots → (change : Change) → AreHeldAt s roots change → MayHoldEach caches change
    hold_each caches held change at = record {
      taken = IfSome_then change.takes at.taken (λ spot. may_hold s caches roots held (leaf_of spot.at) spot.at.rank);
      put = IfSome_then change.puts at.put (λ to. may_hold s caches roots held (leaf_of to.0.at) to.0.at.rank);
      one = one change.takes change.puts at.taken at.put;
    }
      where
        one : (takes : Option Spot) (puts : Option (Spot × Inode)) → IfSome takes (λ spot. HoldsAt s roots spot.at) → IfSome puts (λ put. HoldsAt s roots put.0.at) → AreOneRank takes puts
        one (Some spot) (Some to) here there = λ same. one_authority roots s.homes s.covers (leaf_of to.0.at) spot.at.rank to.0.at.rank (subst (λ (l : Leaf). Rules s roots l spot.at.rank) same here) there
        one _ _ here there = tt
