-- What splits and merges leave: each cached fragment is at its leaf's authority then.
use Rattle.ranked_tree.proofs.Common.{AllHave, AreHeld, CacheMap, Came, CameAt, CanMerge, CanSplit, Contains, Core, FitsSplit, Fragment, GivesToChildren, HasLeaf, Ino, IsAmongOr, IsFamilyAt, IsFamilyOf, IsFragment, IsLive, IsMergedHere, IsOwned, IsSoundCore, KeepsAuthorities, Leaf, MayNotRegroup, MergesFrags, Rank, Refusal, RefusesMerge, RefusesSplit, Roots, Rules, SplitsFrag, TakesOver, UsedAt, and_from, ap, arith, came_weaker, child_is_new, child_of, ending_at, eq-eqb, from_mapped, has_inside, in_directory, inl, inr, is_inside, is_known, leaves, leaves_inside, leaves_of, lies_inside, merged_is_new, not_found_weaker, range_from_inside, refl, rules, some_inside, state_of, subst, sym, tree_of_row, ⊎_elim, State}
use Rattle.std.specs.Prelude.{◌≡◌, ◌<◌, ◌==◌, ◌^◌, ℕ, true, map as each, length, List, Result, Ok, Err}
use Rattle.ranked_tree.proofs.HeldLaws.{HaveCaches, held_since, owned_came}

-- ---- why it was refused, in the words of whose places lack

pub regroup_on : (Can : Type 0) (Refuses : Refusal → Type 0) (s : State) (dir : Ino) (count : ℕ) (NoPlace Fewer : Type 0) (before after : ℕ) (reason : Refusal) → (NoPlace → Fewer)
    → MayNotRegroup Can Refuses s dir count NoPlace before after reason → MayNotRegroup Can Refuses s dir count Fewer before after reason
regroup_on Can Refuses s dir count NoPlace Fewer before after reason less =
    ⊎_elim (λ unknown. inl unknown) (⊎_elim (λ refused. inr (inl refused))
    (λ may. inr (inr (may.0, may.1, ⊎_elim (λ number. inl number) (λ has. inr (has.0, not_found_weaker NoPlace Fewer before after reason less has.1)) may.2))))

pub split_on : (NoPlace Fewer : Type 0) (old new : Core) (dir : Ino) (frag : Fragment) (nb : ℕ) (result : Result (Unit {0}) Refusal) → (NoPlace → Fewer) → SplitsFrag NoPlace old new dir frag nb result → SplitsFrag Fewer old new dir frag nb result
split_on NoPlace Fewer old new dir frag nb (Ok done) less split = split
split_on NoPlace Fewer old new dir frag nb (Err reason) less (because, undone) =
    (regroup_on (CanSplit (leaves_of old.covers dir.0) frag nb) (RefusesSplit (leaves_of old.covers dir.0) frag nb) (state_of old) dir (2 ^ nb) NoPlace Fewer old.faults new.faults reason less because, undone)

pub merge_on : (NoPlace Fewer : Type 0) (old new : Core) (dir : Ino) (frag : Fragment) (result : Result (Unit {0}) Refusal) → (NoPlace → Fewer) → MergesFrags NoPlace old new dir frag result → MergesFrags Fewer old new dir frag result
merge_on NoPlace Fewer old new dir frag (Ok done) less merged = merged
merge_on NoPlace Fewer old new dir frag (Err reason) less (because, undone) =
    (regroup_on (CanMerge (leaves_of old.covers dir.0) frag) (RefusesMerge (leaves_of old.covers dir.0) frag) (state_of old) dir 1 NoPlace Fewer old.faults new.faults reason less because, undone)

-- ---- leaves inside a fragment

module _ (s : State) (dir : Ino) (frag : Fragment) (known : is_known s.homes dir.0 ≡ true) where
  -- it is live, and lies inside
  pub inside_live : (q : Leaf) → Contains (each (in_directory dir.0) (leaves_inside frag (leaves_of s.covers dir.0))) q → IsLive s.homes s.covers q × (is_inside dir.0 frag q ≡ true)
  inside_live q contains =
      let w = from_mapped dir (leaves_inside frag (leaves_of s.covers dir.0)) q contains in
      let has = has_inside frag w.0 (leaves_of s.covers dir.0) w.1 in
      let live : IsLive s.homes s.covers (dir, w.0) = record { known = known; stands = has.0 } in
      subst (λ (l : Leaf). IsLive s.homes s.covers l × (is_inside dir.0 frag l ≡ true)) (sym w.2) (live, and_from (dir.0 == dir.0) (lies_inside frag w.0) (eq-eqb dir.0 dir.0 refl) has.1)

  -- where leaves can be merged, one is live and lies inside
  pub one_inside : CanMerge (leaves_of s.covers dir.0) frag → (g : Fragment) × IsLive s.homes s.covers (dir, g) × (is_inside dir.0 frag (dir, g) ≡ true) × (lies_inside frag g ≡ true)
  one_inside can =
      let w = some_inside (leaves_of s.covers dir.0) frag can.some in
      (w.0, record { known = known; stands = w.1 }, and_from (dir.0 == dir.0) (lies_inside frag w.0) (eq-eqb dir.0 dir.0 refl) w.2, w.2)

-- none of them begins before the fragment
pub none_before : (leaves : List Fragment) (frag : Fragment) → IsFragment frag → CanMerge leaves frag → ((g : Fragment) → HasLeaf leaves g → lies_inside frag g ≡ true → g.value < frag.value) → ⊥
none_before leaves frag valid can before =
    let w = some_inside leaves frag can.some in
    let range = range_from_inside frag w.0 valid w.2 in
    let less = before w.0 w.1 w.2 in
    omega (arith, range.1, less)

-- ---- which fragments come

pub family_came : (s : State) (roots : Roots) (rank : Rank) (dir : Ino) (frag : Fragment) (nb : ℕ) → Rules s roots (dir, frag) rank → (old new : CacheMap)
    → Came (IsFamilyAt rank.0 dir frag nb) (IsFamilyAt rank.0 dir frag nb) old new → CameAt (Rules s roots (dir, frag)) (IsFamilyOf dir frag nb) old new
family_came s roots rank dir frag nb rules old new came =
    came_weaker (IsFamilyAt rank.0 dir frag nb) (IsFamilyAt rank.0 dir frag nb) (UsedAt (Rules s roots (dir, frag)) (IsFamilyOf dir frag nb)) (λ r q. IsFamilyOf dir frag nb q)
    (λ r q. ⊎_elim (λ it. (subst (λ (n : ℕ). Rules s roots (dir, frag) (record { 0 = n })) (sym it.0) rules, inl it.1))
    (λ child. (subst (λ (n : ℕ). Rules s roots (dir, frag) (record { 0 = n })) (sym child.0) rules, inr (child.1, child.2, child.3))))
    (λ r q. ⊎_elim (λ it. inl it.1) (λ child. inr (child.1, child.2, child.3))) old new came

pub merged_came : (core : Core) (roots : Roots) (rank : Rank) (dir : Ino) (frag : Fragment) → AllHave core.homes core.covers roots dir frag rank → (new : CacheMap)
    → Came (IsAmongOr rank.0 (ending_at core (record { dir = dir; frag = frag; rank = rank })) (dir, frag)) (λ (r : ℕ) (q : Leaf). Contains (ending_at core (record { dir = dir; frag = frag; rank = rank })) q) core.caches new
    → CameAt (AllHave core.homes core.covers roots dir frag) (IsMergedHere core.covers dir frag) core.caches new
merged_came core roots rank dir frag all new came =
    let ending = ending_at core (record { dir = dir; frag = frag; rank = rank }) in
    came_weaker (IsAmongOr rank.0 ending (dir, frag)) (λ (r : ℕ) (q : Leaf). Contains ending q) (UsedAt (AllHave core.homes core.covers roots dir frag) (IsMergedHere core.covers dir frag)) (λ r q. IsMergedHere core.covers dir frag q)
    (λ r q. ⊎_elim (λ among. (subst (λ (n : ℕ). AllHave core.homes core.covers roots dir frag (record { 0 = n })) (sym among.0) all, inl among.1))
    (λ it. (subst (λ (n : ℕ). AllHave core.homes core.covers roots dir frag (record { 0 = n })) (sym it.0) all, inr it.1)))
    (λ r q contains. inl contains) core.caches new came

-- ---- what is cached afterwards

module _ (old new : Core) (before after : Roots) (owned : IsOwned old before) (count : length new.caches.used ≡ length old.caches.used) (now_sound : IsSoundCore new) (dir : Ino) (frag : Fragment) where
  -- where nothing was regrouped, and no leaf that would have come is live
  undone_owned : (Holds : Rank → Type 0) (Named : Leaf → Type 0) → CameAt Holds Named old.caches new.caches → state_of new ≡ state_of old → ((rank : Rank) (q : Leaf) → Holds rank → Named q → IsLive old.homes old.covers q → Rules (state_of old) before q rank) → IsOwned new before
  undone_owned Holds Named came same at =
      owned_came (UsedAt Holds Named) (λ r q. Named q) old new came now_sound before (ap (λ (s : State). s.homes) same) (ap (λ (s : State). s.covers) same) (λ r q used. at (record { 0 = r }) q used.0 used.1) owned

  -- a leaf was split
  module _ (nb : ℕ) (live : IsLive old.homes old.covers (dir, frag)) (came : CameAt (Rules (state_of old) before (dir, frag)) (IsFamilyOf dir frag nb) old.caches new.caches) where
    pub split_held : KeepsAuthorities (state_of old) (state_of new) before after → HaveCaches after new.caches → GivesToChildren (state_of old) (state_of new) before after dir frag nb → AreHeld (state_of new) new.caches after
    split_held keeps have gives = held_since (UsedAt (Rules (state_of old) before (dir, frag)) (IsFamilyOf dir frag nb)) (λ r q. IsFamilyOf dir frag nb q) old new came now_sound before after owned keeps have
        (λ r q used lives.
        ⊎_elim (λ same. keeps q (record { 0 = r }) (subst (IsLive old.homes old.covers) (sym same) live) lives (subst (λ (l : Leaf). Rules (state_of old) before l (record { 0 = r })) (sym same) used.0))
        (λ child. subst (λ (l : Leaf). Rules (state_of new) after l (record { 0 = r })) (sym child.2) (gives (child_of frag child.0 nb) (record { 0 = r }) (child.0, child.1, refl) used.0)) used.1)

    -- or it wasn't
    pub unsplit_owned : state_of new ≡ state_of old → FitsSplit frag nb → IsOwned new before
    unsplit_owned same fits = undone_owned (Rules (state_of old) before (dir, frag)) (IsFamilyOf dir frag nb) came same
        (λ rank q rules named lives.
        ⊎_elim (λ here. subst (λ (l : Leaf). Rules (state_of old) before l rank) (sym here) rules)
        (λ child. absurd (child_is_new (leaves_of old.covers dir.0) frag (child_of frag child.0 nb) nb (tree_of_row old.homes old.covers owned.sound.sound.table dir.0) live.stands fits (child.0, child.1, refl) (subst (IsLive old.homes old.covers) child.2 lives).stands)) named)

  -- leaves were merged
  module _ (known : is_known old.homes dir.0 ≡ true) (can : CanMerge (leaves_of old.covers dir.0) frag) (came : CameAt (AllHave old.homes old.covers before dir frag) (IsMergedHere old.covers dir frag) old.caches new.caches) where
    pub merge_held : KeepsAuthorities (state_of old) (state_of new) before after → HaveCaches after new.caches → TakesOver (state_of old) (state_of new) before after dir frag → AreHeld (state_of new) new.caches after
    merge_held keeps have takes = held_since (UsedAt (AllHave old.homes old.covers before dir frag) (IsMergedHere old.covers dir frag)) (λ r q. IsMergedHere old.covers dir frag q) old new came now_sound before after owned keeps have
        (λ r q used lives.
        ⊎_elim (λ contains. let its = inside_live (state_of old) dir frag known q contains in keeps q (record { 0 = r }) its.0 lives (used.0 q its.0 its.1))
        (λ same. let w = one_inside (state_of old) dir frag known can in subst (λ (l : Leaf). Rules (state_of new) after l (record { 0 = r })) (sym same) (takes (dir, w.0) (record { 0 = r }) w.2 w.1 (used.0 (dir, w.0) w.1 w.2))) used.1)

    -- or they weren't
    pub unmerged_owned : state_of new ≡ state_of old → IsOwned new before
    unmerged_owned same = undone_owned (AllHave old.homes old.covers before dir frag) (IsMergedHere old.covers dir frag) came same
        (λ rank q all named lives.
        ⊎_elim (λ contains. let its = inside_live (state_of old) dir frag known q contains in all q its.0 its.1)
        (λ here. absurd (merged_is_new (leaves_of old.covers dir.0) frag (tree_of_row old.homes old.covers owned.sound.sound.table dir.0) can (subst (IsLive old.homes old.covers) here lives).stands)) named)
