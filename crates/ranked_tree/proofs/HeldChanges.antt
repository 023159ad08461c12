-- What a change of the tree leaves: each cached fragment is at its leaf's authority then; what it makes of the caches.
use Rattle.ranked_tree.proofs.Common.{AreHeld, AreHeldAt, AsksFor, Came, Change, ComesWith, Core, Covers, EndsWith, Fragment, HasLeaf, Home, Homes, IfSome, Ino, Inode, IsChangedBy, IsChangedHeld, IsGone, IsLive, IsNamedIn, IsOwned, IsPick, IsSome, IsSound, IsSoundCore, IsTable, IsThat, KeepsAuthorities, Leaf, List, Makes, MayChange, MayCome, MayGo, NamesDir, None, NoneEnds, Option, Rank, Roots, Rules, Shape, Some, Spot, State, [], adds, ap, came_then, came_weaker, dentry_at, dir_or_not, false, first_leaf, hash_of, home_at, inherited, inl, inr, is_dir_kind, is_known, is_some, known_is, leaf_of, leaves_of, may_come, may_go, move, none-some, none_unless, only_leaf, or_whole, reads_came, reads_weaker, refl, remove, replaces, root_fragment, rows_but, same_Some, shape_of, shown_in, shown_tree, state_of, still_known, subst, sym, true, with_home, ℕ, ⊎_elim, ◌==◌, ◌||◌, ◌∙◌, ◌∷◌, ◌≡◌, ◌⊎◌}
use Rattle.std.specs.FinMap as map
use Rattle.sorted_map.proofs.NatKeys as nat
use Rattle.ranked_tree.proofs.ChangedTables.{added_tables, grown_tables, moved_tables, removed_tables}
use Rattle.ranked_tree.proofs.HeldLaws.{HaveCaches, held_since, is_that}
use Rattle.ranked_tree.proofs.ReadsForLaws.{asks_change}
use Rattle.ranked_tree.proofs.HolderLaws.{named_by, new_is_not_live, put_live, was_unknown}

-- ---- which leaves come

-- a leaf of tables in which a directory came stood before, or is that of the directory
live_or_first : (homes : Homes) (covers : Covers) → IsTable homes covers → (dir : Ino) (home : Home) → MayCome homes dir.0 home → (leaf : Leaf)
    → IsLive (map.insert homes dir.0 home) covers leaf → IsLive homes covers leaf ⊎ (leaf ≡ first_leaf dir)
live_or_first homes covers table dir home come leaf live =
    let row : leaves_of covers dir.0 ≡ root_fragment ∷ [] = ap or_whole (none_unless (map.get covers dir.0) (λ fs is. was_unknown homes dir.0 home come (table.known dir.0 fs is))) in
    ⊎_elim (λ same.
    let only = only_leaf root_fragment leaf.1 (subst (λ (fs : List Fragment). HasLeaf fs leaf.1) (ap (leaves_of covers) same ∙ row) live.stands) in
    inr (λ i. (record { 0 = same i }, only i)))
    (λ apart. inl (record { known = ap (λ (o : Option Home). (leaf.0.0 == 1) || is_some o) (sym (nat.get_beside homes dir.0 home leaf.0.0 apart)) ∙ live.known; stands = live.stands })) (nat.same_or_apart leaf.0.0 dir.0)

-- ---- whose it is

module _ (old new : Core) (before after : Roots) (owned : IsOwned old before) (now_sound : IsSoundCore new) (keeps : KeepsAuthorities (state_of old) (state_of new) before after) where
  sound : IsSound (state_of old)
  sound = owned.sound.sound

  -- the leaf of a directory that comes inherits from the leaf that its dentry is in
  first_inherits : (spot : Spot) (inode : Inode) → MayChange (shown_in old) old.covers (adds spot inode) → Makes (adds spot inode) (state_of old) (state_of new) → after ≡ before → (rank : Rank)
      → Rules (state_of old) before (leaf_of spot.at) rank → is_dir_kind inode.kind ≡ true → Rules (state_of new) after (first_leaf inode.ino) rank
  first_inherits spot inode may makes follow rank rules kinded =
      let home = home_at (dentry_at spot) in
      let tables = grown_tables (state_of old) (state_of new) spot inode kinded makes in
      let live = put_live (state_of old) sound (adds spot inode) may (spot, inode) refl in
      let stays : IsLive new.homes new.covers (leaf_of spot.at) = rw (tables.0, tables.1) (record { known = still_known old.homes inode.ino.0 home spot.at.dir.0 live.known; stands = live.stands }) in
      let no_root : map.get after (first_leaf inode.ino) ≡ None = none_unless (map.get after (first_leaf inode.ino)) (λ rank is.
      let was : IsSome (map.get before (first_leaf inode.ino)) = ap is_some (sym (ap (λ (r : Roots). map.get r (first_leaf inode.ino)) follow) ∙ is) in
      was_unknown old.homes inode.ino.0 home (may_come (shown_in old) old.homes (dentry_at spot) inode sound.tabled may.takes) (owned.valid.live (first_leaf inode.ino) was).known) in
      let has = keeps (leaf_of spot.at) rank live stays rules in
      record {
        root = has.root;
        nearest = inherited (first_leaf inode.ino) (leaf_of spot.at) has.root home no_root (ap (λ (h : Homes). map.get h inode.ino.0) tables.0 ∙ nat.get_put old.homes inode.ino.0 home)
            (record { parent = refl; pick = subst (λ (cs : Covers). IsPick (leaves_of cs spot.at.dir.0) (hash_of spot.name) spot.at.frag) (sym tables.1) may.carries.put }) has.nearest;
        ranked = has.ranked;
      }

  -- a change leaves each cached fragment at its leaf's authority
  pub change_held : (change : Change) → AreHeldAt (state_of old) before change → MayChange (shown_in old) old.covers change → Makes change (state_of old) (state_of new) → ((spot : Spot) (inode : Inode) → change ≡ adds spot inode → after ≡ before) → HaveCaches after new.caches
      → Came (IsNamedIn change) (EndsWith change) old.caches new.caches → AreHeld (state_of new) new.caches after
  change_held change holders may makes follow have came =
      held_since (IsNamedIn change) (EndsWith change) old new came now_sound before after owned keeps have (λ r q is live.
      ⊎_elim (λ its. keeps q (record { 0 = r }) its.1 live its.2)
      (λ come.
      coming r q live come.0 come.1 (subst (MayChange (shown_in old) old.covers) come.2 may) (subst (λ (c : Change). Makes c (state_of old) (state_of new)) come.2 makes) (follow come.0 come.1 come.2)
      (subst (AreHeldAt (state_of old) before) come.2 holders) come.4)
      (named_by (state_of old) sound before change (shape_of (shown_in old) old.covers change may) may holders r q is))
    where
      -- a leaf that the change names is used at its authority, that of a directory that comes too
      coming : (r : ℕ) (q : Leaf) → IsLive new.homes new.covers q → (spot : Spot) (inode : Inode) → MayChange (shown_in old) old.covers (adds spot inode) → Makes (adds spot inode) (state_of old) (state_of new) → after ≡ before → AreHeldAt (state_of old) before (adds spot inode) → IsThat spot.at.rank.0 (first_leaf inode.ino) r q
          → Rules (state_of new) after q (record { 0 = r })
      coming r q live spot inode able done same at that =
          let unlived : IsLive old.homes old.covers q → ⊥ = λ lived. new_is_not_live (state_of old) sound spot inode able (subst (IsLive old.homes old.covers) that.1 lived) in
          ⊎_elim (λ kinded.
          let its = grown_tables (state_of old) (state_of new) spot inode kinded done in
          ⊎_elim (λ lived. absurd (unlived lived)) (λ first. is_that (state_of new) after (first_leaf inode.ino) spot.at.rank (first_inherits spot inode able done same spot.at.rank at.put kinded) r q that)
          (live_or_first old.homes old.covers sound.table inode.ino (home_at (dentry_at spot)) (may_come (shown_in old) old.homes (dentry_at spot) inode sound.tabled able.takes) q (rw (← its.0, ← its.1) live)))
          (λ kinded. let its = added_tables (state_of old) (state_of new) spot inode kinded done in absurd (unlived (rw (← its.0, ← its.1) live))) (dir_or_not inode)

-- ---- in the words of directories and the ranks that hold their leaves

-- of rows without a directory's, which isn't the root, it isn't known
row_gone : (homes : Homes) (went : Option Ino) (dir : Ino) → IfSome went (λ (d : Ino). MayGo homes d.0) → went ≡ Some dir → is_known (rows_but homes went) dir.0 ≡ false
row_gone homes None dir may is = absurd (none-some dir is)
row_gone homes (Some d) dir may is = subst (λ (x : Ino). is_known (map.remove homes d.0) x.0 ≡ false) (same_Some d dir is) (λ i. nat.is_apart d.0 1 may.other i || is_some (nat.get_removed homes d.0 i))

-- the directory that went with a change isn't known then
gone_unknown : (change : Change) → Shape change → (old new : State) → IsSound old → MayChange (shown_tree old) old.covers change → Makes change old new → (dir : Ino) → change.gone ≡ Some dir → is_known new.homes dir.0 ≡ false
gone_unknown _ (remove spot went) old new sound may makes dir is = rw (removed_tables old new spot went makes).0 (row_gone old.homes went dir (may_go old spot went sound may) is)
gone_unknown _ (move source target inode went) old new sound may makes dir is =
    rw (moved_tables old new source target inode went makes).0 (row_gone (with_home old.homes (dentry_at target) inode) went dir (replaces old sound source target inode went may) is)
gone_unknown _ _ old new sound may makes dir is = absurd (none-some dir is)

-- what a change that was made makes of the caches, with its reads
pub whole_came : (change : Change) (old new : Core) → IsChangedBy change old new → Came (IsNamedIn change) (EndsWith change) old.caches new.caches
whole_came change old new is =
    came_then (IsNamedIn change) (EndsWith change) old.caches is.between new.caches
    (came_weaker (IsNamedIn change) NoneEnds (IsNamedIn change) (EndsWith change) (λ r q uses. uses) (λ r q none. absurd none) old.caches is.between (reads_came (IsNamedIn change) NoneEnds old.objects old.caches is.between is.read)) is.came

-- a change that was made names leaves of directories, each at its rank, and those of the directory that went
pub changed_held : (old new : Core) (roots : Roots) (change : Change) → IsSound (state_of old) → IsSound (state_of new) → MayChange (shown_tree (state_of old)) old.covers change → AreHeldAt (state_of old) roots change
    → IsChangedBy change old new → IsChangedHeld roots change old new
changed_held old new roots change sound now may holders is = record {
  made = is.made;
  right = is.right;
  between = is.between;
  read = reads_weaker (IsNamedIn change) NoneEnds (AsksFor (state_of old) roots (NamesDir change) (ComesWith (state_of old) roots change)) NoneEnds (asks_change old roots change sound may holders) (λ r q none. none) old.objects old.caches is.between is.read;
  came = came_weaker (IsNamedIn change) (EndsWith change) (AsksFor (state_of old) roots (NamesDir change) (ComesWith (state_of old) roots change)) (IsGone (shown_tree (state_of new))) (asks_change old roots change sound may holders) (λ r q ends. sym (known_is (shown_tree (state_of new)) new.homes now.tabled q.0.0) ∙ gone_unknown change (shape_of (shown_tree (state_of old)) old.covers change may) (state_of old) (state_of new) sound may is.made q.0 ends) is.between new.caches is.came;
}
