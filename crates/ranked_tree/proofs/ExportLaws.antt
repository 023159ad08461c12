-- What a change of the tree leaves of frozen regions, where it changes no frozen leaf: each of their leaves.
use Rattle.ranked_tree.proofs.Common.{AreFrozenRegionsKept, ArePlaced, AreRoots, Bool, Change, Contains, Covers, FollowChange, HasLeaf, HoldsDentry, Home, Homes, IfSome, Ino, Inode, IsFrozen, IsInRegion, IsLive, IsPick, KeepsRanksOf, IsSound, Leaf, LoseDirectory, Makes, MatchBool, MayChange, MayGo, MayMove, None, Option, Roots, Shape, Some, Spot, Standing, StandsOver, State, Subtrees, [], add, after_making, after_move, after_removal, dentry_at, dir_or_not, false, first, fragments_of, hash_of, home_at, home_of, is_dir_kind, keep_frozen, later, leaf_of, leaves_gone, leaves_of, may_come, may_go, move, moved_home, moved_known, moves, one_holder, one_of_those, one_value, refl, relocates, remove, replaces, rows_but, set, shown_tree, subst, sym, true, with_dir, with_file, with_home, ℕ, ⊎_elim, ◌↔◌, ◌∙◌, ◌∷◌, ◌≡◌}
use Rattle.std.specs.FinMap as map
use Rattle.ranked_tree.proofs.ChangedTables.{added_tables, grown_tables, moved_tables, removed_tables, set_tables}
use Rattle.ranked_tree.proofs.SubtreeLaws.{moves as rehomes}

module _ (standing : Standing) where
  abbrev Kept : Subtrees → Subtrees → Homes → Homes → Covers → Covers → Type 0
  Kept was now homes later covers later_covers = AreFrozenRegionsKept standing was now homes later covers later_covers

  -- nothing changed
  pub still : (was now : Subtrees) (homes : Homes) (covers : Covers) → now.roots ≡ was.roots → now.promises ≡ was.promises → ArePlaced standing was → Kept was now homes homes covers covers
  still was now homes covers roots promises placed = record {
    regions = λ root export stands freezing leaf. subst (λ (r : Roots). IsInRegion was.roots homes covers root leaf ↔ IsInRegion r homes covers root leaf) (sym roots) (λ its. its, λ its. its);
    placed = record { ranked = rw roots placed.ranked; promised = rw promises placed.promised };
  }

  -- one step after another
  both : (a b c : Subtrees) (homes middle last : Homes) (covers between end : Covers) → Kept a b homes middle covers between → Kept b c middle last between end → Kept a c homes last covers end
  both a b c homes middle last covers between end one two = record {
    regions = λ root export stands freezing leaf. (
      λ its. (two.regions root export stands freezing leaf).0 ((one.regions root export stands freezing leaf).0 its),
      λ its. (one.regions root export stands freezing leaf).1 ((two.regions root export stands freezing leaf).1 its),
    );
    placed = two.placed;
  }

  -- a directory goes, or none does
  loses : (was now : Subtrees) (homes : Homes) (covers : Covers) (went : Option Ino) → StandsOver standing was homes covers → IfSome went (λ (dir : Ino). MayGo homes dir.0)
      → ((leaf : Leaf) → IsLive homes covers leaf → Contains (leaves_gone covers went) leaf → IsFrozen standing was.roots homes covers leaf → ⊥)
      → LoseDirectory was.roots now.roots went → LoseDirectory was.promises now.promises went → Kept was now homes (rows_but homes went) covers (rows_but covers went)
  loses was now homes covers None over may thawed roots promises = still was now homes covers roots promises over.placed
  loses was now homes covers (Some dir) over may thawed roots promises =
      after_removal standing was now homes (map.remove homes dir.0) covers (map.remove covers dir.0) over (record {
        dir = dir.0;
        below = may.other;
        childless = may.childless;
        thawed = λ leaf at live frozen.
            thawed leaf live (one_of_those dir.0 leaf (leaves_of covers dir.0) at (subst (λ (d : ℕ). HasLeaf (leaves_of covers d) leaf.1) at live.stands)) frozen;
        home_gone = refl;
        leaves_gone = refl;
        roots = roots;
        promises = promises;
      })

  module _ (old new : State) (was now : Subtrees) (sound : IsSound old) (valid : AreRoots old was.roots) (placed : ArePlaced standing was) where
    over : StandsOver standing was old.homes old.covers
    over = record { table = sound.table; valid = valid; placed = placed }

    abbrev pub IsThawed : Change → Type 0
    IsThawed change = (leaf : Leaf) → Contains (fragments_of old.covers change) leaf → IsFrozen standing was.roots old.homes old.covers leaf → ⊥

    abbrev AllKept : Type 0
    AllKept = Kept was now old.homes new.homes old.covers new.covers

    -- who holds the dentry of a spot whose leaf isn't frozen isn't
    at_spot : (spot : Spot) → IsPick (leaves_of old.covers spot.at.dir.0) (hash_of spot.name) spot.at.frag → (IsFrozen standing was.roots old.homes old.covers (leaf_of spot.at) → ⊥)
        → (holder : Leaf) → HoldsDentry old.covers (home_at (dentry_at spot)) holder → IsFrozen standing was.roots old.homes old.covers holder → ⊥
    at_spot spot pick thawed holder holds frozen =
        thawed (subst (λ (l : Leaf). IsFrozen standing was.roots old.homes old.covers l) (one_holder old.covers (home_at (dentry_at spot)) holder (leaf_of spot.at) holds (record { parent = refl; pick = pick })) frozen)

    -- a rename: what moves has its home there, and what it replaces goes
    module _ (from to : Spot) (inode : Inode) (went : Option Ino) (may : MayChange (shown_tree old) old.covers (moves from to inode went)) (makes : Makes (moves from to inode went) old new)
        (follow : FollowChange (moves from to inode went) old was.roots now.roots) (promises : LoseDirectory was.promises now.promises went) (thawed : IsThawed (moves from to inode went)) where
      abbrev mid : Subtrees
      mid = record { roots = follow.0; promises = was.promises; room = 0 }

      abbrev moved : Homes
      moved = with_home old.homes (dentry_at to) inode

      able : is_dir_kind inode.kind ≡ true → MayMove old.homes inode.ino.0 (home_at (dentry_at to))
      able = relocates old sound from to inode went may

      moving : (b : Bool) → is_dir_kind inode.kind ≡ b → MatchBool b (KeepsRanksOf was.roots follow.0 old.homes old.covers inode.ino.0 (home_at (dentry_at to))) (follow.0 ≡ was.roots) → Kept was mid old.homes moved old.covers old.covers
      moving true kinded its = after_move standing was mid old.homes moved old.covers over (record {
        dir = inode.ino.0;
        home = home_at (dentry_at to);
        may = able kinded;
        from_thawed = λ home holder stands holds.
            let there = home_of (shown_tree old) old.homes sound.tabled (dentry_at from) inode inode.ino.0 may.takes.stands refl kinded in
            at_spot from may.carries.taken (thawed (leaf_of from.at) (first (leaf_of from.at) (leaf_of to.at ∷ leaves_gone old.covers went)))
            holder (subst (λ (h : Home). HoldsDentry old.covers h holder) (one_value _ home (home_at (dentry_at from)) stands there) holds);
        to_thawed = at_spot to may.carries.put (thawed (leaf_of to.at) (later (leaf_of from.at) (leaf_of to.at) (leaf_of to.at ∷ leaves_gone old.covers went) (first (leaf_of to.at) (leaves_gone old.covers went))));
        changed = with_dir old.homes (dentry_at to) inode kinded;
        roots = its;
        promises = refl;
      })
      moving false kinded same = rw (with_file old.homes (dentry_at to) inode kinded) (still was mid old.homes old.covers same refl placed)

      rename_keeps : AllKept
      rename_keeps =
          let one : Kept was mid old.homes moved old.covers old.covers = moving (is_dir_kind inode.kind) refl follow.1 in
          let two = loses mid now moved old.covers went
          (record { table = moved_home old.homes old.covers sound.table (dentry_at to) inode able; valid = (rehomes old was.roots follow.0 (dentry_at to) inode sound valid able follow.1).valid; placed = one.placed })
          (replaces old sound from to inode went may)
          (λ leaf live has frozen.
          let lived : IsLive old.homes old.covers leaf = record { known = sym (moved_known old.homes old.covers sound.table (dentry_at to) inode able leaf.0.0) ∙ live.known; stands = live.stands } in
          thawed leaf (later (leaf_of from.at) leaf (leaf_of to.at ∷ leaves_gone old.covers went) (later (leaf_of to.at) leaf (leaves_gone old.covers went) has))
          ((keep_frozen standing was mid old.homes moved old.covers old.covers one leaf lived live).1 frozen))
          follow.2 promises in
          let tables = moved_tables old new from to inode went makes in
          rw (tables.0, tables.1) (both was mid now old.homes moved (rows_but moved went) old.covers old.covers (rows_but old.covers went) one two)

    pub change_keeps : (change : Change) → Shape change → MayChange (shown_tree old) old.covers change → Makes change old new → FollowChange change old was.roots now.roots → LoseDirectory was.promises now.promises change.gone → IsThawed change → AllKept
    change_keeps _ (set spot inode) may makes follow promises thawed = let tables = set_tables old new spot inode makes in rw (tables.0, tables.1) (still was now old.homes old.covers (follow.2 ∙ follow.1) promises placed)
    change_keeps _ (add spot inode) may makes follow promises thawed =
        ⊎_elim (λ kinded.
        let tables = grown_tables old new spot inode kinded makes in
        let grown = map.insert old.homes inode.ino.0 (home_at (dentry_at spot)) in
        let come : Kept was was old.homes grown old.covers old.covers = after_making standing was old.homes grown old.covers over (record {
          dir = inode.ino.0;
          home = home_at (dentry_at spot);
          may = may_come (shown_tree old) old.homes (dentry_at spot) inode sound.tabled may.takes;
          thawed = at_spot spot may.carries.put (thawed (leaf_of spot.at) (first (leaf_of spot.at) []));
          changed = refl;
        }) in
        rw (tables.0, tables.1) (both was was now old.homes grown grown old.covers old.covers old.covers come (still was now grown old.covers (follow.2 ∙ follow.1) promises come.placed)))
        (λ kinded. let tables = added_tables old new spot inode kinded makes in rw (tables.0, tables.1) (still was now old.homes old.covers (follow.2 ∙ follow.1) promises placed)) (dir_or_not inode)
    change_keeps _ (remove spot went) may makes follow promises thawed =
        let tables = removed_tables old new spot went makes in
        rw (tables.0, tables.1) (loses was now old.homes old.covers went over (may_go old spot went sound may) (λ leaf live has frozen. thawed leaf (later (leaf_of spot.at) leaf (leaves_gone old.covers went) has) frozen)
        (subst (λ (r : Roots). LoseDirectory r now.roots went) follow.1 follow.2) promises)
    change_keeps _ (move from to inode went) may makes follow promises thawed = rename_keeps from to inode went may makes follow promises thawed
