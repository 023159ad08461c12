-- What a change, a split and a merge leave of a tree that is divided among ranks, where they change no frozen leaf.
use Rattle.ranked_tree.proofs.Common.{AllHave, AreFrozenRegionsKept, AreHeld, AreHeldAt, AreThawed, Came, CameAt, Change, Contains, Core, Covers, EndsWith, FollowChange, Fragment, HasLeaf, HaveOneAuthority, Homes, Ino, IsDivided, IsFamilyOf, IsFrozen, IsFrozenIn, IsLive, IsMergedHere, IsMergedInto, IsNamedIn, IsRegrouped, IsRootMerge, IsRootSplit, IsSoundCore, IsSplitInto, IsTree, KeepsAuthorities, KeepsRoots, Leaf, LoseDirectory, Makes, MayChange, Regions, Roots, Rules, Standing, StandsOver, State, Subtrees, after_merge, after_split, ap, child_is_new, fragments_of, held_in, holding, in_directory, inr, is_known, leaves_inside, leaves_of, merged_is_new, or_whole, refl, shape_of, shown_in, state_of, subst, sym, tree_of_row, valid_so, ◌^◌, ◌∙◌}
use Rattle.std.specs.FinMap as map
use Rattle.sorted_map.proofs.NatKeys as nat
use Rattle.std.specs.Prelude.{◌≡◌, ℕ, length, List, [], ◌∷◌, map as each}
use Rattle.ranked_tree.proofs.ExportLaws.{change_keeps}
use Rattle.ranked_tree.proofs.HeldChanges.{change_held}
use Rattle.ranked_tree.proofs.HeldLaws.{HaveCaches}
use Rattle.ranked_tree.proofs.HeldRegroups.{merge_held, split_held}
use Rattle.ranked_tree.proofs.RootLaws.{IsSoundChange}
use Rattle.ranked_tree.proofs.StandLaws.{FewerJobs, change_jobs, all_held, came_by, held_bound, jobs_without, keeps_held, stand_kept, thawed_held, thawed_rules}
use Rattle.ranked_tree.proofs.SubtreeLaws.{changes_soundly, children_have, merge_soundly, split_soundly, takes_over}

module _ (old new : Core) (regions : Regions) (now : Subtrees) (divided : IsDivided old regions) (later : IsSoundCore new) (count : length new.caches.used ≡ length old.caches.used) where
  abbrev was : Subtrees
  was = regions.roots

  abbrev exports : Standing
  exports = regions.exports

  over : StandsOver exports was old.homes old.covers
  over = record { table = divided.owned.sound.sound.table; valid = divided.stand.valid; placed = divided.stand.placed }

  -- what they have in common
  abbrev IsKept : Type 0
  IsKept = KeepsRoots (state_of old) (state_of new) was.roots now.roots exports exports × IsDivided new (record { roots = now; exports = exports })

  event : FewerJobs (state_of old) (state_of new) → AreFrozenRegionsKept exports was now old.homes new.homes old.covers new.covers → IsSoundChange was.roots now.roots old.homes new.homes old.covers new.covers
      → (KeepsAuthorities (state_of old) (state_of new) (held_in regions) (holding exports now.roots) → HaveCaches (holding exports now.roots) new.caches → AreHeld (state_of new) new.caches (holding exports now.roots)) → IsKept
  event fewer kept soundly held =
      let holders = keeps_held (state_of old) (state_of new) (length old.caches.used) (length new.caches.used) was now exports divided.stand count fewer kept soundly.keeps in
      let stand = stand_kept (state_of old) (state_of new) (length old.caches.used) (length new.caches.used) was now exports divided.stand count fewer kept divided.owned.sound.sound later.sound soundly.valid soundly.ranks in (
        record { authorities = soundly.keeps; holders = holders; ranks = soundly.ranks; valid = soundly.valid; stand = refl },
        record {
          owned = record { sound = later; valid = (valid_so exports now.roots new.homes new.covers).0 soundly.valid; held = held holders (held_bound (state_of new) (length new.caches.used) now exports stand) };
          stand = stand;
        },
      )

  -- a change
  pub change_divided : (change : Change) → AreHeldAt (state_of old) (held_in regions) change → MayChange (shown_in old) old.covers change → Makes change (state_of old) (state_of new)
      → FollowChange change (state_of old) was.roots now.roots → LoseDirectory was.promises now.promises change.gone → ((leaf : Leaf) → Contains (fragments_of old.covers change) leaf → IsFrozenIn (state_of old) regions leaf → ⊥)
      → Came (IsNamedIn change) (EndsWith change) old.caches new.caches → IsKept
  change_divided change holders may makes follow promises thawed came =
      let shape = shape_of (shown_in old) old.covers change may in
      event (change_jobs change shape (state_of old) (state_of new) makes)
      (change_keeps exports (state_of old) (state_of new) was now divided.owned.sound.sound divided.stand.valid divided.stand.placed change shape may makes follow promises thawed)
      (changes_soundly change shape (state_of old) (state_of new) was.roots now.roots divided.owned.sound.sound may makes follow divided.stand.valid)
      (λ keeps have.
      change_held old new (held_in regions) (holding exports now.roots) divided.owned later keeps change holders may makes
      (λ spot inode is. let stay = subst (λ (c : Change). FollowChange c (state_of old) was.roots now.roots) is follow in ap (λ (r : Roots). holding exports r) (stay.2 ∙ stay.1)) have came)

  -- leaves of a directory are regrouped
  module _ (dir : Ino) (gone cover : List Fragment) (more : ℕ) (regrouped : IsRegrouped (state_of old) (state_of new) dir gone cover more) where
    covers_now : new.covers ≡ map.insert old.covers dir.0 cover
    covers_now = ap (λ (s : State). s.covers) regrouped.left

    homes_now : new.homes ≡ old.homes
    homes_now = ap (λ (s : State). s.homes) regrouped.left

    fewer_jobs : FewerJobs (state_of old) (state_of new)
    fewer_jobs leaf job is = jobs_without old.jobs (each (in_directory dir.0) gone) leaf job (ap (λ (s : State). map.get s.jobs leaf) (sym regrouped.left) ∙ is)

    -- a leaf that comes isn't frozen
    new_thawed : AreFrozenRegionsKept exports was now old.homes new.homes old.covers new.covers → (f : Fragment) → HasLeaf cover f → (HasLeaf (leaves_of old.covers dir.0) f → ⊥) → IsFrozen exports now.roots new.homes new.covers (dir, f) → ⊥
    new_thawed kept f has new_here frozen =
        let row : leaves_of new.covers dir.0 ≡ cover = ap (λ (cs : Covers). leaves_of cs dir.0) covers_now ∙ ap or_whole (nat.get_put old.covers dir.0 cover) in
        let live : IsLive new.homes new.covers (dir, f) = record { known = ap (λ (h : Homes). is_known h dir.0) homes_now ∙ regrouped.known; stands = subst (λ (fs : List Fragment). HasLeaf fs f) (sym row) has } in
        new_here ((kept.regions frozen.root frozen.export frozen.stands frozen.freezing (dir, f)).1 (record { stands = live; nearest = frozen.nearest })).stands.stands

  module _ (dir : Ino) (frag : Fragment) (promises : now.promises ≡ was.promises) where
    abbrev tree : IsTree (leaves_of old.covers dir.0)
    tree = tree_of_row old.homes old.covers divided.owned.sound.sound.table dir.0

    -- a split of a leaf
    pub split_divided : (nb : ℕ) → IsSplitInto (state_of old) (state_of new) dir frag nb → IsRootSplit was.roots now.roots dir.0 frag nb → (IsFrozenIn (state_of old) regions (dir, frag) → ⊥)
        → CameAt (Rules (state_of old) was.roots (dir, frag)) (IsFamilyOf dir frag nb) old.caches new.caches → IsKept
    split_divided nb split roots thawed came =
        event (fewer_jobs dir (frag ∷ []) split.cover (2 ^ nb) split.regrouped) kept (split_soundly (state_of old) (state_of new) was.roots now.roots divided.owned.sound.sound divided.stand.valid dir frag nb split roots)
        (λ keeps have.
        split_held old new (held_in regions) (holding exports now.roots) divided.owned count later dir frag nb (record { known = split.regrouped.known; stands = split.can.stands })
        (came_by (Rules (state_of old) was.roots (dir, frag)) _ (IsFamilyOf dir frag nb) old.caches new.caches (λ rank. thawed_held exports was.roots old.homes old.covers (dir, frag) rank thawed) came) keeps have
        (λ child rank is has.
        thawed_held exports now.roots new.homes new.covers (dir, child) rank
        (new_thawed dir (frag ∷ []) split.cover (2 ^ nb) split.regrouped kept child ((split.divided.leaves child).1 (inr is)) (child_is_new (leaves_of old.covers dir.0) frag child nb tree split.can.stands split.can.fits is))
        (children_have (state_of old) (state_of new) was.roots now.roots divided.owned.sound.sound divided.stand.valid dir frag nb split roots child rank is (thawed_rules exports was.roots old.homes old.covers (dir, frag) rank thawed has))))
      where
        kept : AreFrozenRegionsKept exports was now old.homes new.homes old.covers new.covers
        kept = subst (λ (h : Homes). AreFrozenRegionsKept exports was now old.homes h old.covers new.covers) (sym (homes_now dir (frag ∷ []) split.cover (2 ^ nb) split.regrouped)) (after_split exports was now old.homes old.covers new.covers over (record {
          dir = dir.0;
          frag = frag;
          bits = nb;
          leaves = split.cover;
          thawed = thawed;
          stands = split.can.stands;
          fits = split.can.fits;
          split = split.divided;
          tree = split.regrouped.whole;
          changed = covers_now dir (frag ∷ []) split.cover (2 ^ nb) split.regrouped;
          roots = roots;
          promises = promises;
        }))

    -- a merge of leaves of one authority
    pub merge_divided : IsMergedInto (state_of old) (state_of new) dir frag → IsRootMerge was.roots now.roots dir.0 frag → HaveOneAuthority was.roots old.homes old.covers dir.0 frag → AreThawed exports was.roots old.homes old.covers dir frag
        → CameAt (AllHave old.homes old.covers was.roots dir frag) (IsMergedHere old.covers dir frag) old.caches new.caches → IsKept
    merge_divided merge roots one thawed came =
        event (fewer_jobs dir inside merge.cover 1 merge.regrouped) kept (merge_soundly (state_of old) (state_of new) was.roots now.roots divided.owned.sound.sound divided.stand.valid dir frag merge roots one)
        (λ keeps have. merge_held old new (held_in regions) (holding exports now.roots) divided.owned count later dir frag merge.regrouped.known merge.can (came_by (AllHave old.homes old.covers was.roots dir frag) _ (IsMergedHere old.covers dir frag) old.caches new.caches (all_held exports was.roots old.homes old.covers dir frag thawed) came) keeps have
        (λ leaf rank in_frag live has.
        thawed_held exports now.roots new.homes new.covers (dir, frag) rank
        (new_thawed dir inside merge.cover 1 merge.regrouped kept frag ((merge.merged.leaves frag).1 (inr refl)) (merged_is_new (leaves_of old.covers dir.0) frag tree merge.can))
        (takes_over (state_of old) (state_of new) was.roots now.roots divided.owned.sound.sound divided.stand.valid dir frag merge roots one leaf rank in_frag live (thawed_rules exports was.roots old.homes old.covers leaf rank (thawed leaf in_frag live) has))))
      where
        inside : List Fragment
        inside = leaves_inside frag (leaves_of old.covers dir.0)

        kept : AreFrozenRegionsKept exports was now old.homes new.homes old.covers new.covers
        kept = subst (λ (h : Homes). AreFrozenRegionsKept exports was now old.homes h old.covers new.covers) (sym (homes_now dir inside merge.cover 1 merge.regrouped)) (after_merge exports was now old.homes old.covers new.covers over (record {
          dir = dir.0;
          frag = frag;
          leaves = merge.cover;
          thawed = thawed;
          can = merge.can;
          merge = merge.merged;
          tree = merge.regrouped.whole;
          changed = covers_now dir inside merge.cover 1 merge.regrouped;
          roots = roots;
          promises = promises;
        }))
