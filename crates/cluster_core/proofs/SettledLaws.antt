-- A rank of which nothing is pinned away stays so in each calm step; and one that would start no export where none stands is such a rank.
use Rattle.cluster_core.proofs.Common.{Answer, AreSettled, Attributed, Bool, Change, Contains, Core, Entry, Event, FollowPlanned, HasAuthority, HasPin, Ino, Inode, IsAway, IsCalm, IsCalmIn, IsCalmOp, IsChangeIn, IsLive, IsOffered, IsOneOf, IsProposal, IsRankNumber, HasSettled, IsSome, IsSound, IsUnused, KeepsCore, KeepsSettled, Leaf, List, Lists, Looks, LoseDirectory, Makes, Moves, None, OfPin, Opening, Option, Pinned, Rank, Refusal, Removes, Result, Roots, Sets, SettleBy, Shape, Some, Spot, Standing, Start, State, Steps, Tree, Unlinks, WouldNot, [], ap, arith, false, get-empty, inl, inr, is_known, is_some, leaf_cmp, length, number_or, offer, outcome_of, refl, same_or_apart, shape, shown, sight, subst, supply_of, sym, true, ◌++◌, ◌<◌, ◌∙◌, ◌∷◌, ◌≡◌, ◌⊎◌}
use Rattle.std.specs.FinMap as map
use Rattle.mdcache.specs.State.{State as TreeState}
use Rattle.cluster_core.proofs.AdminLaws.{one_of_all}
use Rattle.cluster_core.proofs.DirsStay.{DirsStay, calm_step}
use Rattle.cluster_core.proofs.Offered.{offer_unused, there_of}
use Rattle.cluster_core.proofs.PlaceLaws.{has_pin, live_was, mine_was, place_known, place_was}
use Rattle.cluster_core.proofs.SettledStays.{Applied, Came, GroundStays, Tables, ground_stays, tables}
use Rattle.cluster_core.proofs.SettledRegroups.{merge_away, split_away}

-- of none it is known
pub none_known : (state : State) (ranks : List Rank) → ranks ≡ [] → AreSettled state ranks
none_known state ranks none = subst (AreSettled state) (sym none) (λ rank has. absurd (omega (arith, has.1)))

-- ---- the roots afterwards were roots

-- where no directory moves none is settled
unsettled : (takes : Option Spot) (puts : Option (Spot × Inode)) (tree : TreeState) (before settled : Roots) → (takes ≡ None) ⊎ (puts ≡ None) → SettleBy takes puts tree before settled → settled ≡ before
unsettled None puts tree before settled is same = same
unsettled (Some spot) None tree before settled is same = same
unsettled (Some spot) (Some put) tree before settled (inl none) h = let clash : Some spot ≡ None = none in cc
unsettled (Some spot) (Some put) tree before settled (inr none) h = let clash : Some put ≡ None = none in cc

left : (settled after : Roots) (went : Option Ino) → LoseDirectory settled after went → (leaf : Leaf) → IsSome (map.get after leaf) → IsSome (map.get settled leaf)
left settled after None same leaf some = subst (λ (r : Roots). IsSome (map.get r leaf)) same some
left settled after (Some dir) gone leaf some = go (same_or_apart leaf.0.0 dir.0)
  where
    go : (leaf.0.0 ≡ dir.0) ⊎ (leaf.0.0 ≡ dir.0 → ⊥) → IsSome (map.get settled leaf)
    go (inl its) = let clash : true ≡ false = sym some ∙ ap is_some (gone.gone leaf its) in cc
    go (inr apart) = ap is_some (sym (gone.others leaf apart)) ∙ some

-- no directory moves in a calm operation
moves_none : (s : Shape) (change : Change) → IsCalmIn s → IsChangeIn s change → (change.takes ≡ None) ⊎ (change.puts ≡ None)
moves_none (Looks dentry answer) change calm its = absurd its
moves_none (Lists dir after max) change calm its = absurd its
moves_none (Makes dentry kind mode birth) change calm its = inl its.takes
moves_none (Sets dentry (Attributed given)) change calm its = inl its.takes
moves_none (Sets dentry (Pinned pin)) change calm its = absurd calm
moves_none (Unlinks dentry) change calm its = inr its.removal.puts
moves_none (Removes dentry) change calm its = inr its.puts
moves_none (Moves from to) change calm its = absurd calm

-- where directories, leaves, pins and roots stay, so does what is pinned away
pub same_away : (old new : State) → length new.numbers ≡ length old.numbers → GroundStays old new → (rank : Rank) (leaf : Leaf) (to : Rank) → IsAway new rank leaf to → IsAway old rank leaf to
same_away old new ranks stays rank leaf to away = record {
  live = subst (λ (t : Tables). IsLive t.homes t.covers leaf) stays.0 away.live;
  mine = subst (λ (r : Roots). HasAuthority r old.tree.homes old.tree.covers leaf rank) stays.1 (subst (λ (t : Tables). HasAuthority new.roots t.homes t.covers leaf rank) stays.0 away.mine);
  place = subst (λ (r : Roots). IsSome (map.get r leaf) ⊎ IsSome (map.get old.tree.pins leaf.0.0)) stays.1 (subst (λ (t : Tables). IsSome (map.get new.roots leaf) ⊎ IsSome (map.get t.pins leaf.0.0)) stays.0 away.place);
  pin = subst (λ (t : Tables). HasPin t.pins t.homes leaf.0.0 to) stays.0 away.pin;
  other = away.other;
  there = subst (λ n. to.0 < n) ranks away.there;
}

-- a flush leaves all this
pub flushed_settled : (old new : Core) (known : List Rank) → KeepsCore old new → AreSettled old.state known → AreSettled new.state known
flushed_settled old new known kept settled rank has leaf to away =
    settled rank has leaf to (same_away old.state new.state (ap (λ (s : State). length s.numbers) kept.left) (ap (λ (s : State). tables s.tree) kept.left, ap (λ (s : State). s.roots) kept.left) rank leaf to away)

module _ (opening : Opening) (past now : List Entry) (old new : Core) (sound : IsSound opening past old) (still : IsSound opening now new) where
  ranks_stay : length new.caches.used ≡ length old.caches.used → length new.state.numbers ≡ length old.state.numbers
  ranks_stay same = sym still.ranks.caches ∙ same ∙ sound.ranks.caches

  module _ (ranks : length new.state.numbers ≡ length old.state.numbers) (rank : Rank) (leaf : Leaf) (to : Rank) (away : IsAway new.state rank leaf to) where
    there_was : to.0 < length old.state.numbers
    there_was = subst (λ n. to.0 < n) ranks away.there

    module _ (a : Applied past now old new) (calm : IsCalmOp a.request.op) where
      unused : (outcome_of old.state a.rank a.request).takes ≡ true → IsUnused (shown old.state) (number_or (offer (supply_of old.state a.rank)))
      unused takes = go (offer (supply_of old.state a.rank)) refl (offer_unused opening past old sound a.rank (there_of old sound.ranks a.rank a.here))
        where
          go : (o : Option Ino) → offer (supply_of old.state a.rank) ≡ o → IsOffered (shown old.state) (λ n. IsRankNumber n) o → IsUnused (shown old.state) (number_or o)
          go None none offered = let clash : false ≡ true = sym (a.applied.numbered none) ∙ takes in cc
          go (Some number) is offered = offered.0

      stay : DirsStay (shown old.state) (shown new.state)
      stay = subst (λ (t : Tree). DirsStay (shown old.state) t) (sym a.applied.tree) (calm_step old.state.tree.limit (shown old.state) (shape a.request.op) (number_or (offer (supply_of old.state a.rank))) calm unused)

      were : (at : Leaf) → IsSome (map.get new.state.roots at) → IsSome (map.get old.state.roots at)
      were = go a.applied.made.change a.applied.made.one_of a.applied.made.roots
        where
          go : (change : Option Change) → IsOneOf a.request.op change → FollowPlanned change old.state.tree old.state.roots new.state.roots → (at : Leaf) → IsSome (map.get new.state.roots at) → IsSome (map.get old.state.roots at)
          go None its same at some = subst (λ (r : Roots). IsSome (map.get r at)) same some
          go (Some change) its follow at some =
              subst (λ (r : Roots). IsSome (map.get r at)) (unsettled change.takes change.puts old.state.tree old.state.roots follow.0 (moves_none (shape a.request.op) change calm its) follow.1) (left follow.0 new.state.roots change.gone follow.2 at some)

      -- so it is where a calm operation was applied
      away_was : IsAway old.state rank leaf to
      away_was = record {
        live = lives;
        mine = mine_was (shown old.state) (shown new.state) old.state.tree.homes new.state.tree.homes old.state.tree.pins new.state.tree.pins sound.tree.sound.tabled still.tree.sound.tabled sound.tree.sound.counted.pinned still.tree.sound.counted.pinned stay
            old.state.tree.covers new.state.tree.covers old.state.roots new.state.roots sound.tree.sound.table sound.subtrees a.applied.leaves a.authorities were leaf rank lives away.live away.mine;
        place = placed;
        pin = has_pin (shown old.state) (shown new.state) old.state.tree.homes new.state.tree.homes old.state.tree.pins new.state.tree.pins sound.tree.sound.tabled still.tree.sound.tabled sound.tree.sound.counted.pinned still.tree.sound.counted.pinned stay
            leaf.0.0 to known away.pin;
        other = away.other;
        there = there_was;
      }
        where
          placed : IsSome (map.get old.state.roots leaf) ⊎ IsSome (map.get old.state.tree.pins leaf.0.0)
          placed = place_was (shown old.state) (shown new.state) old.state.tree.homes new.state.tree.homes old.state.tree.pins new.state.tree.pins sound.tree.sound.tabled still.tree.sound.tabled sound.tree.sound.counted.pinned still.tree.sound.counted.pinned stay
              old.state.tree.covers new.state.tree.covers old.state.roots new.state.roots sound.tree.sound.table sound.subtrees a.applied.leaves a.authorities were leaf away.place

          known : is_known old.state.tree.homes leaf.0.0 ≡ true
          known = place_known (shown old.state) (shown new.state) old.state.tree.homes new.state.tree.homes old.state.tree.pins new.state.tree.pins sound.tree.sound.tabled still.tree.sound.tabled sound.tree.sound.counted.pinned still.tree.sound.counted.pinned stay
              old.state.tree.covers new.state.tree.covers old.state.roots new.state.roots sound.tree.sound.table sound.subtrees a.applied.leaves a.authorities were leaf placed

          lives : IsLive old.state.tree.homes old.state.tree.covers leaf
          lives = live_was (shown old.state) (shown new.state) old.state.tree.homes new.state.tree.homes old.state.tree.pins new.state.tree.pins sound.tree.sound.tabled still.tree.sound.tabled sound.tree.sound.counted.pinned still.tree.sound.counted.pinned stay
              old.state.tree.covers new.state.tree.covers old.state.roots new.state.roots sound.tree.sound.table sound.subtrees a.applied.leaves a.authorities were leaf known away.live

  pub settled_stays : (result : Result Answer Refusal) (event : Event) → Steps old new past now result event → IsCalm event → ((e : Entry) → now ≡ past ++ e ∷ [] → IsCalmOp e.op) → (rank : Rank) → HasSettled old.state rank → HasSettled new.state rank
  settled_stays result event steps calm entry rank settled leaf to away = go (ground_stays past now old new result event calm steps)
    where
      ranks : length new.state.numbers ≡ length old.state.numbers
      ranks = ranks_stay steps.ranks

      go : Came past now old new → ⊥
      go (inl stays) = settled leaf to (same_away old.state new.state ranks stays rank leaf to away)
      go (inr (inl a)) = settled leaf to (away_was ranks rank leaf to away a (entry _ a.applied.appended))
      go (inr (inr (inl w))) =
          let at = split_away opening past old new sound ranks w.authorities rank leaf to away w.dir w.frag w.bits w.split w.roots in
          settled at.0 to at.1
      go (inr (inr (inr w))) =
          let at = merge_away opening past old new sound ranks w.authorities rank leaf to away w.dir w.frag w.merge w.roots
          (one_of_all old.state.tree.homes old.state.tree.covers old.state.roots w.dir w.frag w.rank w.all) in
          settled at.0 to at.1

  -- what is known after a step
  pub known_after : (result : Result Answer Refusal) (event : Event) (before after : List Rank) (may : Bool) → Steps old new past now result event → (may ≡ false → IsCalm event) → KeepsSettled before after may now (length past)
      → AreSettled old.state before → AreSettled new.state after
  known_after result event before after may steps calm (inl (none, why)) settled rank has = none_known new.state after none rank has
  known_after result event before after may steps calm (inr (same, not, entry)) settled rank has =
      settled_stays result event steps (calm not) (λ e is. entry past e refl is) rank (settled rank (subst (λ (rs : List Rank). Contains rs rank) same has))

-- ---- what is known of a rank

-- where nothing is proposed, and no export stands, nothing is pinned away
pub none_away : (core : Core) (rank : Rank) → IsProposal (sight core rank) None → core.state.exports ≡ map.empty → HasSettled core.state rank
none_away core rank none empty leaf to away =
    none.1.1.1.0 leaf (Start rank leaf.0 leaf.1 to)
    (record {
      to = to;
      own = record { live = away.live; mine = away.mine };
      place = away.place;
      pin = away.pin;
      other = away.other;
      there = away.there;
      thawed = λ frozen. let clash : None ≡ Some frozen.export = sym (no_export frozen.root) ∙ frozen.stands in cc;
      none = no_export leaf;
      is = refl;
    })
  where
    no_export : (at : Leaf) → map.get core.state.exports at ≡ None
    no_export at = ap (λ (e : Standing). map.get e at) empty ∙ get-empty leaf_cmp at

-- where nothing is pinned away, no export starts
pub would_not : (core : Core) (rank : Rank) → HasSettled core.state rank → WouldNot (sight core rank) OfPin
would_not core rank none leaf event would = none leaf would.to (record { live = would.own.live; mine = would.own.mine; place = would.place; pin = would.pin; other = would.other; there = would.there })

-- nothing is pinned away of what was known before and of one rank more
pub noted : (state : State) (before after : List Rank) (rank : Rank) → AreSettled state before → HasSettled state rank → ((other : Rank) → Contains after other → Contains before other ⊎ (other ≡ rank)) → AreSettled state after
noted state before after rank settled its either other has = go (either other has)
  where
    go : Contains before other ⊎ (other ≡ rank) → HasSettled state other
    go (inl had) = settled other had
    go (inr same) = subst (λ (r : Rank). HasSettled state r) (sym same) its
