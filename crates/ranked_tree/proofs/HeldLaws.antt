-- Each cached fragment stays at the rank that holds its leaf. Here the roots are those with the ranks that hold their regions.
use Rattle.ranked_tree.proofs.Common.{AreHeld, At, CacheMap, Cached, Came, Core, IsFree, IsLive, IsOwned, IsSoundCore, IsThat, IsThere, KeepsAuthorities, KeepsNone, Leaf, MayHold, None, NoneEnds, Option, Rank, ReadsCore, Roots, Rules, Some, UsedAt, UsesAt, ap, came_cap, came_held, came_ranks, came_weaker, has_place, here, here_is, length, one_authority, reads_came, reads_state, refl, rules, state_of, subst, sym, true, ℕ, ⊎_elim, ◌<◌, ◌≡◌, State}
use Rattle.std.specs.FinMap as map

module _ (tree : State) (caches : CacheMap) (roots : Roots) (held : AreHeld tree caches roots) (leaf : Leaf) (rank : Rank) (rules : Rules tree roots leaf rank) where
  -- there is a cache for the authority of a leaf, and no other rank has the leaf
  pub may_hold : MayHold caches rank leaf
  may_hold = record { there = held.ranks rules.root rank rules.ranked; alone = alone_at (map.get caches.held leaf) refl }
    where
      alone_at : (o : Option At) → map.get caches.held leaf ≡ o → IsFree rank.0 o
      alone_at None is = tt
      alone_at (Some a) is = ap (λ (r : Rank). r.0) (one_authority roots tree.homes tree.covers leaf (record { 0 = a.rank }) rank (held.cached leaf a is) rules)

-- a rank holds each leaf whose fragment it has, and each place is that of a cached fragment
pub there_held : (tree : State) (caches : CacheMap) (roots : Roots) → ((leaf : Leaf) (a : At) → map.get caches.held leaf ≡ Some a → Rules tree roots leaf (record { 0 = a.rank })) → (r : ℕ) (leaf : Leaf) → IsThere (here caches r leaf) → Rules tree roots leaf (record { 0 = r })
there_held tree caches roots cached r leaf there = of_frag (here caches r leaf) refl there
  where
    of_frag : (o : Option Cached) → here caches r leaf ≡ o → IsThere o → Rules tree roots leaf (record { 0 = r })
    of_frag None is h = absurd h
    of_frag (Some f) is h = cached leaf (record { rank = r; frag = f }) (here_is r (map.get caches.held leaf) f is)

pub placed_at : (tree : State) (caches : CacheMap) (roots : Roots) → KeepsNone caches → ((leaf : Leaf) (a : At) → map.get caches.held leaf ≡ Some a → Rules tree roots leaf (record { 0 = a.rank }))
    → (r : ℕ) (leaf : Leaf) → has_place caches r leaf ≡ true → IsLive tree.homes tree.covers leaf → Rules tree roots leaf (record { 0 = r })
placed_at tree caches roots none cached r leaf placed live = there_held tree caches roots cached r leaf (none r leaf placed)

-- the ranks of roots have caches
abbrev pub HaveCaches : Roots → CacheMap → Type 0
HaveCaches roots caches = (leaf : Leaf) (rank : Rank) → map.get roots leaf ≡ Some rank → rank.0 < length caches.used

pub held_after : (new : State) (later : CacheMap) (after : Roots) → HaveCaches after later → KeepsNone later
    → ((leaf : Leaf) (a : At) → map.get later.held leaf ≡ Some a → Rules new after leaf (record { 0 = a.rank })) → AreHeld new later after
held_after new later after ranks none cached = record { cached = cached; placed = placed_at new later after none cached; ranks = ranks }

-- the authority of a leaf at a rank of this number
pub is_that : (tree : State) (roots : Roots) (leaf : Leaf) (rank : Rank) → Rules tree roots leaf rank → (r : ℕ) (q : Leaf) → IsThat rank.0 leaf r q → Rules tree roots q (record { 0 = r })
is_that tree roots leaf rank rules r q that = subst (λ (n : ℕ). Rules tree roots q (record { 0 = n })) (sym that.0) (subst (λ (l : Leaf). Rules tree roots l rank) (sym that.1) rules)

-- where each leaf that stays keeps its authority, and each that is used is so at its own
module _ (Uses Ends : ℕ → Leaf → Type 0) (old new : Core) (came : Came Uses Ends old.caches new.caches) (sound : IsSoundCore new) where
  pub held_since : (before after : Roots) → IsOwned old before → KeepsAuthorities (state_of old) (state_of new) before after → HaveCaches after new.caches
      → ((r : ℕ) (q : Leaf) → Uses r q → IsLive new.homes new.covers q → Rules (state_of new) after q (record { 0 = r })) → AreHeld (state_of new) new.caches after
  held_since before after owned keeps have at = held_after (state_of new) new.caches after have sound.none (λ leaf a is.
      let live = (sound.cached leaf a is).live in
      ⊎_elim (λ was. keeps leaf (record { 0 = a.rank }) (owned.sound.cached leaf a was).live live (owned.held.cached leaf a was)) (λ used. at a.rank leaf used live) (came_held Uses Ends old.caches new.caches came leaf a is))

  -- directories, leaves and roots stay
  pub owned_came : (roots : Roots) → new.homes ≡ old.homes → new.covers ≡ old.covers → ((r : ℕ) (q : Leaf) → Uses r q → IsLive old.homes old.covers q → Rules (state_of old) roots q (record { 0 = r })) → IsOwned old roots → IsOwned new roots
  owned_came roots homes covers holds owned = record {
    sound = sound;
    valid = rw (homes, covers) owned.valid;
    held = held_since roots roots owned (λ leaf rank was is. rw (homes, covers) (λ rules. rules)) (rw (came_ranks Uses Ends old.caches new.caches came) owned.held.ranks) (rw (homes, covers) holds);
  }

-- reads of leaves at their authorities
module _ (Uses Ends : ℕ → Leaf → Type 0) (old new : Core) (roots : Roots) (reads : ReadsCore Uses Ends old new) (sound : IsSoundCore new)
    (holds : (r : ℕ) (q : Leaf) → Uses r q → IsLive old.homes old.covers q → Rules (state_of old) roots q (record { 0 = r })) (owned : IsOwned old roots) where
  pub owned_reads : IsOwned new roots
  owned_reads =
      let same = reads_state Uses Ends old new reads in
      owned_came Uses Ends old new (reads_came Uses Ends old.objects old.caches new.caches reads.caches) sound roots (ap (λ (s : State). s.homes) same) (ap (λ (s : State). s.covers) same) holds owned

-- uses of a leaf at its authority, where directories and leaves stay
pub record IsUsed (old new : Core) (roots : Roots) (leaf : Leaf) : Type 0 where
  pub came : UsesAt (Rules (state_of old) roots leaf) leaf old.caches new.caches
  pub count : length new.caches.used ≡ length old.caches.used
  pub cap : new.caches.cap ≡ old.caches.cap
  pub owned : IsOwned new roots

pub used_at : (old new : Core) (roots : Roots) (leaf : Leaf) (rank : Rank) → IsOwned old roots → Rules (state_of old) roots leaf rank → Came (IsThat rank.0 leaf) NoneEnds old.caches new.caches → IsSoundCore new → new.homes ≡ old.homes → new.covers ≡ old.covers → IsUsed old new roots leaf
used_at old new roots leaf rank owned rules came sound homes covers = record {
  came = came_weaker (IsThat rank.0 leaf) NoneEnds (UsedAt (Rules (state_of old) roots leaf) (λ (q : Leaf). q ≡ leaf)) NoneEnds
      (λ r q that. (subst (λ (n : ℕ). Rules (state_of old) roots leaf (record { 0 = n })) (sym that.0) rules, that.1)) (λ r q none. none) old.caches new.caches came;
  count = came_ranks (IsThat rank.0 leaf) NoneEnds old.caches new.caches came;
  cap = came_cap (IsThat rank.0 leaf) NoneEnds old.caches new.caches came;
  owned = owned_came (IsThat rank.0 leaf) NoneEnds old new came sound roots homes covers (λ r q that live. is_that (state_of old) roots leaf rank rules r q that) owned;
}
