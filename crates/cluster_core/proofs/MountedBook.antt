-- A cluster over a store as it is found is sound from the tree that it opens with.
use Rattle.cluster_core.proofs.Common.{AreCaches, AreHeld, AreNumbers, AreTopRoots, CacheMap, Core, Covers, Dentry, Inode, IsFresh, IsIn, IsOfRank, IsOwned, IsSound, IsSupplied, IsSupply, List, Mounts, MountsCore, None, Objects, Roots, Some, State, Supply, Tree, [], ap, arith, core_of, dentry-total, dentry_cmp, first_number, fresh, get-empty, get_entry, get_or, inl, inr, length, length-replicate, map, no_supply, none_stand, refl, replicate, shown_in, slice_get, subst, suc, sym, table-none, top_of_none, whole_supplies, zero, ℕ, ◌+◌, ◌<◌, ◌∙◌, ◌∷◌, ◌≡◌, ◌≤◌, ◌⊎◌}
use Rattle.sessions.specs.Table.{no_table}
use Rattle.std.specs.Prelude.{Contains}
use Rattle.std.specs.FinMap as finmap
use Rattle.mdcache.specs.Core.{Core as TreeCore, state_of}
use Rattle.mdcache.specs.Mounted.{IsNextNumber}
use Rattle.mdcache.specs.State.{State as TreeState}
use Rattle.cluster_core.proofs.NewBook.{new_count, stand_alone}

-- ---- numbers

-- the entry in which a number of the tree stands
entry_numbered : (es : List (Dentry × Inode)) (n : ℕ) → Contains (map (λ (e : Dentry × Inode). e.1.ino.0) es) n → (e : Dentry × Inode) × IsIn e es × (e.1.ino.0 ≡ n)
entry_numbered [] n (k, below, is) = absurd (omega (arith, below))
entry_numbered (e ∷ es) n (zero, below, is) = (e, inl refl, is)
entry_numbered (e ∷ es) n (suc k, below, is) = let w = entry_numbered es n (k, omega (arith, below), is) in (w.0, inr w.1, w.2)

-- of a rank's range only numbers below its next are used, where nothing was applied
fresh_from : (opening : Tree) (s : Supply) → IsNextNumber opening s → IsFresh (fresh opening) [] s
fresh_from opening s next n low high (inl (t, (k, below, is), from, to, less)) = absurd (omega (arith, below))
fresh_from opening s next n low high (inr (inl one)) = absurd (omega (arith, low, one))
fresh_from opening s next n low high (inr (inr (inl stands))) =
    let w = entry_numbered (finmap.entries opening) n stands in
    let is = w.2 in
    let of : IsOfRank opening s.rank w.0.0 w.0.1 = record { stands = get_entry dentry-total opening w.0 w.1; from = omega (arith, low, is); before = omega (arith, high, is) } in
    let above = next.above w.0.0 w.0.1 of in
    omega (arith, above, is)
fresh_from opening s next n low high (inr (inr (inr (k, x, below, is, took)))) = absurd (omega (arith, below))

-- the next number is one of the rank's range or its end
supply_from : (opening : Tree) (s : Supply) → s.rank < 16 → IsNextNumber opening s → IsSupply s
supply_from opening s ranked next = go next.tight
  where
    go : (s.next ≡ first_number s.rank) ⊎ ((dentry : Dentry) × (inode : Inode) × IsOfRank opening s.rank dentry inode × (s.next ≡ inode.ino.0 + 1)) → IsSupply s
    go (inl first) = record { ranked = ranked; started = omega (arith, first); ended = omega (arith, first) }
    go (inr (dentry, inode, of, is)) =
        let from = of.from in
        let before = of.before in
        record { ranked = ranked; started = omega (arith, from, is); ended = omega (arith, before, is) }

found_at : (xs : List Supply) (k : ℕ) → k < length xs → (s : Supply) × (slice_get xs k ≡ Some s) × (get_or xs k no_supply ≡ s)
found_at [] k below = absurd (omega (arith, below))
found_at (x ∷ xs) zero below = (x, refl, refl)
found_at (x ∷ xs) (suc k) below = found_at xs k (omega (arith, below))

supplied_from : (opening : Tree) (ranks : ℕ) (ss : List Supply) → ranks ≤ 16 → AreNumbers opening ranks ss → (rank : ℕ) → rank < length ss → IsSupplied (fresh opening) [] rank (get_or ss rank no_supply)
supplied_from opening ranks ss most a rank below =
    let at = found_at ss rank below in
    let own = (a.nexts rank at.0 at.1).0 in
    let next = (a.nexts rank at.0 at.1).1 in
    let count = a.count in
    subst (IsSupplied (fresh opening) [] rank) (sym at.2) (record { supply = supply_from opening at.0 (omega (arith, own, below, count, most)) next; own = own; fresh = fresh_from opening at.0 next })

-- beside an empty tree they are all of each range
whole_from : (first : ℕ) (ss : List Supply) (ranks : ℕ) → length ss ≡ ranks → ((k : ℕ) (s : Supply) → slice_get ss k ≡ Some s → (s.rank ≡ first + k) × (s.next ≡ first_number s.rank)) → ss ≡ whole_supplies first ranks
whole_from first [] zero count each = refl
whole_from first [] (suc n) count each = absurd (omega (arith, count))
whole_from first (s ∷ ss) zero count each = absurd (omega (arith, count))
whole_from first (s ∷ ss) (suc n) count each =
    let one = each 0 s refl in
    let own : s.rank ≡ first = one.0 ∙ omega arith in
    let next : s.next ≡ first_number first = one.1 ∙ ap first_number own in
    let rest = whole_from (suc first) ss n (omega (arith, count)) (λ k t is. let of = each (suc k) t is in (of.0 ∙ omega arith, of.1)) in
    λ i. record { rank = own i; next = next i } ∷ rest i

whole_numbers : (ranks : ℕ) (ss : List Supply) → AreNumbers finmap.empty ranks ss → ss ≡ whole_supplies 0 ranks
whole_numbers ranks ss a = whole_from 0 ss ranks a.count (λ k s is. let of = a.nexts k s is in (of.0 ∙ omega arith, first_of s of.1))
  where
    first_of : (s : Supply) → IsNextNumber finmap.empty s → s.next ≡ first_number s.rank
    first_of s next = go next.tight
      where
        go : (s.next ≡ first_number s.rank) ⊎ ((dentry : Dentry) × (inode : Inode) × IsOfRank finmap.empty s.rank dentry inode × (s.next ≡ inode.ino.0 + 1)) → s.next ≡ first_number s.rank
        go (inl first) = first
        go (inr (dentry, inode, of, is)) = let clash : None ≡ Some inode = sym (get-empty dentry_cmp dentry) ∙ of.stands in absurd cc

-- ---- the cluster

module _ (limit : ℕ) (objects : Objects) (ranks places : ℕ) (t : TreeCore) (roots : Roots) (opening : Tree) (ss : List Supply) (is : Mounts limit objects ranks places opening t) (opens : opening ≡ shown_in t) (given : AreNumbers (shown_in t) ranks ss) (top : AreTopRoots t.covers roots) where
  abbrev core : Core
  core = core_of t roots finmap.empty ss (replicate ranks []) [] no_table

  its_numbers : AreNumbers opening ranks ss
  its_numbers = subst (λ (tree : Tree). AreNumbers tree ranks ss) (sym opens) given

  pub mounts_core : MountsCore limit objects ranks places opening core
  mounts_core = go is
    where
      go : Mounts limit objects ranks places opening t → MountsCore limit objects ranks places opening core
      go (inl (none, new)) =
          let first : roots ≡ _ = top_of_none roots (subst (λ (cs : Covers). AreTopRoots cs roots) (ap (λ (s : TreeState). s.covers) new.state) top) in
          let all : ss ≡ whole_supplies 0 ranks = whole_numbers ranks ss (subst (λ (tree : Tree). AreNumbers tree ranks ss) new.none its_numbers) in
          inl (none, new.none, record { state = λ i. record { tree = new.state i; roots = first i; exports = finmap.empty; numbers = all i; inboxes = replicate ranks []; pins = []; sessions = no_table }; caches = new.caches })
      go (inr (some, m)) = inr (
        some,
        record {
          walked = m.walked;
          counted = m.counted;
          tree = m.state;
          roots = top;
          exports = refl;
          numbers = its_numbers;
          inboxes = refl;
          pins = refl;
          sessions = refl;
          caches = m.caches;
        },
      )

  pub mounted_limit : t.limit ≡ limit
  mounted_limit = go is
    where
      go : Mounts limit objects ranks places opening t → t.limit ≡ limit
      go (inl (none, new)) = ap (λ (s : TreeState). s.limit) new.state
      go (inr (some, m)) = ap (λ (s : TreeState). s.limit) m.state

  as_many : length t.caches.used ≡ ranks
  as_many = go is
    where
      go : Mounts limit objects ranks places opening t → length t.caches.used ≡ ranks
      go (inl (none, new)) = ap (λ (cs : CacheMap). length cs.used) new.caches ∙ new_count ranks places
      go (inr (some, m)) = ap (λ (cs : CacheMap). length cs.used) m.caches ∙ length-replicate ranks []

  pub mounted_sound : 1 ≤ ranks → ranks ≤ 16 → IsOwned t roots → AreCaches t.caches → IsSound (fresh opening) [] core
  mounted_sound some most owned caches = record {
    legal = record { begins = omega arith; next = λ k e from below. absurd (omega (arith, below)) };
    replayed = sym opens;
    tree = record { sound = owned.sound.sound; begun = owned.sound.begun; cached = owned.sound.cached };
    subtrees = owned.valid;
    cached = record { unsaved = refl; places = owned.sound.none; held = subst (AreHeld (state_of t) t.caches) (sym (none_stand finmap.empty roots refl)) owned.held; orders = caches };
    exported = stand_alone core refl owned.held.ranks;
    ranks = record {
      some = let count = given.count in omega (arith, count, some);
      inboxes = length-replicate ranks [] ∙ sym given.count;
      caches = as_many ∙ sym given.count;
    };
    supplied = supplied_from opening ranks ss most its_numbers;
    kept = table-none;
  }

-- nothing is kept there, and nothing is forgotten
pub mounts_none_kept : (limit : ℕ) (objects : Objects) (ranks places : ℕ) (opening : Tree) (made : Core) → MountsCore limit objects ranks places opening made → made.state.sessions ≡ no_table
mounts_none_kept limit objects ranks places opening made (inl (none, empty, new)) = ap (λ (s : State). s.sessions) new.state
mounts_none_kept limit objects ranks places opening made (inr (some, m)) = m.sessions
