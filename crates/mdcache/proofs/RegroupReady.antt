-- What is made ready for a split or a merge: first room and names are planned, then the place that was kept is given up, then leaves are read.
use Rattle.mdcache.proofs.Common.{AreAbsent, AreCaches, HaveKeptPlaces, CacheMap, Cached, Core, Dirfrag, Fragment, HasCached, Ino, IsButPlaces, IsChildAt, IsDistinct, IsFamilyAt, IsNoLess, IsThat, IsThere, HasNoKeptPlace, KeepsNone, LacksPlacesIn, Leaf, MayNotFind, MayNotKeepAll, None, NoneEnds, Option, Reads, ReadsCore, ReadsFamily, Refusal, StaysAt, ap, arith, at_rank, child_of, false, has_place, here, inl, inr, it_stays, kept_at, leaf_is, leaf_itself, leaf_of, length, no_child, none_kept_at, order, placed_given_up, readies_whole, reads_placed, reads_then, reads_weaker, refl, refused_whole, rules, subst, suc, sym, true, unclean_at, unclean_of, without_children, zero, ℕ, ⊎_elim, ◌+◌, ◌<◌, ◌^◌, ◌∙◌, ◌≡◌, ◌≤◌, ◌⊎◌}
use Rattle.std.specs.FinMap as map
use Rattle.dentry_cache.proofs.ChildLaws.{AreDropped, are_dropped}
use Rattle.mdcache.proofs.CoreLaws.{first_step, next_step, no_less_itself, not_found_before, reads_core_wider, still_absent, there_after}
use Rattle.mdcache.proofs.NoneLaws.{none_absent}
use Rattle.mdcache.proofs.UncleanOf.{unclean_few}

-- where places of children are given up, what has one had one
placed_without : (r : ℕ) (dir : Ino) (frag : Fragment) (bits n : ℕ) (c : CacheMap) (s : ℕ) (q : Leaf) → has_place (without_children r dir frag bits n c) s q ≡ true → has_place c s q ≡ true
placed_without r dir frag bits zero c s q placed = placed
placed_without r dir frag bits (suc n) c s q placed = placed_without r dir frag bits n c s q (placed_given_up (without_children r dir frag bits n c) r (dir, child_of frag n bits) s q placed)

-- what stays where it is is there
stays_there : (was now : Option Cached) → HasCached was (λ (f : Cached). HasCached now (IsButPlaces f)) → IsThere now
stays_there was now h = search rules

-- room grew alone
pub room_reads : (old new : Core) → new ≡ record old { room = new.room } → IsNoLess old.room new.room → (Uses Ends : ℕ → Leaf → Type 0) → ReadsCore Uses Ends old new
room_reads old new left less Uses Ends = subst (ReadsCore Uses Ends old) (sym left) (first_step Uses Ends old old (record old { room = new.room }) less refl refl it_stays)

-- ---- the children of a leaf that is fetched

abbrev Family : Dirfrag → ℕ → ℕ → Leaf → Type 0
Family a nb = IsFamilyAt a.rank.0 a.dir a.frag nb

abbrev Child : Dirfrag → ℕ → ℕ → Leaf → Type 0
Child a nb = IsChildAt a.rank.0 a.dir a.frag nb

module _ (old mid view : Core) (is : view ≡ mid) (a : Dirfrag) (nb : ℕ) (some : 1 ≤ nb) (reads : ReadsCore (IsThat a.rank.0 (leaf_of a)) NoneEnds old mid) (none_mid : KeepsNone mid.caches)
    (there : a.rank.0 < length old.caches.used) (absent : (i : ℕ) → i < 2 ^ nb → map.get old.caches.held (a.dir, child_of a.frag i nb) ≡ None) (valid : AreCaches old.caches) (none_old : KeepsNone old.caches) where
  fetched_nowhere : (i : ℕ) → i < 2 ^ nb → map.get mid.caches.held (a.dir, child_of a.frag i nb) ≡ None
  fetched_nowhere i below = still_absent (IsThat a.rank.0 (leaf_of a)) NoneEnds old mid (a.dir, child_of a.frag i nb) reads (λ q that.
      let clash : true ≡ false = sym (leaf_itself (leaf_of a)) ∙ ap (leaf_is (leaf_of a)) (sym that.1) ∙ no_child a.dir a.frag nb i some in absurd cc) (absent i below)

  fetched_family : ReadsCore (Family a nb) (Family a nb) old mid
  fetched_family = reads_core_wider (IsThat a.rank.0 (leaf_of a)) (Family a nb) NoneEnds (Family a nb) old mid (λ s q that. inl that) (λ s q no_end. absurd no_end) reads

  -- no leaf stands twice in the order of use
  fetched_distinct : IsDistinct leaf_is (order mid.caches a.rank.0)
  fetched_distinct = (reads_placed (IsThat a.rank.0 (leaf_of a)) NoneEnds old.objects old.caches valid (λ s q that. subst (λ (n : ℕ). n < length old.caches.used) (sym that.0) there) mid.caches reads.caches).distinct a.rank.0

  -- the fetch alone, where it was refused
  pub fetched : ReadsCore (Family a nb) (Family a nb) old mid × ((i : ℕ) → i < 2 ^ nb → map.get mid.caches.held (a.dir, child_of a.frag i nb) ≡ None) × IsDistinct leaf_is (order mid.caches a.rank.0)
  fetched = (fetched_family, fetched_nowhere, fetched_distinct)

  none : KeepsNone view.caches
  none = subst (λ (k : Core). KeepsNone k.caches) (sym is) none_mid

  -- there is a cache at the rank, and no child in any
  pub children_free : (a.rank.0 < length view.caches.used) × AreAbsent view.caches a.rank.0 a.dir a.frag nb
  children_free = (
    subst (λ (k : Core). a.rank.0 < length k.caches.used) (sym is) (there_after (IsThat a.rank.0 (leaf_of a)) NoneEnds old mid a.rank.0 reads there),
    λ i below.
        let held : map.get view.caches.held (a.dir, child_of a.frag i nb) ≡ None = ap (λ (k : Core). map.get k.caches.held (a.dir, child_of a.frag i nb)) is ∙ fetched_nowhere i below in
        (none_absent view.caches a.rank.0 (a.dir, child_of a.frag i nb) none held, held),
  )

  -- what is left once room was made for them: what was read, no leaf twice in the order of use, and what is whole
  pub children : (caches' : CacheMap) → ReadsFamily a.rank.0 a.dir a.frag nb view.caches caches' → StaysAt a.rank.0 (leaf_of a) view.caches caches' → ReadsCore (Family a nb) (Family a nb) old (record view { caches = caches' })
      × IsDistinct leaf_is (order caches' a.rank.0) × ((s : ℕ) (q : Leaf) → HasNoKeptPlace caches' s q ⊎ Child a nb s q) × (AreAbsent caches' a.rank.0 a.dir a.frag nb → KeepsNone caches')
  children caches' family stays =
      let all : Reads (Family a nb) (Child a nb) old.objects old.caches caches' = reads_then (Family a nb) (Child a nb) old.objects old.caches mid.caches caches'
      (reads_weaker (IsThat a.rank.0 (leaf_of a)) NoneEnds (Family a nb) (Child a nb) (λ s q that. inl that) (λ s q no_end. absurd no_end) old.objects old.caches mid.caches reads.caches)
      (subst (λ (c : CacheMap). Reads (Family a nb) (Child a nb) old.objects c caches') (ap (λ (k : Core). k.caches) is) (family old.objects)) in
      let there_still = stays_there (here view.caches a.rank.0 (leaf_of a)) (here caches' a.rank.0 (leaf_of a)) stays in (
        next_step (Family a nb) (Family a nb) old view (record view { caches = caches' }) (no_less_itself view.room) refl mid fetched_family is
            (reads_weaker (Family a nb) (Child a nb) (Family a nb) (Family a nb) (λ s q is. is) (λ s q child. inr child) view.objects view.caches caches' (family view.objects)),
        (reads_placed (Family a nb) (Child a nb) old.objects old.caches valid (λ s q named. subst (λ (n : ℕ). n < length old.caches.used) (sym (⊎_elim (λ it. it.0) (λ child. child.0) named)) there) caches' all).distinct a.rank.0,
        readies_whole a.rank.0 a.dir a.frag nb old.objects old.caches caches' there valid none_old all there_still,
        refused_whole a.rank.0 a.dir a.frag nb old.objects old.caches caches' there valid none_old all there_still,
      )

  pub children_refused : mid.faults ≡ old.faults → (reason : Refusal) → MayNotKeepAll (2 ^ nb) view.caches a.rank.0 reason → MayNotFind (LacksPlacesIn (2 ^ nb + 1) old.caches a.rank.0) old.faults view.faults reason
  children_refused same reason refused =
      not_found_before (IsThat a.rank.0 (leaf_of a)) NoneEnds old mid reads (2 ^ nb + 1) a.rank.0 view.faults reason same
      (subst (λ (k : Core). MayNotFind (LacksPlacesIn (2 ^ nb + 1) k.caches a.rank.0) k.faults view.faults reason) is (⊎_elim (λ memory. inl memory) (λ full.
      let lacks = full.1 in
      let kept : length (kept_at view.caches a.rank.0) ≡ 0 = none_kept_at view.caches a.rank.0 (none a.rank.0) in
      let few : length (unclean_at view.caches a.rank.0) ≤ map.len (unclean_of view.caches a.rank.0) = unclean_few view.caches a.rank.0 (subst (λ (k : Core). IsDistinct leaf_is (order k.caches a.rank.0)) (sym is) fetched_distinct) in
      inr (inr (full.0, omega (arith, lacks, kept, few)))) refused))

-- ---- the places of a split's children are given up again

-- the leaf can be split as before, and no place is kept
pub record HasGivenUp (old last : Core) (a : Dirfrag) (nb : ℕ) : Type 0 where
  pub reads : ReadsCore (Family a nb) (Family a nb) old last
  pub absent : (i : ℕ) → i < 2 ^ nb → map.get last.caches.held (a.dir, child_of a.frag i nb) ≡ None
  pub none : KeepsNone last.caches

module _ (old mid : Core) (a : Dirfrag) (nb : ℕ) (reads : ReadsCore (Family a nb) (Family a nb) old mid) (there : a.rank.0 < length old.caches.used) (distinct : IsDistinct leaf_is (order mid.caches a.rank.0))
    (kept : HaveKeptPlaces mid.caches a.rank.0 a.dir a.frag nb) (only : (s : ℕ) (q : Leaf) → HasNoKeptPlace mid.caches s q ⊎ Child a nb s q)
    (last : Core) (left : last ≡ record mid { caches = without_children a.rank.0 a.dir a.frag nb (2 ^ nb) mid.caches }) where
  abbrev freed : CacheMap
  freed = without_children a.rank.0 a.dir a.frag nb (2 ^ nb) mid.caches

  dropped : AreDropped a.rank.0 a.dir a.frag nb (2 ^ nb) mid.caches freed
  dropped = are_dropped a.rank.0 a.dir a.frag nb (2 ^ nb) mid.caches (omega arith) (there_after (Family a nb) (Family a nb) old mid a.rank.0 reads there) distinct (λ i below. (kept i below).1)

  pub given_up : HasGivenUp old last a nb
  given_up = subst (λ (k : Core). HasGivenUp old k a nb) (sym left) (record {
    reads = next_step (Family a nb) (Family a nb) old mid (record mid { caches = freed }) (no_less_itself mid.room) refl mid reads refl
        (reads_weaker (Family a nb) (Child a nb) (Family a nb) (Family a nb) (λ s q is. is) (λ s q child. inr child) mid.objects mid.caches freed (dropped.reads mid.objects));
    absent = λ i below. ap (λ m. map.get m (a.dir, child_of a.frag i nb)) dropped.held ∙ (kept i below).1;
    none = λ s q placed. ⊎_elim (λ whole. subst (λ m. IsThere (at_rank s (map.get m q))) (sym dropped.held) (whole (placed_without a.rank.0 a.dir a.frag nb (2 ^ nb) mid.caches s q placed)))
        (λ child.
        let clash : true ≡ false = sym placed ∙ (λ i. has_place freed (child.0 i) (child.3 i)) ∙ dropped.none child.1 child.2 in
        absurd cc) (only s q);
  })
