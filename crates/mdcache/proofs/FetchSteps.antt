-- A fetch of a leaf: what it leaves, and why it is refused.
use Rattle.mdcache.proofs.Common.{AreCaches, Bool, CacheMap, Core, Dirfrag, Err, FetchesAt, Fragment, IfErr, IsAbsent, IsNewestOf, IsSaved, IsThere, KeepsNone, LacksPlacesIn, Leaf, List, Loads, MakesRoomAt, MayFetch, MayNotFetchAt, MayNotFind, None, NoneEnds, Objects, Ok, Omap, OnErr, OnOk, Option, Reads, ReadsCore, Refusal, Result, Some, StaysNamed, [], ap, arith, lies_by, at_rank, cond, false, false_from_ne_true, faults_told, fetched_reads, moved_first, get_or-set_same, get_unclean, get_with_frag, has_place, here, inl, inr, it_stays, leaf_is, leaf_of, length, object_of, one_leaf, order, ranks_roomy, refl, result_err, room_reads, roomy, roomy_stays, rules, slice_get, staying, subst, sym, true, unsaved_at, used_at, ℕ, ⊎_elim, ◌+◌, ◌<◌, ◌∙◌, ◌≡◌}
use Rattle.std.specs.FinMap as map
use Rattle.mdcache.proofs.CoreLaws.{first_step, no_less_itself}
use Rattle.mdcache.proofs.NoneLaws.{none_fetched, none_room}
use Rattle.mdcache.proofs.UncleanOf.{full_lacks}

-- an object that spells a fragment isn't one that spells none
not_damaged : (f : Fragment) (o : Option Omap) → IsSaved f o → Loads f o None → ⊥
not_damaged f o saved loads = search rules

-- what is used comes to the front of its rank's order
pub newest_used : (c : CacheMap) (r : ℕ) (leaf : Leaf) → r < length c.used → IsNewestOf (used_at c r leaf) r leaf
newest_used c r leaf there = ap (λ (ls : List Leaf). slice_get ls 0) (get_or-set_same c.used r (moved_first leaf (order c r)) [] there)

newest_fetched : (c new : CacheMap) (r : ℕ) (leaf : Leaf) (stay : Option Leaf) (object : Option Omap) (b : Bool) → r < length c.used → FetchesAt r leaf stay object b c new → IsNewestOf new r leaf
newest_fetched c new r leaf stay object true there is = subst (λ (k : CacheMap). IsNewestOf k r leaf) (sym is) (newest_used c r leaf there)
newest_fetched c new r leaf stay object false there f =
    subst (λ (k : CacheMap). IsNewestOf k r leaf) (sym f.5) (newest_used f.3 r leaf (subst (λ (n : ℕ). r < n) (sym (ranks_roomy c f.3 r stay f.4)) there))

-- what a fetch leaves, and why it is refused
pub record IsFetched (Uses : ℕ → Leaf → Type 0) (a : Dirfrag) (stay : Option Leaf) (result : Result (Unit {0}) Refusal) (old new : Core) : Type 0 where
  pub reads : ReadsCore Uses NoneEnds old new
  pub none : KeepsNone new.caches
  pub newest : OnOk result (IsNewestOf new.caches a.rank.0 (leaf_of a))
  -- the one to stay is where it was, as it was
  pub stays : (r : ℕ) (one : Leaf) → stay ≡ Some one → IsThere (here old.caches r one) → here new.caches r one ≡ here old.caches r one
  pub refused : IfErr result (MayNotFind (LacksPlacesIn (1 + staying stay) old.caches a.rank.0) old.faults new.faults)

module _ (a : Dirfrag) (stay : Option Leaf) (Uses : ℕ → Leaf → Type 0) (named : Uses a.rank.0 (leaf_of a)) (stayed : StaysNamed Uses stay) (caches' : CacheMap) (objects' : Objects) (faults' : ℕ) where
  module _ (c : Core) (may : MayFetch c a) (none : KeepsNone c.caches) (valid : AreCaches c.caches) (same : objects' ≡ c.objects) where
    abbrev object : Option Omap
    object = object_of c.objects a.dir a.frag

    step : Reads Uses NoneEnds c.objects c.caches caches' → ReadsCore Uses NoneEnds c (record c { caches = caches'; objects = objects'; faults = faults' })
    step = first_step Uses NoneEnds c c _ (no_less_itself c.room) (λ i. record c { caches = caches'; objects = same i; faults = faults' }) refl

    kept : (r : ℕ) (one : Leaf) (mid : CacheMap) → stay ≡ Some one → roomy c.caches a.rank.0 stay ≡ Some mid → here mid r one ≡ here c.caches r one
    kept r one mid stays made = ap (at_rank r) (roomy_stays c.caches mid a.rank.0 one may.there (ap (roomy c.caches a.rank.0) (sym stays) ∙ made))

    stays_in : (b : Bool) → FetchesAt a.rank.0 (leaf_of a) stay object b c.caches caches' → (r : ℕ) (one : Leaf) → stay ≡ Some one → IsThere (here c.caches r one) → here caches' r one ≡ here c.caches r one
    stays_in true is r one stays there = ap (λ (k : CacheMap). here k r one) is
    stays_in false f r one stays there = ap (λ (k : CacheMap). here k r one) f.5 ∙ ap (at_rank r) (get_with_frag f.3 a.rank.0 (leaf_of a) f.1 one ∙ ap (λ (b : Bool). cond b (Some (lies_by a.rank.0 f.1)) (map.get f.3.held one)) apart) ∙ kept r one f.3 stays f.4
      where
        apart : leaf_is one (leaf_of a) ≡ false
        apart = false_from_ne_true _ (λ same. subst IsThere (ap (at_rank r) (ap (map.get c.caches.held) (one_leaf one (leaf_of a) same) ∙ f.0)) there)

    by : (result : Result (Unit {0}) Refusal) → OnOk result (FetchesAt a.rank.0 (leaf_of a) stay object (has_place c.caches a.rank.0 (leaf_of a)) c.caches caches') → OnErr result (IsAbsent c.caches a.rank.0 (leaf_of a))
        → OnErr result (MakesRoomAt a.rank.0 stay c.caches caches') → IfErr result (MayNotFetchAt a.rank.0 (leaf_of a) stay object c.caches) → faults' ≡ c.faults + faults_told (result_err result)
        → IsFetched Uses a stay result c (record c { caches = caches'; objects = objects'; faults = faults' })
    by (Ok done) fetched absent left refused counted = record {
      reads = step (fetched_reads Uses NoneEnds c.objects c.caches c.caches caches' a.rank.0 (leaf_of a) stay it_stays named stayed _ refl fetched);
      none = none_fetched c.caches a.rank.0 (leaf_of a) none may.there valid stay object caches' _ refl fetched;
      newest = newest_fetched c.caches caches' a.rank.0 (leaf_of a) stay object _ may.there fetched;
      stays = stays_in _ fetched;
      refused = tt;
    }
    by (Err reason) fetched absent left refused counted = record {
      reads = step (room_reads Uses NoneEnds c.objects c.caches c.caches caches' a.rank.0 (leaf_of a) stay it_stays named stayed absent.0 left);
      none = none_room c.caches a.rank.0 (leaf_of a) none may.there valid stay caches' left;
      newest = tt;
      stays = λ r one stays there. ⊎_elim (λ same. ap (λ (k : CacheMap). here k r one) same) (kept r one caches' stays) left;
      refused = why refused;
    }
      where
        why : MayNotFetchAt a.rank.0 (leaf_of a) stay object c.caches reason → MayNotFind (LacksPlacesIn (1 + staying stay) c.caches a.rank.0) c.faults faults' reason
        why (inl memory) = inl memory
        why (inr (inl fault)) = inr (inl (fault, omega (arith, counted ∙ ap (λ (e : Refusal). c.faults + faults_told (Some e)) fault)))
        why (inr (inr (inl damaged))) = absurd (not_damaged a.frag object (may.saved (get_unclean c.caches (leaf_of a) ∙ ap unsaved_at absent.1)) damaged.1)
        why (inr (inr (inr full))) = inr (inr (full.0, full_lacks c.caches a.rank.0 stay valid none full.1))

  -- so of what is seen of the parts that are there
  pub fetched : (old view : Core) → view ≡ old → MayFetch old a → KeepsNone old.caches → (result : Result (Unit {0}) Refusal) → AreCaches view.caches
      → OnOk result (FetchesAt a.rank.0 (leaf_of a) stay (object_of view.objects a.dir a.frag) (has_place view.caches a.rank.0 (leaf_of a)) view.caches caches')
      → OnErr result (IsAbsent view.caches a.rank.0 (leaf_of a)) → OnErr result (MakesRoomAt a.rank.0 stay view.caches caches') → objects' ≡ view.objects
      → IfErr result (MayNotFetchAt a.rank.0 (leaf_of a) stay (object_of view.objects a.dir a.frag) view.caches) → faults' ≡ view.faults + faults_told (result_err result)
      → IsFetched Uses a stay result old (record view { caches = caches'; objects = objects'; faults = faults' })
  fetched old view is may none result valid takes absent left same refused counted = subst (λ (k : Core). IsFetched Uses a stay result k (record view { caches = caches'; objects = objects'; faults = faults' })) is
      (by view (subst (λ (k : Core). MayFetch k a) (sym is) may) (subst (λ (k : Core). KeepsNone k.caches) (sym is) none) valid same result takes absent left refused counted)
