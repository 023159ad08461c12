-- A place that is kept for a leaf that will come, beside one that stays: what it leaves, and why it is refused.
use Rattle.mdcache.proofs.Common.{AreCaches, CacheMap, Cached, Core, IfErr, IsKeptFor, KeepsAt, KeepsNone, KeepsOnlyAt, LacksPlacesIn, Leaf, MakesRoomAt, MayNotFind, MayNotKeepAt, None, NoneEnds, OnErr, OnOk, Option, Rank, ReadsCore, Refusal, Result, Some, StaysNamed, absent_roomy, ap, at_rank, false, has_place, here, inl, inr, it_stays, keeps_reads, length, on_err_weaker, on_ok_weaker, refl, room_reads, rules, staying, subst, sym, ℕ, ⊎_elim, ◌+◌, ◌<◌, ◌∙◌, ◌≡◌}
use Rattle.std.specs.FinMap as map
use Rattle.mdcache.proofs.CoreLaws.{if_err, next_step, no_less_itself, not_found_before}
use Rattle.mdcache.proofs.NoneLaws.{kept_for, kept_stays, none_absent, none_room, only_kept}
use Rattle.mdcache.proofs.UncleanOf.{full_lacks}

-- what both outcomes leave
either : {A E X P Q : Type 0} (r : Result A E) → (P → X) → (Q → X) → OnOk r P → OnErr r Q → X
either r f g p q = search rules

module _ (Uses : ℕ → Leaf → Type 0) (old mid view : Core) (is : view ≡ mid) (before : ReadsCore Uses NoneEnds old mid) (none_mid : KeepsNone mid.caches)
    (rank : Rank) (leaf : Leaf) (stay : Option Leaf) (there_mid : rank.0 < length mid.caches.used) (absent_mid : map.get mid.caches.held leaf ≡ None) (named : Uses rank.0 leaf) (stayed : StaysNamed Uses stay)
    (result : Result (Unit {0}) Refusal) (caches' : CacheMap) (valid : AreCaches view.caches)
    (kept : OnOk result (KeepsAt rank.0 leaf stay view.caches caches')) (left : OnErr result (MakesRoomAt rank.0 stay view.caches caches')) where
  none : KeepsNone view.caches
  none = subst (λ (k : Core). KeepsNone k.caches) (sym is) none_mid

  there : rank.0 < length view.caches.used
  there = subst (λ (k : Core). rank.0 < length k.caches.used) (sym is) there_mid

  absent : map.get view.caches.held leaf ≡ None
  absent = subst (λ (k : Core). map.get k.caches.held leaf ≡ None) (sym is) absent_mid

  keep_absent : has_place view.caches rank.0 leaf ≡ false
  keep_absent = none_absent view.caches rank.0 leaf none absent

  -- the leaf is cached nowhere still
  nowhere_kept : KeepsAt rank.0 leaf stay view.caches caches' → map.get caches'.held leaf ≡ None
  nowhere_kept k = ap (λ (c : CacheMap). map.get c.held leaf) k.2 ∙ absent_roomy view.caches k.0 rank.0 stay leaf k.1 absent

  -- what is left once the place is kept, or was refused
  pub record HasKept : Type 0 where
    pub nowhere : map.get caches'.held leaf ≡ None
    pub reads : ReadsCore Uses NoneEnds old (record view { caches = caches' })
    pub place : OnOk result (IsKeptFor caches' rank.0 leaf)
    pub only : OnOk result (KeepsOnlyAt (Some (rank, leaf)) caches')
    pub none_kept : OnErr result (KeepsNone caches')

  pub keep_so : HasKept
  keep_so = record {
    nowhere = either result nowhere_kept (⊎_elim (λ same. ap (λ (k : CacheMap). map.get k.held leaf) same ∙ absent) (λ made. absent_roomy view.caches caches' rank.0 stay leaf made absent)) kept left;
    reads = next_step Uses NoneEnds old view (record view { caches = caches' }) (no_less_itself view.room) refl mid before is
        (either result (keeps_reads Uses NoneEnds view.objects view.caches view.caches caches' rank.0 leaf stay it_stays named stayed keep_absent)
        (room_reads Uses NoneEnds view.objects view.caches view.caches caches' rank.0 leaf stay it_stays named stayed keep_absent) kept left);
    place = on_ok_weaker result (λ k. (kept_for view.caches rank.0 leaf none there valid stay caches' absent k, nowhere_kept k)) kept;
    only = on_ok_weaker result (only_kept view.caches rank.0 leaf none there valid stay caches' rank refl absent) kept;
    none_kept = on_err_weaker result (none_room view.caches rank.0 leaf none there valid stay caches') left;
  }

  -- what is to stay is there as it was
  pub keep_stays : (P : Option Cached → Type 0) (one : Leaf) (s : ℕ) → stay ≡ Some one → P (here mid.caches s one) → OnOk result (P (here caches' s one))
  keep_stays P one s is_one has = on_ok_weaker result (λ k.
      subst P (sym (ap (at_rank s) (kept_stays view.caches caches' rank.0 leaf one there (subst (λ (o : Option Leaf). KeepsAt rank.0 leaf o view.caches caches') is_one k))))
      (subst (λ (c : Core). P (here c.caches s one)) (sym is) has)) kept

  pub keep_refused : IfErr result (MayNotKeepAt rank.0 stay view.caches) → mid.faults ≡ old.faults → IfErr result (MayNotFind (LacksPlacesIn (1 + staying stay) old.caches rank.0) old.faults view.faults)
  keep_refused refused same = if_err _ _ result (λ reason why. not_found_before Uses NoneEnds old mid before (1 + staying stay) rank.0 view.faults reason same
      (subst (λ (k : Core). MayNotFind (LacksPlacesIn (1 + staying stay) k.caches rank.0) k.faults view.faults reason) is
      (⊎_elim inl (λ full. inr (inr (full.0, full_lacks view.caches rank.0 stay valid none full.1))) why))) refused
