-- What a step that serves gives, by its answer.
use Rattle.asking.proofs.Common.{Answer, Bool, false, Goes, IsOfServe, Replied, Served, ServesTo, Waits, told_of, Core, Deferred, Entry, Err, Forwarded, IsApplied, IsDeferred, IsForwarded, IsRepeated, KeepsUnclean, List, MatchBool, NoneEnds, Ok, Op, Rank, ReadsOp, Receipt, Refusal, RefusesRequest, Reply, Request, Result, Serve, ServesInbox, ServesRequest, Steps, TreeMayRefuse, UsesRequest, UsesStep, ap, held_roots, refl, ◌∙◌, inl, inr, length, lt-ltb, nat_lt, reads_unclean_of, subst, sym, told_as, true, waiting_at, ◌∷◌, ◌≡◌, ◌⊎◌, None, Option}
use Rattle.cluster_core.specs.Uses.{Asks as AsksFor, UsesFront}
use Rattle.cluster_core.specs.Serve.{entry_of}
use Rattle.dentry_cache.specs.CacheMap.{CacheMap, unclean_of}
use Rattle.cluster_core.specs.OneThread.{receipt_of}
use Rattle.asking.specs.Serves.{receipts_in}
use Rattle.asking.proofs.InboxLaws.{is_there}

-- what is done where the rank is there
done_there : (b : Bool) (Done Else : Type 0) → b ≡ true → MatchBool b Done Else → Done
done_there true Done Else e done = done
done_there false Done Else e none = let clash : true ≡ false = sym e in absurd cc

-- reads leave what isn't clean
pub reads_keep : (old new : Core) (op : Op) (told : Option Refusal) → new.caches.cap ≡ old.caches.cap → ReadsOp old.state.tree (held_roots old.state) op told old.caches new.caches → KeepsUnclean old new
reads_keep old new op told cap reads = record {
  unclean = reads_unclean_of (AsksFor old.state.tree (held_roots old.state) op reads.0) NoneEnds old.state.tree.objects old.caches new.caches reads.2;
  cap = cap;
}

pub same_keep : (old new : Core) → new.caches ≡ old.caches → KeepsUnclean old new
same_keep old new same = record { unclean = λ rank. ap (λ (c : CacheMap). unclean_of c rank) same; cap = ap (λ (c : CacheMap). c.cap) same }

module _ (old new : Core) (past now : List Entry) (rank : Rank) (request : Request) (rest : List Request) (waits : waiting_at old.state.inboxes rank ≡ request ∷ rest) where
  pub its : (result : Result Answer Refusal) → Steps old new past now result (Serve rank) → ServesRequest old.state new.state past now (TreeMayRefuse old new) rank request rest result
  its result steps =
      subst (ServesInbox old.state new.state past now (TreeMayRefuse old new) rank result) waits
      (done_there (nat_lt rank.0 (length old.state.inboxes)) _ _ (lt-ltb _ _ (is_there old.state.inboxes rank request rest waits)) steps.does)

  -- what it makes of the caches
  used : (result : Result Answer Refusal) → UsesStep old new result (Serve rank) → UsesRequest old.state.tree new.state.tree (held_roots old.state) request.op old.caches new.caches result
  used result uses =
      subst (UsesFront old.state.tree new.state.tree (held_roots old.state) old.caches new.caches result) waits
      (done_there (nat_lt rank.0 (length old.state.inboxes)) _ _ (lt-ltb _ _ (is_there old.state.inboxes rank request rest waits)) uses)

  abbrev Gives : Answer → Type 0
  Gives answer = ServesRequest old.state new.state past now (TreeMayRefuse old new) rank request rest (Ok answer)

  pub replied : (receipt : Receipt) → Steps old new past now (Ok (told_as receipt)) (Serve rank) → IsApplied old.state new.state past now rank request rest (told_as receipt) ⊎ IsRepeated old.state new.state past now rank request rest (told_as receipt)
  replied receipt steps = go (its (Ok (told_as receipt)) steps)
    where
      go : Gives (told_as receipt) → IsApplied old.state new.state past now rank request rest (told_as receipt) ⊎ IsRepeated old.state new.state past now rank request rest (told_as receipt)
      go (inl h) = inl h
      go (inr (inl h)) = inr h
      go (inr (inr (inl h))) = let clash : told_as receipt ≡ Forwarded h.master = h.answered in absurd cc
      go (inr (inr (inr h))) = let clash : told_as receipt ≡ Deferred = h.answered in absurd cc

  pub goes : (master : Rank) → Steps old new past now (Ok (Forwarded master)) (Serve rank) → UsesStep old new (Ok (Forwarded master)) (Serve rank) → IsForwarded old.state new.state past now rank request rest (Forwarded master) × KeepsUnclean old new
  goes master steps uses = (go (its (Ok (Forwarded master)) steps), same_keep old new (used (Ok (Forwarded master)) uses))
    where
      go : Gives (Forwarded master) → IsForwarded old.state new.state past now rank request rest (Forwarded master)
      go (inl h) = let clash : Forwarded master ≡ Reply _ _ _ _ _ = h.answered in absurd cc
      go (inr (inl h)) = let clash : Forwarded master ≡ Reply _ _ _ _ _ = h.answered (entry_of old.state rank request) in absurd cc
      go (inr (inr (inl h))) = h
      go (inr (inr (inr h))) = let clash : Forwarded master ≡ Deferred = h.answered in absurd cc

  pub waits_on : Steps old new past now (Ok Deferred) (Serve rank) → UsesStep old new (Ok Deferred) (Serve rank) → IsDeferred old.state new.state past now rank request rest Deferred × KeepsUnclean old new
  waits_on steps uses = (go (its (Ok Deferred) steps), reads_keep old new request.op None steps.capacity (used (Ok Deferred) uses))
    where
      go : Gives Deferred → IsDeferred old.state new.state past now rank request rest Deferred
      go (inl h) = let clash : Deferred ≡ Reply _ _ _ _ _ = h.answered in absurd cc
      go (inr (inl h)) = let clash : Deferred ≡ Reply _ _ _ _ _ = h.answered (entry_of old.state rank request) in absurd cc
      go (inr (inr (inl h))) = let clash : Deferred ≡ Forwarded h.master = h.answered in absurd cc
      go (inr (inr (inr h))) = h

  pub refused : (reason : Refusal) → Steps old new past now (Err reason) (Serve rank) → RefusesRequest old.state new.state past now (TreeMayRefuse old new) rank request rest reason
  refused reason steps = its (Err reason) steps

  -- and no other answer
  pub is_of_serve : (answer : Answer) → Steps old new past now (Ok answer) (Serve rank) → IsOfServe answer
  is_of_serve answer steps = go (its (Ok answer) steps)
    where
      go : Gives answer → IsOfServe answer
      go (inl h) = subst IsOfServe (sym h.answered) tt
      go (inr (inl h)) = subst IsOfServe (sym (h.answered (entry_of old.state rank request))) tt
      go (inr (inr (inl h))) = subst IsOfServe (sym h.answered) tt
      go (inr (inr (inr h))) = subst IsOfServe (sym h.answered) tt

  pub served : (answer : Answer) (so : Served) → told_of so ≡ answer → Steps old new past now (Ok answer) (Serve rank) → UsesStep old new (Ok answer) (Serve rank) → ServesTo old new past now rank request rest (Ok so)
  served answer so is steps uses = go so (subst (λ (a : Answer). Steps old new past now (Ok a) (Serve rank)) (sym is) steps) (subst (λ (a : Answer). UsesStep old new (Ok a) (Serve rank)) (sym is) uses)
    where
      go : (so : Served) → Steps old new past now (Ok (told_of so)) (Serve rank) → UsesStep old new (Ok (told_of so)) (Serve rank) → ServesTo old new past now rank request rest (Ok so)
      go (Replied receipt) h u = replied receipt h
      go (Goes master) h u = goes master h u
      go Waits h u = waits_on h u

-- the reply that an answer is, by what it says of the request
pub told_so : (answer : Answer) (served : Served) → told_of served ≡ answer → receipt_of (Ok answer) ≡ receipts_in (Ok served)
told_so answer served is = ap (λ (a : Answer). receipt_of (Ok a)) (sym is) ∙ go served
  where
    go : (s : Served) → receipt_of (Ok (told_of s)) ≡ receipts_in (Ok s)
    go (Replied receipt) = refl
    go (Goes master) = refl
    go Waits = refl
