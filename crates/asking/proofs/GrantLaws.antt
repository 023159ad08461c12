-- What a grant gives, and those of all ranks one after the other.
use Rattle.asking.proofs.Common.{None, KeepsButGrants, Opening, Option, Answer, Bool, Contains, Core, Entry, Err, Frozen, Grant, Grants, GrantsEach, GrantsFirst, GrantsOf, GrantsRequest, GrantsSo, GrantsThem, GrantsWaiting, IsAuthority, IsFrozenAt, IsGranted, IsSound, KeepsUnclean, Leaf, List, MatchBool, NoInodes, NoMemory, NotAuthority, NothingToEvict, Ok, Op, Pin, Rank, ReadsOp, Refusal, RefusesGrant, Request, Result, Some, State, Steps, StoreFault, TreeMayRefuse, UsesStep, WhyNotGranted, ap, arith, false, first_waiting, grant_of, held_roots, inl, inr, is_for, is_same_grant, left_without, length, list_any, nat_lt, refl, subst, sym, true, with_grants, would_change, ℕ, ◌+◌, ◌<◌, ◌∙◌, ◌≡◌, ◌≢◌, ◌⊎◌}
use Rattle.std.proofs.lemmas.Bool.{cases_lt, lt-ltb}
use Rattle.std.specs.Result.{result_err}
use Rattle.cluster_core.specs.Uses.{UsesWaiting}
use Rattle.asking.proofs.LiveLaws.{change_ruled, is_one_of_16, is_rank}
use Rattle.asking.proofs.PinLaws.{grants_have, grants_keep, grants_without}
use Rattle.asking.proofs.ServeLaws.{reads_keep, same_keep}
use Rattle.asking.proofs.Transport.{alike_grants, forth, grants_then, no_grants, unclean_then, why_not}

module _ (old new : Core) (past now : List Entry) (rank : Rank) (client tid : ℕ) (request : Request) (waits : first_waiting client tid old.state.inboxes ≡ Some request) where
  abbrev Done : Result Answer Refusal → Type 0
  Done result = GrantsRequest old.state new.state past now (TreeMayRefuse old new) rank client tid request.op result

  abbrev Used : Result Answer Refusal → Type 0
  Used result = ReadsOp old.state.tree (held_roots old.state) request.op (result_err result) old.caches new.caches

  -- either the rank isn't there, or the request was looked at
  abbrev Looked : Result Answer Refusal → Type 0
  Looked result = (Done result × Used result) ⊎ ((nat_lt rank.0 (length old.state.inboxes) ≡ false) × (result ≡ Err NotAuthority) × (new ≡ old))

  looked : (result : Result Answer Refusal) → Steps old new past now result (Grant rank client tid) → UsesStep old new result (Grant rank client tid) → Looked result
  looked result steps uses = go (nat_lt rank.0 (length old.state.inboxes)) refl steps.does uses
    where
      go : (b : Bool) → nat_lt rank.0 (length old.state.inboxes) ≡ b
          → MatchBool b (GrantsWaiting old.state new.state past now (TreeMayRefuse old new) rank client tid result) ((result ≡ Err NotAuthority) × (new ≡ old) × (now ≡ past))
          → MatchBool b (UsesWaiting old.state.tree (held_roots old.state) old.caches new.caches (result_err result) (first_waiting client tid old.state.inboxes)) (new.caches ≡ old.caches) → Looked result
      go true e done used = inl (
        subst (GrantsFirst old.state new.state past now (TreeMayRefuse old new) rank client tid result) waits done,
        subst (UsesWaiting old.state.tree (held_roots old.state) old.caches new.caches (result_err result)) waits used,
      )
      go false e none same = inr (e, none.0, none.1)

  -- it granted what is its own
  pub granted : (answer : Answer) → Steps old new past now (Ok answer) (Grant rank client tid) → UsesStep old new (Ok answer) (Grant rank client tid) → GrantsOf old new rank client tid request.op (Ok tt)
  granted answer steps uses = go (looked (Ok answer) steps uses)
    where
      of : Grants old.state new.state past now rank client tid request.op answer → Used (Ok answer) → GrantsOf old new rank client tid request.op (Ok tt)
      of h used =
          let pins : new.state.pins ≡ with_grants old.state.pins h.leaves client tid = ap (λ (s : State). s.pins) h.left in (
            record {
              kept = record {
                left = h.left ∙ ap (λ (ps : List Pin). record old.state { pins = ps }) (sym pins);
                others = ap (left_without (is_for client tid)) pins ∙ grants_without h.leaves old.state.pins client tid;
              };
              granted = λ leaf other same has rules.
                  let its : IsGranted old.state rank request.op leaf = record { changes = has; mine = subst (λ (r : Rank). IsAuthority old.state leaf r) same rules } in record {
                    thawed = h.thawed leaf its;
                    granted = ap (list_any (is_same_grant (grant_of leaf client tid))) pins ∙ grants_have h.leaves old.state.pins client tid leaf ((h.exactly leaf).1 its);
                  };
              unclean = reads_keep old new request.op None steps.capacity used;
            },
            λ leaf stands. ap (list_any (is_same_grant (grant_of leaf client tid))) pins ∙ grants_keep h.leaves old.state.pins client tid (grant_of leaf client tid) stands,
          )

      go : Looked (Ok answer) → GrantsOf old new rank client tid request.op (Ok tt)
      go (inl (h, used)) = of h used
      go (inr (e, clash, same)) = absurd cc

  -- nothing was done
  nothing : new.state ≡ old.state → KeepsUnclean old new → ((leaf : Leaf) → IsGranted old.state rank request.op leaf → ⊥) → GrantsOf old new rank client tid request.op (Ok tt)
  nothing same unclean none = (
    record {
      kept = no_grants old.state new.state client tid same;
      granted = λ leaf other is has rules. absurd (none leaf (record { changes = has; mine = subst (λ (r : Rank). IsAuthority old.state leaf r) is rules }));
      unclean = unclean;
    },
    λ leaf stands. ap (λ (s : State). list_any (is_same_grant (grant_of leaf client tid)) s.pins) same ∙ stands,
  )

  -- nothing is its own
  pub foreign : (opening : Opening) → IsSound opening past old → (reason : Refusal) → reason ≡ NotAuthority → Steps old new past now (Err reason) (Grant rank client tid) → UsesStep old new (Err reason) (Grant rank client tid) → GrantsOf old new rank client tid request.op (Ok tt)
  foreign opening sound reason is steps uses = go (looked (Err reason) steps uses)
    where
      of : RefusesGrant old.state new.state past now (TreeMayRefuse old new) rank request.op reason → Used (Err reason) → GrantsOf old new rank client tid request.op (Ok tt)
      of (inl (named, none), left) used = nothing left.left (reads_keep old new request.op (Some reason) steps.capacity used) none
      of (inr (inl (named, some)), left) used = let clash : NotAuthority ≡ Frozen = sym is ∙ named in absurd cc
      of (inr (inr (inl named)), left) used = let clash : NotAuthority ≡ NoMemory = sym is ∙ named in absurd cc
      of (inr (inr (inr (other, inl named))), left) used = let clash : NotAuthority ≡ NoMemory = sym is ∙ named in absurd cc
      of (inr (inr (inr (other, inr (inl named)))), left) used = let clash : NotAuthority ≡ StoreFault = sym is ∙ named.0 in absurd cc
      of (inr (inr (inr (other, inr (inr (inl named))))), left) used = let clash : NotAuthority ≡ NothingToEvict = sym is ∙ named.0 in absurd cc
      of (inr (inr (inr (other, inr (inr (inr named))))), left) used = let clash : NotAuthority ≡ NoInodes = sym is ∙ named.0 in absurd cc

      go : Looked (Err reason) → GrantsOf old new rank client tid request.op (Ok tt)
      go (inl (h, used)) = of h used
      go (inr (e, named, same)) =
          nothing (ap (λ (c : Core). c.state) same) (same_keep old new (ap (λ (c : Core). c.caches) same))
          (λ leaf its. let there = is_rank opening past old sound leaf rank its.mine in let clash : true ≡ false = sym (lt-ltb _ _ there) ∙ e in cc)

  -- it was refused
  pub not_granted : (reason : Refusal) → reason ≢ NotAuthority → Steps old new past now (Err reason) (Grant rank client tid) → UsesStep old new (Err reason) (Grant rank client tid) → GrantsOf old new rank client tid request.op (Err reason)
  not_granted reason other steps uses = go (looked (Err reason) steps uses)
    where
      why : RefusesGrant old.state new.state past now (TreeMayRefuse old new) rank request.op reason → WhyNotGranted old new request.op reason
      why (inl (named, none), left) = absurd (other named)
      why (inr (inl (named, (leaf, its, frozen))), left) = inr (inr (inr (named, (leaf, its.changes, frozen))))
      why (inr (inr (inl named)), left) = inl named
      why (inr (inr (inr (known, inl named))), left) = inl named
      why (inr (inr (inr (known, inr (inl named)))), left) = inr (inl named)
      why (inr (inr (inr (known, inr (inr (inl named))))), left) = inr (inr (inl named))
      why (inr (inr (inr (known, inr (inr (inr named))))), left) = absurd (known named.0)

      go : Looked (Err reason) → GrantsOf old new rank client tid request.op (Err reason)
      go (inl (h, used)) = (no_grants old.state new.state client tid h.1.left, why h)
      go (inr (e, named, same)) = absurd (other (by_err named))
        where
          by_err : ◌≡◌ {A = Result Answer Refusal} (Err reason) (Err NotAuthority) → reason ≡ NotAuthority
          by_err clash = cc

-- a grant leaves the history
pub history_left : (old new : Core) (past now : List Entry) (rank : Rank) (client tid : ℕ) (result : Result Answer Refusal) → Steps old new past now result (Grant rank client tid) → now ≡ past
history_left old new past now rank client tid result steps = go (nat_lt rank.0 (length old.state.inboxes)) steps.does
  where
    by_found : (r : Result Answer Refusal) (found : Option Request) → GrantsFirst old.state new.state past now (TreeMayRefuse old new) rank client tid r found → now ≡ past
    by_found r None h = h.1.same
    by_found (Ok answer) (Some request) h = h.same
    by_found (Err reason) (Some request) h = h.1.same

    go : (b : Bool) → MatchBool b (GrantsWaiting old.state new.state past now (TreeMayRefuse old new) rank client tid result) ((result ≡ Err NotAuthority) × (new ≡ old) × (now ≡ past)) → now ≡ past
    go true h = by_found result (first_waiting client tid old.state.inboxes) h
    go false h = h.2

-- ---- one rank after the other

-- what waits waits on
pub waits_still : (old mid : Core) (client tid : ℕ) (request : Request) → KeepsButGrants old.state mid.state client tid → first_waiting client tid old.state.inboxes ≡ Some request → first_waiting client tid mid.state.inboxes ≡ Some request
waits_still old mid client tid request kept waits = ap (λ (s : State). first_waiting client tid s.inboxes) kept.left ∙ waits

-- those of the ranks below a number
abbrev pub Below : ℕ → Rank → Type 0
Below n rank = rank.0 < n

-- none yet
pub none_yet : (core : Core) (client tid : ℕ) (op : Op) → GrantsSo core core client tid op (Below 0)
none_yet core client tid op = record {
  kept = no_grants core.state core.state client tid refl;
  granted = λ leaf rank below has rules. absurd (omega (arith, below));
  unclean = record { unclean = λ rank. refl; cap = refl };
}

-- one more
pub one_more : (old mid new : Core) (client tid n : ℕ) (op : Op) → GrantsSo old mid client tid op (Below n) → GrantsOf mid new (record { 0 = n }) client tid op (Ok tt) → GrantsSo old new client tid op (Below (n + 1))
one_more old mid new client tid n op so (own, stay) = record {
  kept = grants_then old.state mid.state new.state client tid so.kept own.kept;
  granted = λ leaf rank below has rules. elim (cases_lt rank.0 n) [
    | inl earlier ↦ let its = so.granted leaf rank earlier has rules in record { thawed = its.thawed; granted = stay leaf its.granted }
    | inr last ↦
        let alike = alike_grants old.state mid.state client tid so.kept in
        let number : rank.0 ≡ n = omega (arith, below, last) in
        let its = own.granted leaf rank (λ i. record { 0 = number i }) (forth old.state mid.state alike (λ (s : State). Contains (would_change s op) leaf) has) (forth old.state mid.state alike (λ (s : State). IsAuthority s leaf rank) rules) in
        record { thawed = λ frozen. its.thawed (forth old.state mid.state alike (λ (s : State). IsFrozenAt s leaf) frozen); granted = its.granted }
  ];
  unclean = unclean_then old mid new so.unclean own.unclean;
}

-- all
pub all_granted : (opening : Opening) (past : List Entry) (old new : Core) (client tid n : ℕ) (op : Op) → IsSound opening past old → n ≡ 16 → GrantsSo old new client tid op (Below n) → GrantsThem old new client tid op
all_granted opening past old new client tid n op sound all so = record {
  kept = so.kept;
  granted = λ leaf has.
      let rules = change_ruled opening past old sound op leaf has in
      let there = is_rank opening past old sound leaf rules.0 rules.1 in
      so.granted leaf rules.0 (omega (arith, is_one_of_16 opening past old sound rules.0 there, all)) has rules.1;
  unclean = so.unclean;
}

-- one refused
pub one_refused : (old mid new : Core) (client tid n : ℕ) (rank : Rank) (op : Op) (reason : Refusal) → mid.faults ≡ old.faults → GrantsSo old mid client tid op (Below n) → GrantsOf mid new rank client tid op (Err reason) → GrantsEach old new client tid op (Err reason)
one_refused old mid new client tid n rank op reason faults so (kept, why) = (
  grants_then old.state mid.state new.state client tid so.kept kept,
  why_not old mid (alike_grants old.state mid.state client tid so.kept) so.unclean new op reason faults why,
)
