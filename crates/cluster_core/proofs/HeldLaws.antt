-- The list of the leaves that a rank holds, and what a grant makes of it.
use Rattle.cluster_core.proofs.Common.{AreHeldAmong, AreThawedEach, Contains, Contains-get_or, Entry, Err, FindsNone, Frozen, GrantsFirst, GrantsWaiting, HoldsOne, IsAuthority, IsFrozenAt, IsGranted, IsOneFrozen, List, NamesOnce, NoMemory, NotAuthority, Nothing, Ok, OnErr, Op, Pin, Rank, Refusal, Request, Result, Some, State, [], ap, append-nil, drop, drop_all, first_waiting, get_or, inl, inr, length, refl, subst, sym, with_grants, would_change, ℕ, ◌++◌, ◌+◌, ◌<◌, ◌↔◌, ◌∙◌, ◌∷◌, ◌≡◌, ◌≤◌}
use Rattle.std.proofs.lemmas.List.{append_assoc}
use Rattle.subtree_map.specs.Authority.{Leaf}
use Rattle.cluster_core.proofs.MasterLaws.{held_exactly, not_in_none}

-- ---- a walk

module _ (state : State) (rank : Rank) (all : List Leaf) (at : ℕ) (held : List Leaf) (so_far : (rest : List Leaf) → AreHeldAmong state rank (drop at all) rest → AreHeldAmong state rank all (held ++ rest)) where
  module _ (leaf : Leaf) (is : drop at all ≡ leaf ∷ drop (at + 1) all) where
    -- one more that is held
    pub one_more : (now : List Leaf) → IsAuthority state leaf rank → now ≡ held ++ (leaf ∷ []) → (rest : List Leaf) → AreHeldAmong state rank (drop (at + 1) all) rest → AreHeldAmong state rank all (now ++ rest)
    one_more now mine pushed rest others =
        subst (AreHeldAmong state rank all) (sym (ap (λ (h : List Leaf). h ++ rest) pushed ∙ append_assoc held (leaf ∷ []) rest))
        (so_far (leaf ∷ rest) (subst (λ (ls : List Leaf). AreHeldAmong state rank ls (leaf ∷ rest)) (sym is) (inl (mine, (rest, refl, others)))))

    -- one that isn't
    pub one_less : (now : List Leaf) → (IsAuthority state leaf rank → ⊥) → now ≡ held → (rest : List Leaf) → AreHeldAmong state rank (drop (at + 1) all) rest → AreHeldAmong state rank all (now ++ rest)
    one_less now foreign same rest others =
        subst (λ (h : List Leaf). AreHeldAmong state rank all (h ++ rest)) (sym same) (so_far rest (subst (λ (ls : List Leaf). AreHeldAmong state rank ls rest) (sym is) (inr (foreign, others))))

  -- all of them
  pub all_held : length all ≤ at → AreHeldAmong state rank all held
  all_held ends =
      subst (AreHeldAmong state rank all) (append-nil held) (so_far [] (subst (λ (ls : List Leaf). AreHeldAmong state rank ls []) (sym (drop_all at all ends)) refl))

-- one that is held, at its place in the list
pub holds_one : {X E : Type 0} (result : Result X E) (state : State) (rank : Rank) (all leaves : List Leaf) (at : ℕ) (leaf : Leaf) → all ≡ leaves → at < length all → leaf ≡ get_or all at leaf → IsAuthority state leaf rank
    → OnErr result (HoldsOne state rank leaves)
holds_one (Ok x) state rank all leaves at leaf same there is rules = tt
holds_one (Err e) state rank all leaves at leaf same there is rules = (leaf, subst (λ (ls : List Leaf). Contains ls leaf) same (subst (Contains all) (sym is) (Contains-get_or all at leaf there)), rules)

-- ---- a grant

-- the leaves that an operation would change were found by reads that left the state as it was
module _ (before mid : State) (same : mid ≡ before) (past : List Entry) (MayRefuse : Op → Refusal → Type 0) (rank : Rank) (client tid : ℕ)
    (request : Request) (waits : Some request ≡ first_waiting client tid before.inboxes) (changed : List Leaf) (names : NamesOnce (would_change before request.op) changed) where
  -- the rank holds these of them
  module _ (mine : List Leaf) (held : AreHeldAmong mid rank changed mine) where
    exactly : (leaf : Leaf) → Contains mine leaf ↔ IsGranted before rank request.op leaf
    exactly leaf =
        let its = held_exactly before rank changed mine (subst (λ (s : State). AreHeldAmong s rank changed mine) same held) leaf in (
          λ has. let h = its.0 has in record { changes = (names.exactly leaf).0 h.0; mine = h.1 },
          λ granted. its.1 ((names.exactly leaf).1 granted.changes, granted.mine),
        )

    -- one of what it holds is frozen
    pub frozen_granted : IsOneFrozen mid mine → GrantsWaiting before mid past past MayRefuse rank client tid (Err Frozen)
    frozen_granted (leaf, has, frozen) = subst (GrantsFirst before mid past past MayRefuse rank client tid (Err Frozen)) waits (
      inr (inl (refl, (leaf, (exactly leaf).0 has, subst (λ (s : State). IsFrozenAt s leaf) same frozen))),
      record { same = refl; left = same },
    )

    -- the rank holds nothing of what would change
    pub none_granted : mine ≡ [] → GrantsWaiting before mid past past MayRefuse rank client tid (Err NotAuthority)
    none_granted none = subst (GrantsFirst before mid past past MayRefuse rank client tid (Err NotAuthority)) waits (
      inl (refl, λ leaf granted. absurd (not_in_none leaf (subst (λ (ls : List Leaf). Contains ls leaf) none ((exactly leaf).1 granted)))),
      record { same = refl; left = same },
    )

    -- all that it holds of it is granted, as none of it is frozen
    pub all_granted : (after : List Pin) → 0 < length mine → AreThawedEach mid mine → after ≡ with_grants before.pins mine client tid
        → GrantsWaiting before (record mid { pins = after }) past past MayRefuse rank client tid (Ok Nothing)
    all_granted after some thawed pinned = subst (GrantsFirst before (record mid { pins = after }) past past MayRefuse rank client tid (Ok Nothing)) waits (record {
      answered = refl;
      leaves = mine;
      exactly = exactly;
      some = some;
      thawed = λ leaf granted frozen. thawed leaf ((exactly leaf).1 granted) (subst (λ (s : State). IsFrozenAt s leaf) (sym same) frozen);
      same = refl;
      left = λ i. record (same i) { pins = pinned i };
    })

  -- memory is refused
  pub memory_lacked : GrantsWaiting before mid past past MayRefuse rank client tid (Err NoMemory)
  memory_lacked = subst (GrantsFirst before mid past past MayRefuse rank client tid (Err NoMemory)) waits (inr (inr (inl refl)), record { same = refl; left = same })

  -- none was found that the rank holds and may grant: there is none, or one is frozen, or memory lacked
  pub none_found : (reason : Refusal) → FindsNone mid rank changed reason → GrantsWaiting before mid past past MayRefuse rank client tid (Err reason)
  none_found reason (inl (is, held)) = subst (λ (r : Refusal). GrantsWaiting before mid past past MayRefuse rank client tid (Err r)) (sym is) (none_granted [] held refl)
  none_found reason (inr (inl (is, one))) = subst (λ (r : Refusal). GrantsWaiting before mid past past MayRefuse rank client tid (Err r)) (sym is) memory_lacked
  none_found reason (inr (inr (is, (mine, held, frozen)))) = subst (λ (r : Refusal). GrantsWaiting before mid past past MayRefuse rank client tid (Err r)) (sym is) (frozen_granted mine held frozen)
