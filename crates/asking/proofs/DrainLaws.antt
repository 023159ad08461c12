-- A round answers a request, brings it to its master, or is held up.
use Rattle.asking.proofs.Common.{Answer, Contains, Core, Entry, Err, Inboxes, IsDeferred, IsForwarded, IsFrozenAt, IsLeft, IsMaster, IsTakenOut, List, NoInodes, Ok, Rank, Refusal, Request, Result, Roots, Rules, ServesRequest, State, TreeMayRefuse, TreeState, WhyNotGranted, [], ap, arith, get_or, inl, inr, is_directory, length, main_leaf, set, shown_tree, subst, sym, waiting_at, with_last, with_waiting, would_change, ℕ, ◌++◌, ◌+◌, ◌<◌, ◌∙◌, ◌∷◌, ◌≡◌, ◌≢◌}
use Rattle.mds_types.specs.Shape.{destination_of}
use Rattle.cluster_core.specs.Master.{IsMasterIn}
use Rattle.cluster_core.specs.Serve.{FindsFull, entry_of}
use Rattle.std.proofs.lemmas.List.{length-append, length-set}
use Rattle.asking.specs.Drain.{FewStrayFrom, FewStrays, IsHeldUp, IsAtHome, IsRound, LowestIsFirst, OneLessStrays, OneLessWaits, RoundGives, RoundsProgress, StraysAreWaiting, waiting_in_all}
use Rattle.asking.proofs.AnswerLaws.{one, own, rules}
use Rattle.asking.proofs.InboxLaws.{is_there}
use Rattle.asking.proofs.LiveLaws.{is_rank}
use Rattle.asking.proofs.ServeLaws.{its}
use Rattle.asking.proofs.StrayLaws.{all_stray_from, comes_home, lowest_first, stray_leaves, waiting_of_two, waiting_set}
use Rattle.asking.proofs.Transport.{alike_grants, back, why_not}

module _ (old granted new : Core) (past now : List Entry) (rank : Rank) (request : Request) (rest : List Request) (result : Result Answer Refusal) (round : IsRound old granted new past now rank request rest result) where
  -- grants leave what waits
  same_inboxes : granted.state.inboxes ≡ old.state.inboxes
  same_inboxes = ap (λ (s : State). s.inboxes) round.grants.kept.left

  front : waiting_at granted.state.inboxes rank ≡ request ∷ rest
  front = ap (λ (i : Inboxes). waiting_at i rank) same_inboxes ∙ round.front

  there : rank.0 < length old.state.inboxes
  there = is_there old.state.inboxes rank request rest round.front

  -- it has left
  one_less : new.state.inboxes ≡ with_waiting granted.state.inboxes rank rest → waiting_in_all new.state.inboxes < waiting_in_all old.state.inboxes
  one_less left =
      let is : new.state.inboxes ≡ set old.state.inboxes rank.0 rest = left ∙ ap (λ (i : Inboxes). with_waiting i rank rest) same_inboxes in
      omega (arith, ap (λ (i : Inboxes). waiting_in_all i) is, waiting_set old.state.inboxes rank.0 rest there, ap (λ (w : List Request). length w) round.front)

  -- it goes to its master, in a book with the same tree and roots
  module _ (answer : Answer) (h : IsForwarded granted.state new.state past now rank request rest answer) where
    master : Rank
    master = h.master

    -- which it was before the grants
    its_master : IsMaster old.state rank request.op h.master
    its_master = back old.state granted.state (alike_grants old.state granted.state request.client request.tid round.grants.kept) (λ (s : State). IsMaster s rank request.op h.master) h.is_master

    its_rules : Rules old.state.tree old.state.roots (main_leaf old.state.tree.covers request.op) h.master
    its_rules = rules old.state.tree old.state.roots (main_leaf old.state.tree.covers request.op) (is_directory (shown_tree old.state.tree) (destination_of request.op)) rank h.master its_master h.other

    its_own : IsMaster old.state h.master request.op h.master
    its_own = own old.state.tree old.state.roots (main_leaf old.state.tree.covers request.op) (is_directory (shown_tree old.state.tree) (destination_of request.op)) rank h.master its_master

    master_there : h.master.0 < length old.state.inboxes
    master_there = is_rank round.opening past old round.sound (main_leaf old.state.tree.covers request.op) h.master its_rules

    apart : h.master.0 ≢ rank.0
    apart same = h.other (λ i. record { 0 = same i })

    stray : IsAtHome old.state rank.0 request.op → ⊥
    stray home = h.other (one old.state.tree old.state.roots (main_leaf old.state.tree.covers request.op) (is_directory (shown_tree old.state.tree) (destination_of request.op)) rank h.master rank its_master home)

    abbrev without : Inboxes
    without = set old.state.inboxes rank.0 rest

    inboxes : new.state.inboxes ≡ set without h.master.0 (get_or without h.master.0 [] ++ request ∷ [])
    inboxes = ap (λ (s : State). s.inboxes) h.left ∙ ap (λ (i : Inboxes). with_last (with_waiting i rank rest) h.master request) same_inboxes

    -- the tree and the roots are as they were, so who is at home is
    homes : (n : ℕ) → FewStrayFrom (IsAtHome old.state) 0 new.state.inboxes n → FewStrays new.state n
    homes n few =
        let tree : new.state.tree ≡ old.state.tree = ap (λ (s : State). s.tree) h.left ∙ ap (λ (s : State). s.tree) round.grants.kept.left in
        let roots : new.state.roots ≡ old.state.roots = ap (λ (s : State). s.roots) h.left ∙ ap (λ (s : State). s.roots) round.grants.kept.left in
        subst (λ (t : TreeState). FewStrayFrom (λ r op. IsMasterIn t new.state.roots (record { 0 = r }) op (record { 0 = r })) 0 new.state.inboxes n) (sym tree)
        (subst (λ (r : Roots). FewStrayFrom (λ i op. IsMasterIn old.state.tree r (record { 0 = i }) op (record { 0 = i })) 0 new.state.inboxes n) (sym roots) few)

    moved : OneLessStrays old.state new.state
    moved = record {
      same =
          let first : waiting_in_all without + length (get_or old.state.inboxes rank.0 []) ≡ waiting_in_all old.state.inboxes + length rest = waiting_set old.state.inboxes rank.0 rest there in
          let second : waiting_in_all (set without h.master.0 (get_or without h.master.0 [] ++ request ∷ [])) + length (get_or without h.master.0 []) ≡ waiting_in_all without + length (get_or without h.master.0 [] ++ request ∷ []) =
          waiting_set without h.master.0 (get_or without h.master.0 [] ++ request ∷ []) (omega (arith, master_there, length-set old.state.inboxes rank.0 rest)) in
          omega (arith, ap (λ (i : Inboxes). waiting_in_all i) inboxes, first, second, ap (λ (w : List Request). length w) round.front, length-append (get_or without h.master.0 []) (request ∷ []));
      fewer = λ n few.
          let one = stray_leaves (IsAtHome old.state) 0 n old.state.inboxes rank.0 request rest round.front (λ home. stray (subst (λ (r : ℕ). IsAtHome old.state r request.op) (omega arith) home)) few in (
            one.0,
            one.1,
            homes one.0 (subst (λ (i : Inboxes). FewStrayFrom (IsAtHome old.state) 0 i one.0) (sym inboxes)
                (comes_home (IsAtHome old.state) 0 one.0 without h.master.0 request (omega (arith, master_there, length-set old.state.inboxes rank.0 rest)) (subst (λ (r : ℕ). IsAtHome old.state r request.op) (omega arith) its_own) one.2)),
          );
    }

  -- it need not wait
  no_wait : (answer : Answer) → IsDeferred granted.state new.state past now rank request rest answer → ⊥
  no_wait answer h =
      let alike = alike_grants old.state granted.state request.client request.tid round.grants.kept in
      let must = h.waits in
      let may = round.grants.granted must.leaf (back old.state granted.state alike (λ (s : State). Contains (would_change s request.op) must.leaf) must.changes) in
      must.barred (λ frozen. may.thawed (back old.state granted.state alike (λ (s : State). IsFrozenAt s must.leaf) frozen), inr may.granted)

  -- its master's inbox has room: with the one at this front at most 1024 wait
  has_room : FindsFull granted.state past rank request → ⊥
  has_room f =
      omega (
        arith,
        f.full,
        ap (λ (i : Inboxes). length (waiting_at i f.master)) same_inboxes,
        waiting_of_two old.state.inboxes f.master.0 rank.0 (λ same. f.other (λ i. record { 0 = same i })),
        ap (λ (w : List Request). length w) round.front,
        round.few,
      )

  taken_out : IsTakenOut granted.state new.state past now rank request rest → OneLessWaits old.state new.state
  taken_out h = one_less (ap (λ (s : State). s.inboxes) h.left)

  held_up : (reason : Refusal) → WhyNotGranted granted new request.op reason → IsLeft granted.state new.state past now → IsHeldUp old new request reason
  held_up reason why left = record {
    why = why_not old granted (alike_grants old.state granted.state request.client request.tid round.grants.kept) round.grants.unclean new request.op reason round.faults why;
    inboxes = ap (λ (s : State). s.inboxes) left.left ∙ same_inboxes;
  }

  by_tree : (reason : Refusal) → reason ≢ NoInodes → TreeMayRefuse granted new request.op reason → IsLeft granted.state new.state past now → IsHeldUp old new request reason
  by_tree reason other (inl memory) left = held_up reason (inl memory) left
  by_tree reason other (inr (inl fault)) left = held_up reason (inr (inl fault)) left
  by_tree reason other (inr (inr (inl place))) left = held_up reason (inr (inr (inl place))) left
  by_tree reason other (inr (inr (inr number))) left = absurd (other number.0)

  by_result : (r : Result Answer Refusal) → ServesRequest granted.state new.state past now (TreeMayRefuse granted new) rank request rest r → RoundGives old new request r
  by_result (Ok answer) (inl h) = subst (λ (a : Answer). RoundGives old new request (Ok a)) (sym h.answered) (one_less (ap (λ (s : State). s.inboxes) h.left))
  by_result (Ok answer) (inr (inl h)) = subst (λ (a : Answer). RoundGives old new request (Ok a)) (sym (h.answered (entry_of granted.state rank request))) (taken_out h.out)
  by_result (Ok answer) (inr (inr (inl h))) = subst (λ (a : Answer). RoundGives old new request (Ok a)) (sym h.answered) (moved answer h)
  by_result (Ok answer) (inr (inr (inr h))) = absurd (no_wait answer h)
  by_result (Err reason) (inl h) = inl (inl h.0, taken_out h.2)
  by_result (Err reason) (inr (inl h)) = inl (inr h.0, taken_out h.3)
  by_result (Err reason) (inr (inr (inl h))) = absurd (has_room h.1)
  by_result (Err reason) (inr (inr (inr (inl h)))) = inr (held_up reason (inl h.0) h.2)
  by_result (Err reason) (inr (inr (inr (inr h)))) = inr (by_tree reason h.0 h.2 h.3)

  progress : RoundGives old new request result
  progress = by_result result (its granted new past now rank request rest front result round.served)

pub rounds_progress : RoundsProgress
rounds_progress old granted new past now rank request rest result round = progress old granted new past now rank request rest result round

pub strays_are_waiting : StraysAreWaiting
strays_are_waiting state = all_stray_from (IsAtHome state) 0 state.inboxes

pub lowest_is_first : LowestIsFirst
lowest_is_first inboxes rank request rest none front = lowest_first inboxes rank.0 request rest (λ k below. none (record { 0 = k }) below) front
