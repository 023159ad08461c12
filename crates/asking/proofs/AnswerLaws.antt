-- From what steps give to the answer of what was asked.
use Rattle.asking.proofs.Common.{Answer, Answers, Frozen, None, Nothing, Arrive, ArrivesAt, AsksAlone, Bool, BookState, HasCome, HasComeBehind, KeptState, Opening, StandsBehind, whole_of, Contains, Core, Deferred, Entry, Err, Forwarded, GrantsEach, GrantsThem, Inboxes, IsApplied, IsNewAtMaster, IsDeferred, IsForwarded, IsFrozenAt, IsLeft, IsMaster, IsRepeated, IsSound, IsTakenOut, KeepsButGrants, KeepsUnclean, LacksNumberToServe, Leaf, List, MatchBool, NoInodes, NoMemory, NoneWaits, NotAuthority, Ok, Pin, Question, Rank, Receipt, Refusal, RefusesAsk, RefusesRequest, Request, Result, Roots, Rules, Some, State, Steps, StillWaits, StoreFault, NothingToEvict, TreeMayRefuse, TreeState, Trimmed, UsesStep, WaitsAlone, WhyItWaits, WhyNotGranted, [], ap, arith, false, first_waiting, grant_of, inl, inr, is_directory, is_for, is_same_grant, left_without, length, list_any, main_leaf, nat_lt, one_authority, refl, set, set-set, Served, ServesTo, shown_tree, subst, sym, told_as, true, waiting_at, with_last, with_waiting, without_request, would_change, ℕ, ◌++◌, ◌∙◌, ◌∷◌, ◌≡◌, ◌≢◌, ◌⊎◌}
use Rattle.std.specs.FinMap as map
use Rattle.std.specs.FinMap.{get-empty}
use Rattle.std.specs.Prelude.{OnOk}
use Rattle.export_steps.specs.Standing.{Standing}
use Rattle.mds_types.specs.Leaf.{leaf_cmp}
use Rattle.std.proofs.lemmas.Bool.{ltb-false, ltb-true}
use Rattle.mds_types.specs.Shape.{destination_of}
use Rattle.cluster_core.specs.Serve.{FindsFull, IsAtMaster as IsAtItsMaster, LacksAny, ServingTakesMemory}
use Rattle.cluster_core.specs.Offer.{after_taking}
use Rattle.cluster_core.specs.Serve.{entry_of, number_taken, outcome_of, with_entry}
use Rattle.cluster_core.specs.State.{supply_of}
use Rattle.inode_table.specs.Numbers.{offer}
use Rattle.mdcache.specs.Frags.{LacksFor}
use Rattle.namespace_ops.specs.Served.{LacksNumber}
use Rattle.std.proofs.lemmas.List.{get_or-set_other}
use Rattle.asking.proofs.InboxLaws.{at_front, came, emptied, is_first, still_empty, went}
use Rattle.asking.proofs.LiveLaws.{is_rank}
use Rattle.asking.proofs.ServeLaws.{same_keep}
use Rattle.asking.proofs.Transport.{alike_alone, alike_grants, back, grants_then, no_grants, unclean_then, why_not}

-- ---- masters

module _ (tree : TreeState) (roots : Roots) (leaf : Leaf) where
  -- a master that is another rank is an authority,
  pub rules : (b : Bool) (at master : Rank) → MatchBool b (Rules tree roots leaf master) (master ≡ at) → master ≢ at → Rules tree roots leaf master
  rules true at master h other = h
  rules false at master h other = absurd (other h)

  -- and its own master;
  pub own : (b : Bool) (at master : Rank) → MatchBool b (Rules tree roots leaf master) (master ≡ at) → MatchBool b (Rules tree roots leaf master) (master ≡ master)
  own true at master h = h
  own false at master h = refl

  -- whatever rank asks;
  anywhere : (b : Bool) (at master asked : Rank) → MatchBool b (Rules tree roots leaf master) (master ≡ at) → master ≢ at → MatchBool b (Rules tree roots leaf master) (master ≡ asked)
  anywhere true at master asked h other = h
  anywhere false at master asked h other = absurd (other h)

  -- and there is one
  pub one : (b : Bool) (at a c : Rank) → MatchBool b (Rules tree roots leaf a) (a ≡ at) → MatchBool b (Rules tree roots leaf c) (c ≡ at) → a ≡ c
  one true at a c p q = one_authority roots tree.homes tree.covers leaf a c p q
  one false at a c p q = p ∙ sym q

-- ---- a request comes

module _ (q : Question) (mid : BookState) (sound : IsSound q.opening q.history q.core) (none : NoneWaits q.core.state.inboxes) where
  abbrev Arrived : Result Answer Refusal → Type 0
  Arrived result = ArrivesAt q.core.state mid.core.state q.history mid.history q.rank q.request result

  pub arrived : (answer : Answer) → Steps q.core mid.core q.history mid.history (Ok answer) (Arrive q.rank q.request) → UsesStep q.core mid.core (Ok answer) (Arrive q.rank q.request) → HasCome q mid q.rank q.request.client q.request.tid
  arrived answer steps uses = go (nat_lt q.rank.0 (length q.core.state.inboxes)) refl steps.does
    where
      go : (b : Bool) → nat_lt q.rank.0 (length q.core.state.inboxes) ≡ b → MatchBool b (Arrived (Ok answer)) ((◌≡◌ {A = Result Answer Refusal} (Ok answer) (Err NotAuthority)) × (mid.core ≡ q.core) × (mid.history ≡ q.history))
          → HasCome q mid q.rank q.request.client q.request.tid
      go false e h = let clash = h.0 in absurd cc
      go true e h = record {
        sound = sound;
        none = none;
        alone = record {
          there = ltb-true _ _ e;
          kept =
              no_grants _ mid.core.state q.request.client q.request.tid
              (h.2 ∙ ap (λ (i : Inboxes). record q.core.state { inboxes = i }) (came q.core.state.inboxes q.rank q.request none));
        };
        same = h.3;
        unclean = same_keep q.core mid.core uses;
        faults = omega (arith, steps.counted);
        client_is = refl;
        tid_is = refl;
        via = λ m. m;
      }

  pub never_arrived : (reason : Refusal) → Steps q.core mid.core q.history mid.history (Err reason) (Arrive q.rank q.request) → Answers q mid (Err reason)
  never_arrived reason steps = go (nat_lt q.rank.0 (length q.core.state.inboxes)) refl steps.does
    where
      named : ◌≡◌ {A = Result Answer Refusal} (Err reason) (Err NotAuthority) → reason ≡ NotAuthority
      named clash = cc

      go : (b : Bool) → nat_lt q.rank.0 (length q.core.state.inboxes) ≡ b → MatchBool b (Arrived (Err reason)) ((◌≡◌ {A = Result Answer Refusal} (Err reason) (Err NotAuthority)) × (mid.core ≡ q.core) × (mid.history ≡ q.history))
          → Answers q mid (Err reason)
      go true e h = absurd (omega (arith, h.1, ap (λ (w : List Request). length w) (none q.rank)))
      go false e h = inl (named h.0, ltb-false _ _ e, h.1, h.2)

-- what is asked of a book, behind the entries that are forgotten
abbrev pub question : Opening → List Entry → KeptState → Rank → Request → Question
question opening past book rank request = record { core = book.core; history = past ++ book.history; opening = opening; rank = rank; request = request }

pub come_behind : (opening : Opening) (past : List Entry) (old mid : KeptState) (rank : Rank) (request : Request) → StandsBehind opening past old → StandsBehind opening past mid → NoneWaits old.core.state.inboxes → (answer : Answer)
    → Steps old.core mid.core (past ++ old.history) (past ++ mid.history) (Ok answer) (Arrive rank request) → UsesStep old.core mid.core (Ok answer) (Arrive rank request) → HasComeBehind (question opening past old rank request) past mid rank request.client request.tid
come_behind opening past old mid rank request goes on none answer steps uses = record { behind = on; come = arrived (question opening past old rank request) (whole_of opening past mid) goes.behind.sound none answer steps uses }

-- a request that comes in is told nothing
pub told_nothing : (old mid : BookState) (rank : Rank) (request : Request) (answer : Answer) → Steps old.core mid.core old.history mid.history (Ok answer) (Arrive rank request) → answer ≡ Nothing
told_nothing old mid rank request answer steps = go (nat_lt rank.0 (length old.core.state.inboxes)) steps.does
  where
    go : (b : Bool) → MatchBool b (ArrivesAt old.core.state mid.core.state old.history mid.history rank request (Ok answer)) ((◌≡◌ {A = Result Answer Refusal} (Ok answer) (Err NotAuthority)) × (mid.core ≡ old.core) × (mid.history ≡ old.history))
        → answer ≡ Nothing
    go true h = h.0
    go false h = let clash = h.0 in cc

-- ---- a request that waits alone is served

module _ (q : Question) (mid : BookState) (at : Rank) (client tid : ℕ) (c : HasCome q mid at client tid) where
  -- the state that it waits in
  abbrev Waiting : State
  Waiting = record q.core.state { inboxes = with_waiting q.core.state.inboxes at (q.request ∷ []); pins = mid.core.state.pins }

  -- that which was, with its grants
  abbrev Granted : State
  Granted = record q.core.state { pins = mid.core.state.pins }

  its_left : mid.core.state ≡ Waiting
  its_left = c.alone.kept.left

  -- it stands at the front
  pub front : waiting_at mid.core.state.inboxes at ≡ q.request ∷ []
  front = ap (λ (s : State). waiting_at s.inboxes at) its_left ∙ at_front q.core.state.inboxes at q.request c.alone.there

  -- and is the first copy that waits
  pub is_waiting : first_waiting client tid mid.core.state.inboxes ≡ Some q.request
  is_waiting =
      ap (λ (s : State). first_waiting client tid s.inboxes) its_left
      ∙ ap (λ (n : ℕ). first_waiting n tid (with_waiting q.core.state.inboxes at (q.request ∷ []))) c.client_is
      ∙ ap (λ (n : ℕ). first_waiting q.request.client n (with_waiting q.core.state.inboxes at (q.request ∷ []))) c.tid_is
      ∙ is_first q.core.state.inboxes at q.request c.none c.alone.there

  -- what is said of the book where it waits is said of that which was
  moved : (P : State → List Entry → Type 0) → P mid.core.state mid.history → P Waiting q.history
  moved P h = subst (λ (s : State). P s q.history) its_left (subst (P mid.core.state) c.same h)

  module _ (new : BookState) where
    -- what became of it, as the call told
    pub told_so : (so is : Served) → so ≡ is → ((request : Request) (rest : List Request) → waiting_at mid.core.state.inboxes at ≡ request ∷ rest → ServesTo mid.core new.core mid.history new.history at request rest (Ok so))
        → ServesTo mid.core new.core mid.history new.history at q.request [] (Ok is)
    told_so so is same all = subst (λ (s : Served). ServesTo mid.core new.core mid.history new.history at q.request [] (Ok s)) same (all q.request [] front)

    -- it has left
    taken_out : IsTakenOut Waiting new.core.state q.history new.history at q.request [] → IsTakenOut q.core.state new.core.state q.history new.history q.rank q.request []
    taken_out h = record {
      same = h.same;
      left =
          h.left
          ∙ ap (λ (i : Inboxes). record q.core.state { inboxes = i; pins = without_request mid.core.state.pins q.request }) (emptied q.core.state.inboxes at (q.request ∷ []) c.none ∙ sym (still_empty q.core.state.inboxes q.rank c.none))
          ∙ ap (λ (ps : List Pin). record q.core.state { inboxes = with_waiting q.core.state.inboxes q.rank []; pins = ps }) c.alone.kept.others;
    }

    -- it was applied as one that stood there alone, with its grants
    applied : (receipt : Receipt) → IsApplied Waiting new.core.state q.history new.history at q.request [] (told_as receipt) → IsApplied Granted new.core.state q.history new.history at q.request [] (told_as receipt)
    applied receipt h = record {
      is_new = h.is_new;
      master = h.master;
      may = h.may;
      answered = h.answered;
      numbered = h.numbered;
      appended = h.appended;
      tree = h.tree;
      made = record { change = h.made.change; one_of = h.made.one_of; leads = h.made.leads; fragments = h.made.fragments; made = h.made.made; roots = h.made.roots; pins = h.made.pins };
      leaves = h.leaves;
      frame = h.frame;
      left =
          subst (λ (i : Inboxes). new.core.state ≡ record Granted {
            tree = new.core.state.tree;
            roots = new.core.state.roots;
            pins = new.core.state.pins;
            inboxes = i;
            numbers = set Granted.numbers at.0 (after_taking (supply_of Granted at) (number_taken Granted at q.request));
            sessions = with_entry Granted.sessions (length q.history) (entry_of Granted at q.request);
          }) (set-set q.core.state.inboxes at.0 (q.request ∷ []) []) h.left;
    }

    pub replied : (receipt : Receipt) → IsApplied mid.core.state new.core.state mid.history new.history at q.request [] (told_as receipt) ⊎ IsRepeated mid.core.state new.core.state mid.history new.history at q.request [] (told_as receipt) → Answers q new (Ok receipt)
    replied receipt (inl h) =
        let its = moved (λ s past. IsApplied s new.core.state past new.history at q.request [] (told_as receipt)) h in
        inl (record {
          master = at;
          is_master = c.via its.master;
          granted = Granted;
          kept = record { left = refl; others = c.alone.kept.others };
          applied = applied receipt its;
        })
    replied receipt (inr h) =
        let its = moved (λ s past. IsRepeated s new.core.state past new.history at q.request [] (told_as receipt)) h in
        inr (record { place = its.place; kept = its.kept; answered = its.answered; out = taken_out its.out })

    -- it went to its master
    module _ (master : Rank) (h : IsForwarded mid.core.state new.core.state mid.history new.history at q.request [] (Forwarded master)) where
      its_master : IsForwarded Waiting new.core.state q.history new.history at q.request [] (Forwarded master)
      its_master = moved (λ s past. IsForwarded s new.core.state past new.history at q.request [] (Forwarded master)) h

      is_it : its_master.master ≡ master
      is_it = let same : Forwarded master ≡ Forwarded its_master.master = its_master.answered in cc

      its_own : IsMaster q.core.state at q.request.op master
      its_own = subst (λ (r : Rank). IsMaster q.core.state at q.request.op r) is_it its_master.is_master

      other : master ≢ at
      other same = its_master.other (is_it ∙ same)

      pub there : IsNewAtMaster q master
      there = record {
        is_new = its_master.is_new;
        own = own q.core.state.tree q.core.state.roots (main_leaf q.core.state.tree.covers q.request.op) (is_directory (shown_tree q.core.state.tree) (destination_of q.request.op)) at master its_own;
      }

      pub goes_on : KeepsUnclean mid.core new.core → new.core.faults ≡ mid.core.faults → HasCome q new master client tid
      goes_on unclean faults = record {
        sound = c.sound;
        none = c.none;
        alone = record {
          there = is_rank q.opening q.history q.core c.sound (main_leaf q.core.state.tree.covers q.request.op) master
              (rules q.core.state.tree q.core.state.roots (main_leaf q.core.state.tree.covers q.request.op) (is_directory (shown_tree q.core.state.tree) (destination_of q.request.op)) at master its_own other);
          kept = record {
            left =
                its_master.left
                ∙ ap (λ (i : Inboxes). record q.core.state { inboxes = i; pins = mid.core.state.pins }) (ap (λ (r : Rank). with_last (with_waiting (with_waiting q.core.state.inboxes at (q.request ∷ [])) at []) r q.request) is_it ∙ went q.core.state.inboxes at master q.request c.none)
                ∙ ap (λ (ps : List Pin). record q.core.state { inboxes = with_waiting q.core.state.inboxes master (q.request ∷ []); pins = ps }) (sym pins);
            others = ap (left_without (is_for q.request.client q.request.tid)) pins ∙ c.alone.kept.others;
          };
        };
        same = its_master.same;
        unclean = unclean_then q.core mid.core new.core c.unclean unclean;
        faults = faults ∙ c.faults;
        client_is = c.client_is;
        tid_is = c.tid_is;
        via = λ m.
            anywhere q.core.state.tree q.core.state.roots (main_leaf q.core.state.tree.covers q.request.op) (is_directory (shown_tree q.core.state.tree) (destination_of q.request.op)) at master q.rank its_own other;
      }
        where
          pins : new.core.state.pins ≡ mid.core.state.pins
          pins = ap (λ (s : State). s.pins) its_master.left

      -- and goes nowhere from there
      pub never_again : IsNewAtMaster q at → ⊥
      never_again here =
          other (one q.core.state.tree q.core.state.roots (main_leaf q.core.state.tree.covers q.request.op) (is_directory (shown_tree q.core.state.tree) (destination_of q.request.op)) at master at its_own here.own)

    -- it waits behind all others, which are none
    module _ (h : IsDeferred mid.core.state new.core.state mid.history new.history at q.request [] Deferred) where
      its_wait : IsDeferred Waiting new.core.state q.history new.history at q.request [] Deferred
      its_wait = moved (λ s past. IsDeferred s new.core.state past new.history at q.request [] Deferred) h

      pub here : IsNewAtMaster q at
      here = record { is_new = its_wait.is_new; own = its_wait.master }

      pub stays : KeepsUnclean mid.core new.core → new.core.faults ≡ mid.core.faults → HasCome q new at client tid
      stays unclean faults = record {
        sound = c.sound;
        none = c.none;
        alone = record {
          there = c.alone.there;
          kept = record {
            left =
                its_wait.left
                ∙ ap (λ (i : Inboxes). record q.core.state { inboxes = i; pins = mid.core.state.pins }) (set-set q.core.state.inboxes at.0 (q.request ∷ []) (q.request ∷ []))
                ∙ ap (λ (ps : List Pin). record q.core.state { inboxes = with_waiting q.core.state.inboxes at (q.request ∷ []); pins = ps }) (sym pins);
            others = ap (left_without (is_for q.request.client q.request.tid)) pins ∙ c.alone.kept.others;
          };
        };
        same = its_wait.same;
        unclean = unclean_then q.core mid.core new.core c.unclean unclean;
        faults = faults ∙ c.faults;
        client_is = c.client_is;
        tid_is = c.tid_is;
        via = c.via;
      }
        where
          pins : new.core.state.pins ≡ mid.core.state.pins
          pins = ap (λ (s : State). s.pins) its_wait.left

    -- it waits on, as it was
    still : IsLeft mid.core.state new.core.state mid.history new.history → StillWaits q.core.state new.core.state q.history new.history q.request
    still left = record {
      same = left.same ∙ c.same;
      at = at;
      alone = record {
        there = c.alone.there;
        kept = grants_then _ mid.core.state new.core.state q.request.client q.request.tid c.alone.kept (no_grants mid.core.state new.core.state q.request.client q.request.tid left.left);
      };
    }

    -- why the tree refuses it
    by_tree : (reason : Refusal) → reason ≢ NoInodes → TreeMayRefuse mid.core new.core q.request.op reason → WhyNotGranted q.core new.core q.request.op reason
    by_tree reason other may = why_not q.core mid.core (alike_alone q.core.state mid.core.state at q.request c.alone) c.unclean new.core q.request.op reason c.faults (go may)
      where
        go : TreeMayRefuse mid.core new.core q.request.op reason → WhyNotGranted mid.core new.core q.request.op reason
        go (inl memory) = inl memory
        go (inr (inl fault)) = inr (inl fault)
        go (inr (inr (inl place))) = inr (inr (inl place))
        go (inr (inr (inr number))) = absurd (other number.0)

    -- it lacks a number
    by_number : IsAtItsMaster Waiting q.history at q.request → LacksAny Waiting (TreeMayRefuse mid.core new.core) at q.request → LacksNumberToServe q.core.state q.history q.rank q.request
    by_number its lacks = record { is_new = its.is_new; master = at; is_master = c.via its.master; lacks = go lacks.1 }
      where
        go : LacksNumber (outcome_of q.core.state at q.request) (offer (supply_of q.core.state at)) NoInodes ⊎ TreeMayRefuse mid.core new.core q.request.op NoInodes → LacksNumber (outcome_of q.core.state at q.request) (offer (supply_of q.core.state at)) NoInodes ⊎ LacksFor q.request.op q.core.state.tree
        go (inl number) = inl number
        go (inr (inl clash)) = absurd cc
        go (inr (inr (inl clash))) = let no = clash.0 in absurd cc
        go (inr (inr (inr (inl clash)))) = let no = clash.0 in absurd cc
        go (inr (inr (inr (inr number)))) = inr (back q.core.state mid.core.state (alike_alone q.core.state mid.core.state at q.request c.alone) (λ (s : State). LacksFor q.request.op s.tree) number.1)

    pub refused : (reason : Refusal) → RefusesRequest mid.core.state new.core.state mid.history new.history (TreeMayRefuse mid.core new.core) at q.request [] reason → Answers q new (Err reason)
    refused reason h = go (moved (λ s past. RefusesRequest s new.core.state past new.history (TreeMayRefuse mid.core new.core) at q.request [] reason) h)
      where
        left_of : IsLeft Waiting new.core.state q.history new.history → IsLeft mid.core.state new.core.state mid.history new.history
        left_of l = record { same = l.same ∙ sym c.same; left = l.left ∙ sym its_left }

        full : FindsFull Waiting q.history at q.request → ⊥
        full f = absurd (omega (arith, f.full, ap (λ (w : List Request). length w) (get_or-set_other q.core.state.inboxes at.0 f.master.0 (q.request ∷ []) [] (λ same. f.other (λ i. record { 0 = same i })) ∙ c.none f.master)))

        memory : reason ≡ NoMemory → ServingTakesMemory Waiting q.history at q.request → WhyItWaits q.core new.core q.history q.request reason
        memory named (inl kept) = inl (named, kept)
        memory named (inr its) = inr (its.is_new, inl named)

        go : RefusesRequest Waiting new.core.state q.history new.history (TreeMayRefuse mid.core new.core) at q.request [] reason → Answers q new (Err reason)
        go (inl (named, trimmed, out)) = inr (inl (named, trimmed, taken_out out))
        go (inr (inl (named, its, lacks, out))) = inr (inr (inl (named, by_number its lacks, taken_out out)))
        go (inr (inr (inl (named, f, left)))) = absurd (full f)
        go (inr (inr (inr (inl (named, takes, left))))) = inr (inr (inr (memory named takes, still (left_of left))))
        go (inr (inr (inr (inr (other, its, may, left))))) = inr (inr (inr (inr (its.is_new, by_tree reason other may), still (left_of left))))

  -- ---- with the grants of all ranks

  module _ (mid2 : BookState) where
    -- grants of its pair are its own
    own_grants : (m : State) → KeepsButGrants mid.core.state m client tid → KeepsButGrants mid.core.state m q.request.client q.request.tid
    own_grants m kept = subst (λ (n : ℕ). KeepsButGrants mid.core.state m q.request.client n) c.tid_is (subst (λ (n : ℕ). KeepsButGrants mid.core.state m n tid) c.client_is kept)

    alone_still : KeepsButGrants mid.core.state mid2.core.state client tid → WaitsAlone q.core.state mid2.core.state at q.request
    alone_still kept = record { there = c.alone.there; kept = grants_then _ mid.core.state mid2.core.state q.request.client q.request.tid c.alone.kept (own_grants mid2.core.state kept) }

    pub granted : GrantsThem mid.core mid2.core client tid q.request.op → mid2.history ≡ mid.history → mid2.core.faults ≡ mid.core.faults → HasCome q mid2 at client tid
    granted h same faults = record {
      sound = c.sound;
      none = c.none;
      alone = alone_still h.kept;
      same = same ∙ c.same;
      unclean = unclean_then q.core mid.core mid2.core c.unclean h.unclean;
      faults = faults ∙ c.faults;
      client_is = c.client_is;
      tid_is = c.tid_is;
      via = c.via;
    }

    pub not_granted : IsNewAtMaster q at → (reason : Refusal) → GrantsEach mid.core mid2.core client tid q.request.op (Err reason) → mid2.history ≡ mid.history → Answers q mid2 (Err reason)
    not_granted its reason (kept, why) same =
        inr (inr (inr (
          inr (its.is_new, why_not q.core mid.core (alike_alone q.core.state mid.core.state at q.request c.alone) c.unclean mid2.core q.request.op reason c.faults why),
          record { same = same ∙ c.same; at = at; alone = alone_still kept },
        )))

    -- then it needn't wait
    pub needs_no_wait : GrantsThem mid.core mid2.core client tid q.request.op → (new : State) (past now : List Entry) → IsDeferred mid2.core.state new past now at q.request [] Deferred → ⊥
    needs_no_wait h new past now w =
        let alike = alike_grants mid.core.state mid2.core.state client tid h.kept in
        let must = w.waits in
        let its = h.granted must.leaf (back mid.core.state mid2.core.state alike (λ (s : State). Contains (would_change s q.request.op) must.leaf) must.changes) in
        must.barred (
          λ frozen. its.thawed (back mid.core.state mid2.core.state alike (λ (s : State). IsFrozenAt s must.leaf) frozen),
          inr (subst (λ (n : ℕ). list_any (is_same_grant (grant_of must.leaf q.request.client n)) mid2.core.state.pins ≡ true) c.tid_is (subst (λ (n : ℕ). list_any (is_same_grant (grant_of must.leaf n tid)) mid2.core.state.pins ≡ true) c.client_is its.granted)),
        )

-- ---- once it's answered nothing waits

pub none_waits : (old new : Core) (past now : List Entry) (rank : Rank) (request : Request) (receipt : Receipt) → NoneWaits old.state.inboxes → AsksAlone old new past now rank request (Ok receipt) → NoneWaits new.state.inboxes
none_waits old new past now rank request receipt none (inl h) =
    let was : h.granted.inboxes ≡ old.state.inboxes = ap (λ (s : State). s.inboxes) h.kept.left in
    let is : new.state.inboxes ≡ with_waiting h.granted.inboxes h.master [] = ap (λ (s : State). s.inboxes) h.applied.left in
    subst NoneWaits (sym (is ∙ ap (λ (i : Inboxes). with_waiting i h.master []) was ∙ still_empty old.state.inboxes h.master none)) none
none_waits old new past now rank request receipt none (inr h) =
    let is : new.state.inboxes ≡ with_waiting old.state.inboxes rank [] = ap (λ (s : State). s.inboxes) h.out.left in
    subst NoneWaits (sym (is ∙ still_empty old.state.inboxes rank none)) none

pub none_waits_then : (old new : Core) (past now : List Entry) (rank : Rank) (request : Request) (result : Result Receipt Refusal) → NoneWaits old.state.inboxes → AsksAlone old new past now rank request result → OnOk result (NoneWaits new.state.inboxes)
none_waits_then old new past now rank request (Ok receipt) none h = none_waits old new past now rank request receipt none h
none_waits_then old new past now rank request (Err reason) none h = tt

-- where no export stands nothing is frozen
pub none_frozen : (state : State) → state.exports ≡ map.empty → (leaf : Leaf) → IsFrozenAt state leaf → ⊥
none_frozen state none leaf frozen =
    let clash : None ≡ Some frozen.export = sym (get-empty leaf_cmp frozen.root) ∙ ap (λ (e : Standing). map.get e frozen.root) (sym none) ∙ frozen.stands in cc

frozen_alone : (old new : Core) (past now : List Entry) (rank : Rank) (request : Request) → old.state.exports ≡ map.empty → RefusesAsk old new past now rank request Frozen → ⊥
frozen_alone old new past now rank request none (inl h) = let clash : Frozen ≡ NotAuthority = h.0 in cc
frozen_alone old new past now rank request none (inr (inl h)) = let clash : Frozen ≡ Trimmed = h.0 in cc
frozen_alone old new past now rank request none (inr (inr (inl h))) = let clash : Frozen ≡ NoInodes = h.0 in cc
frozen_alone old new past now rank request none (inr (inr (inr (inl h, still)))) = let clash : Frozen ≡ NoMemory = h.0 in cc
frozen_alone old new past now rank request none (inr (inr (inr (inr (is, inl h), still)))) = let clash : Frozen ≡ NoMemory = h in cc
frozen_alone old new past now rank request none (inr (inr (inr (inr (is, inr (inl h)), still)))) = let clash : Frozen ≡ StoreFault = h.0 in cc
frozen_alone old new past now rank request none (inr (inr (inr (inr (is, inr (inr (inl h))), still)))) = let clash : Frozen ≡ NothingToEvict = h.0 in cc
frozen_alone old new past now rank request none (inr (inr (inr (inr (is, inr (inr (inr (named, (leaf, has, frozen))))), still)))) = none_frozen old.state none leaf frozen

pub never_frozen : (old new : Core) (past now : List Entry) (rank : Rank) (request : Request) (result : Result Receipt Refusal) → AsksAlone old new past now rank request result → old.state.exports ≡ map.empty → result ≢ Err Frozen
never_frozen old new past now rank request (Ok receipt) h none clash = cc
never_frozen old new past now rank request (Err reason) h none clash = frozen_alone old new past now rank request none (subst (RefusesAsk old new past now rank request) (named clash) h)
  where
    named : ◌≡◌ {A = Result Receipt Refusal} (Err reason) (Err Frozen) → reason ≡ Frozen
    named same = cc
