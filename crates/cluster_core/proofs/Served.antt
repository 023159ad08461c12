-- What serving makes of the tree and of what stands beside it, said of the cluster's state.
use Rattle.cluster_core.proofs.Common.{Answer, Answers, AppliesRequest, Bool, CarryLeaves, Change, ChangesOnly, Checked, Checks, Covers, Deferred, Dirfrag, Entry, Err, FollowPlanned, ForwardsTo, HasLeft, Inboxes, Ino, IsApplied, IsChecked, IsKeptAt, IsLeft, IsMaster, IsNew, IsNoted, IsOneOf, IsPrepared, IsTakenOut, IsTrimmed, IsUntouched, LacksNumber, LeavesRefused, List, MakesPlanned, MayTouchAll, MustWait, NoInodes, NoMemory, None, Ok, Op, Option, Outcome, Pin, Prepared, Rank, Refusal, RefusesRequest, Repeats, Replies, Reply, Request, Result, ServesInbox, Some, State, Supply, Table, Tree, Trimmed, [], after_plan, after_taking, answers, ap, append_assoc, arith, changed_fragments, cond, entry_of, false, fragments_are, fragments_in, inl, inr, is_idle, leaves_of, length, length-append, no_supply, noted, number_taken, number_or, offer, outcome_of, refl, root_fragment, set, set-get_or, shown, shown_tree, slice_index_or, step, subst, supply_of, sym, trimmed, true, went_with, with_entry, with_waiting, without_gone, without_request, ℕ, ◌++◌, ◌+◌, ◌∙◌, ◌∷◌, ◌≡◌, ◌≢◌, ◌⊎◌}
use Rattle.mds_types.specs.declared.replies.Reply.{Reply as Replied}
use Rattle.dentry_cache.specs.Cache.{Leaf}
use Rattle.mdcache.specs.State.{State as TreeState}
use Rattle.cluster_core.proofs.Idle.{idle_fragments}
use Rattle.cluster_core.proofs.MadeReady.{WhyUnmade}

-- the table's outcome, offered the next number of a supply
abbrev pub outcome_with : TreeState → Supply → Op → Outcome
outcome_with tree supply op = step tree.limit (shown_tree tree) op (number_or (offer supply))

-- what stands beside the tree is what the table answers and takes, and the change, if there is one, leads to the table's tree
pub record IsOutcome (limit : ℕ) (tree : Tree) (covers : Covers) (op : Op) (outcome : Outcome) (numbers : Supply) (change : Option Change) (prepared : Prepared) : Type 0 where
  pub replied : prepared.reply ≡ outcome.reply
  pub copied : prepared.answer ≡ outcome.reply
  pub took : prepared.number ≡ cond outcome.takes (offer numbers) None
  pub numbered : offer numbers ≡ None → outcome.takes ≡ false
  pub drawn : prepared.numbers ≡ after_taking numbers prepared.number
  pub went : prepared.went ≡ went_with change
  pub leads : after_plan tree change ≡ outcome.tree
  pub one_of : IsOneOf op change
  pub fragments : fragments_in covers change ≡ changed_fragments limit covers tree op

-- so it is of a change that the checks found
pub outcome_of_change : (limit : ℕ) (tree : Tree) (covers : Covers) (Holds : Dirfrag → Type 0) (op : Op) (numbers : Supply) (change : Change) (prepared : Prepared)
    → IsChecked tree covers Holds op (number_or (offer numbers)) (step limit tree op (number_or (offer numbers))) change → IsPrepared change numbers prepared
    → IsOutcome limit tree covers op (step limit tree op (number_or (offer numbers))) numbers (Some change) prepared
outcome_of_change limit tree covers Holds op numbers change prepared checked is = record {
  replied = is.replied ∙ sym checked.replied;
  copied = is.copied ∙ sym checked.replied;
  took = is.took ∙ ap (λ (b : Bool). cond b (offer numbers) None) (sym checked.number);
  numbered = λ none. checked.number ∙ is.given none;
  drawn = is.drawn;
  went = is.went;
  leads = sym checked.leads;
  one_of = checked.one_of;
  fragments = fragments_are limit tree covers Holds op (number_or (offer numbers)) change checked;
}

-- what was noted behind the entries that aren't forgotten is noted behind all
module _ (old new : Inboxes) (before after : List Pin) (known sessions : Table) (gone past now : List Entry) (rank : Rank) where
  pub noted_behind : (number went : Option Ino) (said told : Replied) (request : Request) (rest : List Request) (answer : Answer) → length gone ≡ known.forgotten
      → IsNoted old new before after known sessions (known.forgotten + length past) past now rank number went said told request rest answer
      → IsNoted old new before after known sessions (length (gone ++ past)) (gone ++ past) (gone ++ now) rank number went said told request rest answer
  noted_behind number went said told request rest answer long h =
      let place : known.forgotten + length past ≡ length (gone ++ past) = omega (arith, length-append gone past, long) in
      let entry : Entry = record { client = request.client; tid = request.tid; oldest = request.oldest; op = request.op; number = number; reply = said } in
      record {
        answered = h.answered ∙ ap (λ n. Reply request.client request.tid n true told) place;
        inboxes = h.inboxes;
        pins = h.pins;
        appended = ap (λ (l : List Entry). gone ++ l) h.appended ∙ sym (append_assoc gone past (entry ∷ []));
        noted = h.noted ∙ ap (λ n. trimmed (noted known request.client request.tid request.oldest n) request.client) place;
      }

  pub replies_behind : (said : Replied) (result : Result Answer Refusal) (request : Request) (rest : List Request) → length gone ≡ known.forgotten
      → Replies old new before after known sessions (known.forgotten + length past) past now rank said result request rest
      → Replies old new before after known sessions (length (gone ++ past)) (gone ++ past) (gone ++ now) rank said result request rest
  replies_behind said (Ok answer) request rest long h = noted_behind None None said said request rest answer long h
  replies_behind said (Err reason) request rest long h =
      record { named = h.named; inboxes = h.inboxes; pins = h.pins; same = ap (λ (l : List Entry). gone ++ l) h.same; known_still = h.known_still }

module _ (old : State) (past : List Entry) (rank : Rank) (MayRefuse : Op → Refusal → Type 0) where
  -- the request at the front, and those behind it
  module _ (request : Request) (rest : List Request) where
    -- ---- a request that is answered at once

    pub ended : (inboxes : Inboxes) (pins : List Pin) → IsTrimmed past request.client request.tid request.oldest → HasLeft old.inboxes inboxes old.pins pins rank request rest
        → ServesInbox old (record old { inboxes = inboxes; pins = pins }) past past MayRefuse rank (Err Trimmed) (request ∷ rest)
    ended inboxes pins old_one h = inl (refl, old_one, record { same = refl; left = λ i. record old { inboxes = h.inboxes i; pins = h.ended i } })

    pub again : (inboxes : Inboxes) (pins : List Pin) (place : ℕ) (said : Replied) (result : Result Answer Refusal) → IsKeptAt past request.client request.tid request.oldest place → ((e : Entry) → said ≡ (slice_index_or past place e).reply)
        → Repeats old.inboxes inboxes old.pins pins rank place said result request rest
        → ServesInbox old (record old { inboxes = inboxes; pins = pins }) past past MayRefuse rank result (request ∷ rest)
    again inboxes pins place said (Ok answer) kept is h = inr (inl (record {
      place = place;
      kept = kept;
      answered = λ e. h.0 ∙ ap (λ r. Reply request.client request.tid place false r) (is e);
      out = record { same = refl; left = λ i. record old { inboxes = h.1.inboxes i; pins = h.1.ended i } };
    }))
    again inboxes pins place said (Err reason) kept is h =
        inr (inr (inr (inl (h.0, inl (place, kept), record { same = refl; left = λ i. record old { inboxes = h.1 i; pins = h.2 i } }))))

    -- ---- a new request

    pub goes_on : (inboxes : Inboxes) (master : Rank) (result : Result Answer Refusal)
        → IsNew past request.client request.tid request.oldest → IsMaster old rank request.op master → master ≢ rank
        → ForwardsTo old.inboxes inboxes rank master result request rest → ServesInbox old (record old { inboxes = inboxes }) past past MayRefuse rank result (request ∷ rest)
    goes_on inboxes master (Ok answer) new is other h = inr (inr (inl (record {
      is_new = new;
      master = master;
      is_master = is;
      other = other;
      answered = h.0;
      room = h.1;
      same = refl;
      left = λ i. record old { inboxes = h.2 i };
    })))
    goes_on inboxes master (Err reason) new is other h = inr (inr (inl (
      h.0,
      record { is_new = new; master = master; is_master = is; other = other; full = h.1 },
      record { same = refl; left = λ i. record old { inboxes = h.2 i } },
    )))

    -- at its master
    module _ (new : IsNew past request.client request.tid request.oldest) (master : IsMaster old rank request.op rank) where
      -- after reads that keep all
      module _ (mid : State) (kept : mid ≡ old) where
        pub refused_early : (reason : Refusal) → reason ≢ NoInodes → (reason ≡ NoMemory) ⊎ MayRefuse request.op reason → ServesInbox old mid past past MayRefuse rank (Err reason) (request ∷ rest)
        refused_early reason other why = go why
          where
            go : (reason ≡ NoMemory) ⊎ MayRefuse request.op reason → ServesInbox old mid past past MayRefuse rank (Err reason) (request ∷ rest)
            go (inl memory) = inr (inr (inr (inl (memory, inr (record { is_new = new; master = master }), record { same = refl; left = kept }))))
            go (inr may) = inr (inr (inr (inr (other, record { is_new = new; master = master }, may, record { same = refl; left = kept }))))

        pub deferred : (inboxes : Inboxes) → MustWait old rank request → inboxes ≡ with_waiting old.inboxes rank (rest ++ request ∷ []) → ServesInbox old (record mid { inboxes = inboxes }) past past MayRefuse rank (Ok Deferred) (request ∷ rest)
        deferred inboxes lacks turned =
            inr (inr (inr (record { is_new = new; master = master; waits = lacks; answered = refl; same = refl; left = λ i. record (kept i) { inboxes = turned i } })))

        -- refused, once there is room in the history and in the sessions
        pub refused_there : (middle : List Entry) (inboxes : Inboxes) (pins : List Pin) (reason : Refusal) → middle ≡ past → MayTouchAll old rank request
            → WhyUnmade (MayRefuse request.op) (outcome_of old rank request) (offer (supply_of old rank)) reason
            → LeavesRefused old.inboxes inboxes old.pins pins rank reason request rest
            → AppliesRequest old (record mid { inboxes = inboxes; pins = pins }) past middle MayRefuse rank (Err reason) request rest
        refused_there middle inboxes pins reason past_is may why (inl (named, out)) = inr (inl (named, record { is_new = new; master = master }, (may, go why), gone))
          where
            gone : IsTakenOut old (record mid { inboxes = inboxes; pins = pins }) past middle rank request rest
            gone = record { same = past_is; left = λ i. record (kept i) { inboxes = out.inboxes i; pins = out.ended i } }

            go : WhyUnmade (MayRefuse request.op) (outcome_of old rank request) (offer (supply_of old rank)) reason → LacksNumber (outcome_of old rank request) (offer (supply_of old rank)) NoInodes ⊎ MayRefuse request.op NoInodes
            go (inl lacks) = inl (subst (LacksNumber (outcome_of old rank request) (offer (supply_of old rank))) named lacks)
            go (inr (inl memory)) = let clash : NoInodes ≡ NoMemory = sym named ∙ memory in absurd cc
            go (inr (inr because)) = inr (subst (MayRefuse request.op) named because)
        refused_there middle inboxes pins reason past_is may why (inr (other, stay, still)) = go why
          where
            all_left : IsLeft old (record mid { inboxes = inboxes; pins = pins }) past middle
            all_left = record { same = past_is; left = λ i. record (kept i) { inboxes = stay i; pins = still i } }

            go : WhyUnmade (MayRefuse request.op) (outcome_of old rank request) (offer (supply_of old rank)) reason → RefusesRequest old (record mid { inboxes = inboxes; pins = pins }) past middle MayRefuse rank request rest reason
            go (inl lacks) = absurd (other lacks.named)
            go (inr (inl memory)) = inr (inr (inr (inl (memory, inr (record { is_new = new; master = master }), all_left))))
            go (inr (inr because)) = inr (inr (inr (inr (other, record { is_new = new; master = master }, because, all_left))))

      -- a request whose change was made, or that makes none, and that was noted then
      module _ (after : State) (between : Table) (middle : List Entry) (numbers : List Supply) (known : between ≡ old.sessions) (past_is : middle ≡ past) (unused : numbers ≡ old.numbers) (stand : after.exports ≡ old.exports)
          (now : List Entry) (change : Option Change) (prepared : Prepared) (answer : Answer)
          (may : MayTouchAll old rank request)
          (is : IsOutcome old.tree.limit (shown old) old.tree.covers request.op (outcome_of old rank request) (supply_of old rank) change prepared)
          (tree : shown after ≡ after_plan (shown old) change)
          (made : MakesPlanned change old.tree after.tree)
          (leaves : CarryLeaves (shown old) (shown after) old.tree.covers after.tree.covers)
          (frame : ChangesOnly (IsUntouched old.tree after.tree) (fragments_in old.tree.covers change))
          (followed : FollowPlanned change old.tree old.roots after.roots)
          (noted_now : IsNoted old.inboxes after.inboxes old.pins after.pins between after.sessions (length middle) middle now rank prepared.number prepared.went prepared.reply prepared.answer request rest answer)
          (drawn : after.numbers ≡ set numbers rank.0 prepared.numbers) where
        abbrev entry : Option Ino → Replied → Entry
        entry number reply = record { client = request.client; tid = request.tid; oldest = request.oldest; op = request.op; number = number; reply = reply }

        num : after.numbers ≡ set old.numbers rank.0 (after_taking (supply_of old rank) (number_taken old rank request))
        num =
            drawn ∙ ap (λ (n : List Supply). set n rank.0 prepared.numbers) unused
            ∙ ap (set old.numbers rank.0) (is.drawn ∙ ap (after_taking (supply_of old rank)) is.took)

        ses : after.sessions ≡ with_entry old.sessions (length past) (entry_of old rank request)
        ses =
            noted_now.noted
            ∙ ap (λ t. trimmed (noted t request.client request.tid request.oldest (length middle)) request.client) known
            ∙ ap (λ m. trimmed (noted old.sessions request.client request.tid request.oldest (length m)) request.client) past_is

        pub applied_new : IsApplied old after past now rank request rest answer
        applied_new = record {
          is_new = new;
          master = master;
          may = may;
          answered =
              noted_now.answered ∙ ap (λ m. Reply request.client request.tid (length m) true prepared.answer) past_is
              ∙ ap (λ r. Reply request.client request.tid (length past) true r) is.copied;
          numbered = is.numbered;
          appended =
              noted_now.appended ∙ ap (λ n. middle ++ entry n prepared.reply ∷ []) is.took ∙ ap (λ r. middle ++ entry (number_taken old rank request) r ∷ []) is.replied
              ∙ ap (λ m. m ++ entry_of old rank request ∷ []) past_is;
          tree = tree ∙ is.leads;
          made = record {
            change = change;
            one_of = is.one_of;
            leads = is.leads;
            fragments = is.fragments;
            made = made;
            roots = followed;
            pins = noted_now.pins ∙ ap (without_gone (without_request old.pins request)) is.went;
          };
          leaves = leaves;
          frame = subst (λ (leaves : List Leaf). ChangesOnly (IsUntouched old.tree after.tree) leaves) is.fragments frame;
          left = λ i. record after { exports = stand i; numbers = num i; inboxes = noted_now.inboxes i; sessions = ses i };
        }

      -- a request that changes nothing, and was answered, or waits on
      module _ (Holds : Dirfrag → Type 0) (limit n : ℕ) (supply : Supply) (checked : Checked) (said : Replied) (limit_is : limit ≡ old.tree.limit) (n_is : n ≡ number_or (offer supply)) (left : supply ≡ supply_of old rank)
          (answers_so : checked ≡ Answers said) (found : Checks (shown old) old.tree.covers Holds request.op n (step limit (shown old) request.op n) checked) where
        told : (step limit (shown old) request.op n ≡ answers (shown old) said) × (is_idle request.op said ≡ true)
        told = subst (λ (k : Checked). Checks (shown old) old.tree.covers Holds request.op n (step limit (shown old) request.op n) k) answers_so found

        outcome_is : outcome_of old rank request ≡ answers (shown old) said
        outcome_is = (λ i. step (sym limit_is i) (shown old) request.op (sym (n_is ∙ ap (λ (s : Supply). number_or (offer s)) left) i)) ∙ told.0

        -- nothing changes, and no number is taken
        abbrev readily : Prepared
        readily = record { reply = said; answer = said; number = None; numbers = supply_of old rank; went = None }

        outcome_so : IsOutcome old.tree.limit (shown old) old.tree.covers request.op (outcome_of old rank request) (supply_of old rank) None readily
        outcome_so = record {
          replied = sym (ap (λ (o : Outcome). o.reply) outcome_is);
          copied = sym (ap (λ (o : Outcome). o.reply) outcome_is);
          took = sym (ap (λ (o : Outcome). cond o.takes (offer (supply_of old rank)) None) outcome_is);
          numbered = λ none. ap (λ (o : Outcome). o.takes) outcome_is;
          drawn = refl;
          went = refl;
          leads = sym (ap (λ (o : Outcome). o.tree) outcome_is);
          one_of = tt;
          fragments = sym (idle_fragments old.tree.limit old.tree.covers (shown old) request.op (number_or (offer (supply_of old rank))) said outcome_is told.1);
        }

        pub replied : (inboxes : Inboxes) (pins : List Pin) (sessions : Table) (now : List Entry) (numbers : List Supply) (result : Result Answer Refusal) → MayTouchAll old rank request → numbers ≡ old.numbers
            → Replies old.inboxes inboxes old.pins pins old.sessions sessions (length past) past now rank said result request rest
            → AppliesRequest old (record old { numbers = numbers; inboxes = inboxes; pins = pins; sessions = sessions }) past now MayRefuse rank result request rest
        replied inboxes pins sessions now numbers (Ok answer) may same h =
            applied_new (record old { numbers = numbers; inboxes = inboxes; pins = pins; sessions = sessions }) old.sessions past old.numbers refl refl refl refl now None readily answer may outcome_so
            refl refl (λ d there. sym (ap (λ b. cond b (leaves_of old.tree.covers d) (root_fragment ∷ [])) there)) (λ leaf out live. record { live = live; names = refl }) refl h
            (same ∙ sym (set-get_or old.numbers rank.0 no_supply))
        replied inboxes pins sessions now numbers (Err reason) may same h = inr (inr (inr (inl (
          h.named,
          inr (record { is_new = new; master = master }),
          record { same = h.same; left = λ i. record old { numbers = same i; inboxes = h.inboxes i; pins = h.pins i; sessions = h.known_still i } },
        ))))

-- ---- what was done after reads is said of what was before them

refuses_weaker : (before later : State) (past now : List Entry) (Later MayRefuse : Op → Refusal → Type 0) (rank : Rank) (request : Request) (rest : List Request) (reason : Refusal) → ((reason : Refusal) → Later request.op reason → MayRefuse request.op reason)
    → RefusesRequest before later past now Later rank request rest reason → RefusesRequest before later past now MayRefuse rank request rest reason
refuses_weaker before later past now Later MayRefuse rank request rest reason so (inl trimmed) = inl trimmed
refuses_weaker before later past now Later MayRefuse rank request rest reason so (inr (inl (named, here, (may, inl lacks), out))) = inr (inl (named, here, (may, inl lacks), out))
refuses_weaker before later past now Later MayRefuse rank request rest reason so (inr (inl (named, here, (may, inr because), out))) = inr (inl (named, here, (may, inr (so NoInodes because)), out))
refuses_weaker before later past now Later MayRefuse rank request rest reason so (inr (inr (inl full))) = inr (inr (inl full))
refuses_weaker before later past now Later MayRefuse rank request rest reason so (inr (inr (inr (inl memory)))) = inr (inr (inr (inl memory)))
refuses_weaker before later past now Later MayRefuse rank request rest reason so (inr (inr (inr (inr (other, here, because, left))))) = inr (inr (inr (inr (other, here, so reason because, left))))

pub served_later : (before mid now_state : State) (past now : List Entry) (Later MayRefuse : Op → Refusal → Type 0) (rank : Rank) (request : Request) (rest : List Request) (result : Result Answer Refusal) → mid ≡ before → ((reason : Refusal) → Later request.op reason → MayRefuse request.op reason)
    → AppliesRequest mid now_state past now Later rank result request rest → ServesInbox before now_state past now MayRefuse rank result (request ∷ rest)
served_later before mid now_state past now Later MayRefuse rank request rest (Ok answer) same so h = inl (subst (λ (s : State). IsApplied s now_state past now rank request rest answer) same h)
served_later before mid now_state past now Later MayRefuse rank request rest (Err reason) same so h =
    subst (λ (s : State). RefusesRequest s now_state past now MayRefuse rank request rest reason) same (refuses_weaker mid now_state past now Later MayRefuse rank request rest reason so h)
