-- Rows that tell all of a book but what changed do so behind each step.
use Rattle.cluster_core.proofs.Common.{Answer, Core, Entry, Event, Ino, IsGiven, IsSupplied, IsUsedFrom, KeptState, List, None, Opening, Option, Refusal, Result, Some, StandsBehind, Steps, Supply, Table, [], ap, arith, cond, entries-empty, false, fresh, get_or, inl, inr, length, ltb-true, nat_lt, no_supply, offer, refl, replicate, subst, sym, with_entry, ℕ, ⊎_elim, ◌++◌, ◌<◌, ◌∙◌, ◌∷◌, ◌≡◌, ◌≤◌, ◌⊎◌}
use Rattle.std.specs.FinMap as map
use Rattle.std.proofs.Common.{Bool, map as list_map, true}
use Rattle.std.specs.Ordering.{nat_cmp}
use Rattle.sorted_map.specs.SortedMap.{is_from}
use Rattle.mds_types.specs.declared.replies.Reply.{Reply}
use Rattle.mds_types.specs.Tree.{numbers}
use Rattle.inode_table.specs.Numbers.{end_number, first_number}
use Rattle.keeping.specs.Rows.{SessionRows}
use Rattle.session_rows.specs.Sessions.{SpellsSessions}
use Rattle.sessions.specs.Replies.{ArePairsOnce}
use Rattle.sessions.specs.Restored.{IsStoredBut}
use Rattle.sessions.specs.Table.{all_stored, with_changed}
use Rattle.sessions.proofs.StoredLaws.{pairs_more}
use Rattle.sessions.proofs.WrittenLaws.{still_stored}
use Rattle.cluster_core.specs.KeptSessions.{IsOfRanks, IsSpent, KeptStaysTold, NoRowsTellOfANewBook, StepsStayTold, TellsBut, with_stored}
use Rattle.cluster_core.proofs.Forgotten.{GrowsByOne, IsNotedLast, grows_by_one, sound_with}
use Rattle.cluster_core.proofs.OpeningLaws.{used_from-push}
use Rattle.cluster_core.proofs.ResumedLaws.{offered}

module _ (rows : SessionRows) (opening : Opening) (past : List Entry) (old new : KeptState) (result : Result Answer Refusal) (event : Event)
    (behind : StandsBehind opening past old) (after : StandsBehind opening past new) (steps : Steps old.core new.core (past ++ old.history) (past ++ new.history) result event)
    (told : TellsBut rows opening (past ++ old.history) old.core) where
  abbrev before : List Entry
  before = past ++ old.history

  abbrev now : List Entry
  now = past ++ new.history

  ranks : length new.core.state.numbers ≡ length old.core.state.numbers
  ranks = sym after.behind.sound.ranks.caches ∙ steps.ranks ∙ behind.behind.sound.ranks.caches

  -- a number is of a rank that there is still
  of_ranks : (n : ℕ) → IsOfRanks (length old.core.state.numbers) n ⊎ IsSpent told.nexts n → IsOfRanks (length new.core.state.numbers) n ⊎ IsSpent told.nexts n
  of_ranks n (inl (rank, among, low, high)) = inl (rank, omega (arith, among, ranks), low, high)
  of_ranks n (inr spent) = inr spent

  same : now ≡ before → new.core.state.sessions ≡ old.core.state.sessions → TellsBut rows opening now new.core
  same grown known = record {
    stored = told.stored;
    nexts = told.nexts;
    spelled = told.spelled;
    once = subst ArePairsOnce (sym grown) told.once;
    clients = subst (λ (t : Table). IsStoredBut now t.changed told.stored) (sym known) (subst (λ (es : List Entry). IsStoredBut es old.core.state.sessions.changed told.stored) (sym grown) told.clients);
    numbers = λ n used. of_ranks n (told.numbers n (subst (λ (es : List Entry). IsUsedFrom opening es n) grown used));
  }

  module _ (h : IsNotedLast before now old.core.state new.core.state.sessions) where
    -- the number of the entry is of its rank
    given : (n : Ino) → h.entry.number ≡ Some n → IsOfRanks (length old.core.state.numbers) n.0
    given n is =
        let among : h.rank.0 < length old.core.state.numbers = omega (arith, ltb-true h.rank.0 (length old.core.state.inboxes) h.there, behind.behind.sound.ranks.inboxes) in
        let its = behind.behind.sound.supplied h.rank.0 among in
        let next = offered (get_or old.core.state.numbers h.rank.0 no_supply) n (h.number n is) in
        (h.rank.0, among, omega (arith, next.0, its.supply.started, its.own), omega (arith, next.0, next.1, its.own))

    used_before : (n : ℕ) → IsUsedFrom opening now n → IsOfRanks (length old.core.state.numbers) n ⊎ IsSpent told.nexts n
    used_before n used = elim (used_from-push opening before h.entry n behind.behind.sound.legal.begins (subst (λ (es : List Entry). IsUsedFrom opening es n) h.grown used)) [
      | inl was ↦ told.numbers n was
      | inr is ↦ inl (given (record { 0 = n }) is)
    ]

    more : TellsBut rows opening now new.core
    more = record {
      stored = told.stored;
      nexts = told.nexts;
      spelled = told.spelled;
      once = subst ArePairsOnce (sym h.grown) (pairs_more before h.entry told.once h.fresh);
      clients = subst (λ (t : Table). IsStoredBut now t.changed told.stored) (sym h.noted)
          (subst (λ (es : List Entry). IsStoredBut es (with_changed old.core.state.sessions.changed h.entry.client) told.stored) (sym h.grown) (still_stored before old.core.state.sessions.changed told.stored h.entry told.clients));
      numbers = λ n used. of_ranks n (used_before n used);
    }

  told_still : GrowsByOne before now old.core.state new.core.state.sessions → TellsBut rows opening now new.core
  told_still (inl (grown, known)) = same grown known
  told_still (inr h) = more h

pub stay_told : StepsStayTold
stay_told rows opening past old new result event behind after steps told =
    told_still rows opening past old new result event behind after steps told
    (grows_by_one (past ++ old.history) (past ++ new.history) old.core new.core result event steps.does)

pub kept_told : KeptStaysTold
kept_told rows opening past book told = record {
  stored = told.stored;
  nexts = told.nexts;
  spelled = told.spelled;
  once = told.once;
  clients = record { marks = λ client none. told.clients.marks client; replies = λ client tid none. told.clients.replies client tid };
  numbers = λ n used. inr (told.numbers n used);
}

-- a new book, over a store without rows
pub new_told : SpellsSessions map.empty [] (replicate 16 0) → NoRowsTellOfANewBook
new_told none_spelled core none = record {
  stored = [];
  nexts = replicate 16 0;
  spelled = none_spelled;
  once = λ k e below. absurd (omega (arith, below));
  clients = record { marks = λ client still. refl; replies = λ client tid still. sym (both_none (is_from nat_cmp 0 tid)) };
  numbers = λ n used. first n used;
}
  where
    both_none : (b : Bool) → cond {A = Option Reply} b None None ≡ None
    both_none true = refl
    both_none false = refl

    first : (n : ℕ) → IsUsedFrom (fresh map.empty) [] n → IsOfRanks (length core.state.numbers) n ⊎ IsSpent (replicate 16 0) n
    first n (inl (s, (k, below, is), _, _, _)) = absurd (omega (arith, below))
    first n (inr (inl root)) = inr (inl root)
    first n (inr (inr (inl (k, below, is)))) =
        let none : length (numbers map.empty) ≡ 0 = ap (λ es. length (list_map (λ (e : _). e.1.ino.0) es)) entries-empty in
        absurd (omega (arith, below, none))
    first n (inr (inr (inr (k, x, below, is, took)))) = absurd (omega (arith, below))

-- a book whose sessions are kept goes on from the same opening and past
pub stored_behind : (opening : Opening) (past : List Entry) (book : KeptState) → StandsBehind opening past book → StandsBehind opening past (with_stored book)
stored_behind opening past book goes =
    let s = goes.behind.sound in
    record {
      opened = goes.opened;
      behind = record {
        sound = sound_with opening (past ++ book.history) book.core (all_stored book.core.state.sessions) (record { marks = s.kept.marks; replies = s.kept.replies }) s;
        aside = record { before = goes.behind.aside.before; aside = goes.behind.aside.aside };
      };
    }
