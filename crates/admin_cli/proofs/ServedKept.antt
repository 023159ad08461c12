-- What lines leave of a book, whichever opening tree and past it goes on from: what one thread leaves of the whole book.
use Rattle.admin_cli.proofs.Common.{Answer, Event, IsSoundKept, KeptState, List, Opening, Refusal, Result, StandsBehind, [], ap, append_assoc, length, refl, subst, sym, take, take-append-drop, places_of, whole_of, ℕ, ◌++◌, ◌∙◌, ◌≡◌}
use Rattle.std.specs.List.{AllByRecursion}
use Rattle.std.specs.Prelude.{Contains}
use Rattle.mds_types.specs.declared.entries.Entry.{Entry}
use Rattle.mds_types.specs.declared.requests.Request.{Request}
use Rattle.inboxes.specs.Inboxes.{Inboxes}
use Rattle.cluster_core.specs.OneThread.{InOrder, arrival, receipt_of}
use Rattle.cluster_core.specs.State.{Core}
use Rattle.cluster_core.specs.declared.receipts.Receipt.{Receipt}
use Rattle.cluster_core.proofs.Forgotten.{places_behind}
use Rattle.cluster_core.proofs.NoReplyLaws.{TellsNone, tells_none}
use Rattle.cluster_core.proofs.OneThreadLaws as whole
use Rattle.cluster_core.proofs.SentLaws.{AreAmong}
use Rattle.cluster_core.specs.Forgetting.{Forgets}
use Rattle.admin_cli.specs.StepLines.{IsStep}

-- behind this opening tree and past: what is forgotten now, and what the whole books are to each other
pub record ServedBehind (opening : Opening) (past : List Entry) (start end : KeptState) (sent : List Request) (told : List Receipt) : Type 0 where
  pub forgotten : List Entry
  pub behind : StandsBehind opening forgotten end
  pub served : whole.Served (whole_of opening past start) (whole_of opening forgotten end) sent told

pub record Served (start end : KeptState) (sent : List Request) (told : List Receipt) : Type 0 where
  pub waits : AreAmong sent end.core.state.inboxes
  pub from : (opening : Opening) (past : List Entry) → StandsBehind opening past start → ServedBehind opening past start end sent told

module _ (sent : List Request) where
  pub served_same : (start end : KeptState) → end ≡ start → AreAmong sent start.core.state.inboxes → Served start end sent []
  served_same start end same among = record {
    waits = subst (λ (k : KeptState). AreAmong sent k.core.state.inboxes) (sym same) among;
    from = λ opening past given. record {
      forgotten = past;
      behind = subst (StandsBehind opening past) (sym same) given;
      served = whole.served_same sent (whole_of opening past start) (whole_of opening past end) (ap (whole_of opening past) same) among;
    };
  }

  -- what says nothing to clients
  pub served_none : (start end : KeptState) → ((opening : Opening) (past : List Entry) → StandsBehind opening past start → StandsBehind opening past end) → end.core.state.tree.limit ≡ start.core.state.tree.limit → end.core.state.inboxes ≡ start.core.state.inboxes → end.history ≡ start.history
      → AreAmong sent start.core.state.inboxes → Served start end sent []
  served_none start end on limit inboxes same among = record {
    waits = subst (λ (i : Inboxes). AreAmong sent i) (sym inboxes) among;
    from = λ opening past given. record {
      forgotten = past;
      behind = on opening past given;
      served = whole.served_none sent (whole_of opening past start) (whole_of opening past end) refl limit inboxes (ap (λ (es : List Entry). past ++ es) same) among;
    };
  }

  step_behind : (start end : KeptState) (result : Result Answer Refusal) (event : Event) → IsStep start end result event → AreAmong sent start.core.state.inboxes → AllByRecursion (Contains sent) (arrival event)
      → (opening : Opening) (past : List Entry) → StandsBehind opening past start → ServedBehind opening past start end sent (receipt_of result)
  step_behind start end result event step among has opening past given = record {
    forgotten = past;
    behind = step.goes_on opening past given;
    served = whole.served_one sent (whole_of opening past start) (whole_of opening past end) result event (step.stepped opening past given).stepped refl among has;
  }

  pub served_one : (start end : KeptState) (result : Result Answer Refusal) (event : Event) → IsSoundKept start → IsStep start end result event → AreAmong sent start.core.state.inboxes → AllByRecursion (Contains sent) (arrival event) → Served start end sent (receipt_of result)
  served_one start end result event known step among has = record {
    waits = (step_behind start end result event step among has known.0 known.1 known.2).served.waits;
    from = step_behind start end result event step among has;
  }

  pub served_on : (start middle end : KeptState) (rs ss : List Receipt) → Served start middle sent rs → Served middle end sent ss → Served start end sent (rs ++ ss)
  served_on start middle end rs ss h k = record {
    waits = k.waits;
    from = λ opening past given.
        let first = h.from opening past given in
        let then = k.from opening first.forgotten first.behind in
        record {
          forgotten = then.forgotten;
          behind = then.behind;
          served = whole.served_on sent (whole_of opening past start) (whole_of opening first.forgotten middle) (whole_of opening then.forgotten end) rs ss first.served then.served;
        };
  }

  -- nor is anything said where the first entries are forgotten
  pub served_forgot : (keep : ℕ) (start end : KeptState) → Forgets keep start end → AreAmong sent start.core.state.inboxes → Served start end sent []
  served_forgot keep start end f among = record {
    waits = subst (λ (i : Inboxes). AreAmong sent i) (sym inboxes) among;
    from = λ opening past given.
        let went = past ++ take f.count start.history in
        let same : went ++ end.history ≡ past ++ start.history =
        append_assoc past (take f.count start.history) end.history
        ∙ ap (λ (es : List Entry). past ++ es) (ap (λ (es : List Entry). take f.count start.history ++ es) f.left ∙ take-append-drop f.count start.history) in
        record {
          forgotten = went;
          behind = f.goes_on opening past given;
          served = whole.served_none sent (whole_of opening past start) (whole_of opening went end) refl limit inboxes same among;
        };
  }
    where
      limit : end.core.state.tree.limit ≡ start.core.state.tree.limit
      limit = ap (λ (c : Core). c.state.tree.limit) f.core

      inboxes : end.core.state.inboxes ≡ start.core.state.inboxes
      inboxes = ap (λ (c : Core). c.state.inboxes) f.core

-- a step of which no reply is told
pub step_tells_none : (old new : KeptState) (result : Result Answer Refusal) (event : Event) → IsSoundKept old → IsStep old new result event → TellsNone event result
step_tells_none old new result event known step =
    tells_none old.core new.core (known.1 ++ old.history) (known.1 ++ new.history) result event (step.stepped known.0 known.1 known.2).stepped.does

-- so many entries there were, and so many there are, behind what is forgotten
pub in_places : (opening : Opening) (past forgotten : List Entry) (start end : KeptState) (told : List Receipt) → StandsBehind opening past start → StandsBehind opening forgotten end → InOrder (length (past ++ start.history)) told (length (forgotten ++ end.history))
    → InOrder (places_of start) told (places_of end)
in_places opening past forgotten start end told given behind order =
    subst (λ (n : ℕ). InOrder n told (places_of end)) (places_behind opening past start given)
    (subst (λ (n : ℕ). InOrder (length (past ++ start.history)) told n) (places_behind opening forgotten end behind) order)

pub in_whole : (opening : Opening) (past forgotten : List Entry) (start end : KeptState) (told : List Receipt) → StandsBehind opening past start → StandsBehind opening forgotten end → InOrder (places_of start) told (places_of end)
    → InOrder (length (past ++ start.history)) told (length (forgotten ++ end.history))
in_whole opening past forgotten start end told given behind order =
    subst (λ (n : ℕ). InOrder n told (length (forgotten ++ end.history))) (sym (places_behind opening past start given))
    (subst (λ (n : ℕ). InOrder (places_of start) told n) (sym (places_behind opening forgotten end behind)) order)
