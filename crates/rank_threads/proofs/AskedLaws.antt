-- What the lock keeps of the requests that were sent, step by step, and what the threads keep of those that they bring.
use Rattle.rank_threads.proofs.Common.{Agree, AllByRecursion, Answer, Contains, Continues, EachIsSent, Entry, IsAskedFor, IsOneThread, IsSent, IsSoundKept, KeptState, List, Opening, Receipt, Refusal, Request, Result, Serves, StandsBehind, Turn, [], ap, drop, length, map, places_of, plan_arrivals, plans_arrivals, receipt_of, receipts_of, receipts_of_all, rules, subst, sym, take, turn_arrival, waiting_in, ℕ, ◌++◌, ◌∙◌, ◌∷◌, ◌≡◌, ◌≤◌}
use Rattle.std.proofs.Math.Logic.{∥∥₁_elim, ∥∥₁_map, ∥∥₁_prop}
use Rattle.std.proofs.lemmas.List.{append_assoc, drop-append-le, drop_all, map-append, take_all}
use Rattle.cluster_core.specs.Opening.{IsLegalFrom}
use Rattle.std.proofs.lemmas.List.Elements.{All-contains, All-from_recursion}
use Rattle.cluster_core.proofs.ListLaws.{all_append, all_back, all_front, all_weaker, each_left, each_right}
use Rattle.cluster_core.proofs.Forgotten.{places_behind}
use Rattle.rank_threads.proofs.StepLaws.{Grown, begun_fits, grown}

-- whatever is one of these is one of those
among : (sent all : List Request) → AllByRecursion (Contains sent) all → (x : Request) → Contains all x → Contains sent x
among sent all h x has = All-contains (Contains sent) all x (All-from_recursion (Contains sent) all h) has

both : {A B C : Type 0} → ∥ A ∥₁ → ∥ B ∥₁ → (A → B → C) → ∥ C ∥₁
both a b f = ∥∥₁_elim a ∥∥₁_prop (λ x. ∥∥₁_map b (λ y. f x y))

-- ---- a step of the book

module _ (limit : ℕ) (sent : List Request) (begun : List Entry) (old new : KeptState) (brings : List Request) (told : List Receipt) (known : IsSoundKept old)
    (ones : (opening : Opening) (past : List Entry) → StandsBehind opening past old → IsOneThread old.core.state.tree.limit opening (past ++ old.history) (past ++ new.history) (waiting_in old.core.state.inboxes ++ brings) told) where
  all_sent : Serves limit sent begun old → AllByRecursion (Contains sent) brings → AllByRecursion (Contains sent) (waiting_in old.core.state.inboxes ++ brings)
  all_sent s b = all_append (Contains sent) (waiting_in old.core.state.inboxes) brings s.waits b

  -- what was applied since the book was handed in
  asked_on : Serves limit sent begun old → AllByRecursion (Contains sent) brings → take (length begun) old.history ≡ begun → AllByRecursion (IsSent sent) (drop (length begun) new.history)
  asked_on s b was =
      let all = waiting_in old.core.state.inboxes ++ brings in
      let one : Grown old new all = grown old new known old.core.state.tree.limit all told ones in
      let its : AllByRecursion (IsSent sent) one.more = all_weaker (IsSent all) (IsSent sent) (λ e. among sent all (all_sent s b) (record { client = e.client; tid = e.tid; oldest = e.oldest; op = e.op })) one.more one.asked in
      let left : drop (length begun) new.history ≡ drop (length begun) old.history ++ one.more = ap (drop (length begun)) one.grows ∙ drop-append-le (length begun) old.history one.more (begun_fits begun old.history was) in
      subst (AllByRecursion (IsSent sent)) (sym left) (all_append (IsSent sent) (drop (length begun) old.history) one.more s.asked its)

  -- the lock keeps what it keeps
  pub still_serves : AllByRecursion (Contains (waiting_in old.core.state.inboxes ++ brings)) (waiting_in new.core.state.inboxes) → new.core.state.tree.limit ≡ old.core.state.tree.limit → take (length begun) old.history ≡ begun
      → ∥ AllByRecursion (Contains sent) brings ∥₁ → ∥ Serves limit sent begun old ∥₁ → ∥ Serves limit sent begun new ∥₁
  still_serves waits same was bring serves = both serves bring (λ s b. record {
    limited = same ∙ s.limited;
    asked = asked_on s b was;
    waits = all_weaker (Contains (waiting_in old.core.state.inboxes ++ brings)) (Contains sent) (among sent (waiting_in old.core.state.inboxes ++ brings) (all_sent s b)) (waiting_in new.core.state.inboxes) waits;
  })

  asked_of : Serves limit sent begun old → AllByRecursion (Contains sent) brings → (r : Receipt) → IsAskedFor (waiting_in old.core.state.inboxes ++ brings) r → IsAskedFor sent r
  asked_of s b r h = (h.0, among sent (waiting_in old.core.state.inboxes ++ brings) (all_sent s b) h.0 h.1, h.2, h.3)

  -- and what is handed out was asked for
  pub told_asked : ∥ AllByRecursion (Contains sent) brings ∥₁ → ∥ Serves limit sent begun old ∥₁ → ∥ AllByRecursion (IsAskedFor sent) told ∥₁
  told_asked bring serves =
      let one = ones known.0 known.1 known.2 in
      both serves bring (λ s b. all_weaker (IsAskedFor (waiting_in old.core.state.inboxes ++ brings)) (IsAskedFor sent) (asked_of s b) told one.asked_for)

-- the history that was handed in
pub begins_first : (first book : KeptState) → first ≡ book → take (length first.history) book.history ≡ first.history
begins_first first book is =
    subst (λ (b : KeptState). take (length first.history) b.history ≡ first.history) is (take_all (length first.history) first.history (let e : length first.history ≤ length first.history = search rules in e))

-- the book that was handed in
pub serves_first : (sent : List Request) (first book : KeptState) (brings : List Request) → first ≡ book → sent ≡ waiting_in book.core.state.inboxes ++ brings → ∥ Serves first.core.state.tree.limit sent first.history book ∥₁
serves_first sent first book brings is is_sent = ∣ record {
  limited = ap (λ (b : KeptState). b.core.state.tree.limit) (sym is);
  asked = subst (AllByRecursion (IsSent sent)) (sym (drop_all (length first.history) book.history (subst (λ (b : KeptState). length book.history ≤ length b.history) (sym is) (let e : length book.history ≤ length book.history = search rules in e)))) tt;
  waits = subst (λ (all : List Request). AllByRecursion (Contains all) (waiting_in book.core.state.inboxes)) (sym is_sent) (each_left (waiting_in book.core.state.inboxes) brings);
} ∣₁

-- ---- the turns of a plan

module _ (sent : List Request) where
  pub first_brings : (turns rest : List Turn) (turn : Turn) → turns ≡ turn ∷ rest → ∥ AllByRecursion (Contains sent) (plan_arrivals turns) ∥₁ → ∥ AllByRecursion (Contains sent) (turn_arrival turn) ∥₁
  first_brings turns rest turn is h = ∥∥₁_map h (λ all. all_front (Contains sent) (turn_arrival turn) (plan_arrivals rest) (subst (λ (ts : List Turn). AllByRecursion (Contains sent) (plan_arrivals ts)) is all))

  pub rest_brings : (turns rest : List Turn) (turn : Turn) → turns ≡ turn ∷ rest → ∥ AllByRecursion (Contains sent) (plan_arrivals turns) ∥₁ → ∥ AllByRecursion (Contains sent) (plan_arrivals rest) ∥₁
  rest_brings turns rest turn is h = ∥∥₁_map h (λ all. all_back (Contains sent) (turn_arrival turn) (plan_arrivals rest) (subst (λ (ts : List Turn). AllByRecursion (Contains sent) (plan_arrivals ts)) is all))

  told_push : (results : List (Result Answer Refusal)) (result : Result Answer Refusal) → AllByRecursion (IsAskedFor sent) (receipts_of results) → AllByRecursion (IsAskedFor sent) (receipt_of result) → AllByRecursion (IsAskedFor sent) (receipts_of (results ++ result ∷ []))
  told_push [] result all one = all_append (IsAskedFor sent) (receipt_of result) [] one tt
  told_push (r ∷ results) result all one =
      all_append (IsAskedFor sent) (receipt_of r) (receipts_of (results ++ result ∷ [])) (all_front (IsAskedFor sent) (receipt_of r) (receipts_of results) all)
      (told_push results result (all_back (IsAskedFor sent) (receipt_of r) (receipts_of results) all) one)

  -- one result more was asked for
  pub asked_more : (results : List (Result Answer Refusal)) (result : Result Answer Refusal) → ∥ AllByRecursion (IsAskedFor sent) (receipts_of results) ∥₁ → ∥ AllByRecursion (IsAskedFor sent) (receipt_of result) ∥₁ → ∥ AllByRecursion (IsAskedFor sent) (receipts_of (results ++ result ∷ [])) ∥₁
  asked_more results result all one = both all one (λ a b. told_push results result a b)

  told_all_push : (answers : List (List (Result Answer Refusal))) (results : List (Result Answer Refusal)) → AllByRecursion (IsAskedFor sent) (receipts_of_all answers) → AllByRecursion (IsAskedFor sent) (receipts_of results) → AllByRecursion (IsAskedFor sent) (receipts_of_all (answers ++ results ∷ []))
  told_all_push [] results all one = all_append (IsAskedFor sent) (receipts_of results) [] one tt
  told_all_push (r ∷ answers) results all one =
      all_append (IsAskedFor sent) (receipts_of r) (receipts_of_all (answers ++ results ∷ [])) (all_front (IsAskedFor sent) (receipts_of r) (receipts_of_all answers) all)
      (told_all_push answers results (all_back (IsAskedFor sent) (receipts_of r) (receipts_of_all answers) all) one)

  -- one thread more was joined
  pub asked_gathered : {B : Type 0} (g : B → List (Result Answer Refusal)) (vs now : List B) (v : B) → now ≡ vs ++ v ∷ [] → ∥ AllByRecursion (IsAskedFor sent) (receipts_of_all (map g vs)) ∥₁ → ∥ AllByRecursion (IsAskedFor sent) (receipts_of (g v)) ∥₁ → ∥ AllByRecursion (IsAskedFor sent) (receipts_of_all (map g now)) ∥₁
  asked_gathered g vs now v grown all one = rw (grown, map-append g vs (v ∷ [])) (both all one (λ a b. told_all_push (map g vs) (g v) a b))

-- each plan brings what all bring
each_of : (sent : List Request) (plans : List (List Turn)) → AllByRecursion (Contains sent) (plans_arrivals plans) → EachIsSent sent plans
each_of sent [] h = tt
each_of sent (turns ∷ plans) h = (all_front (Contains sent) (plan_arrivals turns) (plans_arrivals plans) h, each_of sent plans (all_back (Contains sent) (plan_arrivals turns) (plans_arrivals plans) h))

pub each_brings : (sent waits : List Request) (plans : List (List Turn)) → sent ≡ waits ++ plans_arrivals plans → EachIsSent sent plans
each_brings sent waits plans is = each_of sent plans (subst (λ (all : List Request). AllByRecursion (Contains all) (plans_arrivals plans)) (sym is) (each_right waits (plans_arrivals plans)))

-- ---- the end of a run

-- a book that goes on from what was handed in, of whose requests it serves, is that of one thread
pub one_of : (first book : KeptState) (sent : List Request) (told : List Receipt) → Continues first book → Serves first.core.state.tree.limit sent first.history book → AllByRecursion (IsAskedFor sent) told
    → ((opening : Opening) (past : List Entry) → StandsBehind opening past first → Agree (past ++ book.history) (places_of first) told)
    → (opening : Opening) (past : List Entry) → StandsBehind opening past first → IsOneThread first.core.state.tree.limit opening (past ++ first.history) (past ++ book.history) sent told
one_of first book sent told goes serves asked agree opening past given =
    let begun = first.history in
    let more = goes.begins.0 in
    let left : drop (length begun) book.history ≡ more = ap (drop (length begun)) goes.begins.1 ∙ drop-append-le (length begun) begun more (search rules) ∙ ap (λ (es : List Entry). es ++ more) (drop_all (length begun) begun (search rules)) in
    record {
      more = more;
      grows = ap (λ (es : List Entry). past ++ es) goes.begins.1 ∙ sym (append_assoc past begun more);
      legal = subst (λ (n : ℕ). IsLegalFrom n opening (past ++ book.history)) serves.limited (goes.goes_on opening past given).behind.sound.legal;
      asked = subst (AllByRecursion (IsSent sent)) left serves.asked;
      asked_for = asked;
      agree = subst (λ (n : ℕ). Agree (past ++ book.history) n told) (sym (places_behind opening past first given)) (agree opening past given);
    }
