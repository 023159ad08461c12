-- One turn more.
use Rattle.rank_threads.proofs.Common.{Agree, Answer, AreAnswered, Bool, Continues, Entry, FitsTurn, KeptState, List, Opening, PlansAnswered, Receipt, Refusal, Result, StandAmong, StandsBehind, Turn, [], ap, arith, cond, drop, drop_more, false, first_in, first_places, firsts, firsts_of_all, get_or, length, map, map-append, places_of, receipt_of, receipts_of, receipts_of_all, refl, subst, sym, true, ℕ, ◌++◌, ◌+◌, ◌<◌, ◌∙◌, ◌∷◌, ◌≡◌}
use Rattle.cluster_core.proofs.Forgotten.{places_behind}
use Rattle.rank_threads.proofs.ReceiptLaws.{stand_in_all}

pub answered_more : (turns : List Turn) (results : List (Result Answer Refusal)) (turn : Turn) (result : Result Answer Refusal) → AreAnswered turns results → FitsTurn turn result → AreAnswered (turns ++ turn ∷ []) (results ++ result ∷ [])
answered_more [] [] turn result h fits = (fits, tt)
answered_more [] (r ∷ results) turn result h fits = absurd h
answered_more (t ∷ turns) [] turn result h fits = absurd h
answered_more (t ∷ turns) (r ∷ results) turn result h fits = (h.0, answered_more turns results turn result h.1 fits)

pub firsts_more : (results : List (Result Answer Refusal)) (result : Result Answer Refusal) → firsts (results ++ result ∷ []) ≡ firsts results + first_in result
firsts_more [] result = omega arith
firsts_more (r ∷ results) result = omega (arith, firsts_more results result)

pub plans_more : (plans : List (List Turn)) (answers : List (List (Result Answer Refusal))) (turns : List Turn) (results : List (Result Answer Refusal))
    → PlansAnswered plans answers → AreAnswered turns results → PlansAnswered (plans ++ turns ∷ []) (answers ++ results ∷ [])
plans_more [] [] turns results h fits = (fits, tt)
plans_more [] (r ∷ answers) turns results h fits = absurd h
plans_more (t ∷ plans) [] turns results h fits = absurd h
plans_more (t ∷ plans) (r ∷ answers) turns results h fits = (h.0, plans_more plans answers turns results h.1 fits)

pub firsts_all_more : (answers : List (List (Result Answer Refusal))) (results : List (Result Answer Refusal)) → firsts_of_all (answers ++ results ∷ []) ≡ firsts_of_all answers + firsts results
firsts_all_more [] results = omega arith
firsts_all_more (r ∷ answers) results = omega (arith, firsts_all_more answers results)

-- one thread more was joined, whose work answers its turns
pub gathered_more : {A B : Type 0} (f : A → List Turn) (g : B → List (Result Answer Refusal)) (hs : List A) (h : A) (vs now : List B) (v : B)
    → PlansAnswered (map f hs) (map g vs) → AreAnswered (f h) (g v) → now ≡ vs ++ v ∷ [] → PlansAnswered (map f (hs ++ h ∷ [])) (map g now)
gathered_more f g hs h vs now v was fits grown = rw (grown, map-append f hs (h ∷ []), map-append g vs (v ∷ [])) (plans_more (map f hs) (map g vs) (f h) (g v) was fits)

pub counted_more : {B : Type 0} (g : B → List (Result Answer Refusal)) (vs now : List B) (v : B) → now ≡ vs ++ v ∷ [] → firsts_of_all (map g now) ≡ firsts_of_all (map g vs) + firsts (g v)
counted_more g vs now v grown = rw (grown, map-append g vs (v ∷ [])) (firsts_all_more (map g vs) (g v))

-- the receipts of one result more
pub told_more : (results : List (Result Answer Refusal)) (i : ℕ) (d : Result Answer Refusal) → i < length results → receipts_of (drop i results) ≡ receipt_of (get_or results i d) ++ receipts_of (drop (i + 1) results)
told_more results i d below = ap receipts_of (drop_more results i d below)

pub told_all : {B : Type 0} (g : B → List (Result Answer Refusal)) (answers : List B) (i : ℕ) (d : B) → i < length answers
    → receipts_of_all (map g (drop i answers)) ≡ receipts_of (g (get_or answers i d)) ++ receipts_of_all (map g (drop (i + 1) answers))
told_all g answers i d below = ap (λ xs. receipts_of_all (map g xs)) (drop_more answers i d below)

one_place : (b : Bool) (place : ℕ) (places all : List ℕ) (n : ℕ) → length all ≡ length places + n → length (cond b (place ∷ all) all) ≡ length (cond b (place ∷ places) places) + n
one_place true place places all n h = omega (arith, h)
one_place false place places all n h = omega (arith, h)

sums : (a b c d : ℕ) → a ≡ b → c ≡ d → a + c ≡ b + d
sums a b c d p q = omega (arith, p, q)

first_places-append : (rs ss : List Receipt) → length (first_places (rs ++ ss)) ≡ length (first_places rs) + length (first_places ss)
first_places-append [] ss = omega arith
first_places-append (r ∷ rs) ss = one_place r.first r.place (first_places rs) (first_places (rs ++ ss)) (length (first_places ss)) (first_places-append rs ss)

told_firsts : (results : List (Result Answer Refusal)) → length (first_places (receipts_of results)) ≡ firsts results
told_firsts [] = refl
told_firsts (result ∷ results) = first_places-append (receipt_of result) (receipts_of results) ∙ ap (λ n. first_in result + n) (told_firsts results)

-- the receipts marked first are as many as the first replies
pub told_firsts_all : (answers : List (List (Result Answer Refusal))) → length (first_places (receipts_of_all answers)) ≡ firsts_of_all answers
told_firsts_all [] = refl
told_firsts_all (results ∷ answers) = first_places-append (receipts_of results) (receipts_of_all answers) ∙ sums (length (first_places (receipts_of results))) (firsts results) (length (first_places (receipts_of_all answers))) (firsts_of_all answers) (told_firsts results) (told_firsts_all answers)

-- receipts that stand among the entries that aren't forgotten agree with all, where their count is that of the entries that came
pub agree_of : (first book : KeptState) (from : ℕ) (receipts : List Receipt) (answers : List (List (Result Answer Refusal))) → Continues first book → from ≡ places_of first → receipts ≡ receipts_of_all answers → places_of book ≡ places_of first + firsts_of_all answers
    → StandAmong book.core.state.sessions.forgotten book.history from receipts → (opening : Opening) (past : List Entry) → StandsBehind opening past first → Agree (past ++ book.history) (places_of first) receipts
agree_of first book from receipts answers goes is_from told counted stand opening past given =
    let on = goes.goes_on opening past given in
    let among : StandAmong (length past) book.history (places_of first) receipts = subst (λ n. StandAmong n book.history (places_of first) receipts) (sym on.behind.aside.before) (subst (λ n. StandAmong book.core.state.sessions.forgotten book.history n receipts) is_from stand) in
    record {
      stand = (stand_in_all past book.history (places_of first) receipts among).0;
      as_many = let n = ap (λ rs. length (first_places rs)) told ∙ told_firsts_all answers in omega (arith, n, counted, places_behind opening past book on);
    }
