-- The results of the turns of plans.
use Rattle.std.specs.Prelude.{◌≡◌, ◌+◌, ℕ, List, [], ◌∷◌, ◌++◌, length, map, vec_items, Result, Ok, Err}
use Rattle.std.specs.Global.{Vec}
use Rattle.mds_types.specs.declared.refusals.Refusal.{Refusal}
use Rattle.cluster_core.specs.declared.events.Answer.{Answer}
use Rattle.cluster_core.specs.declared.events.Answer.TheVariants.{Nothing}
use Rattle.cluster_core.specs.declared.receipts.Receipt.{Receipt}
use Rattle.cluster_core.specs.OneThread.{first_places, receipt_of, receipts_of}
use Rattle.rank_threads.specs.declared.plans.Turn.{Turn}
use Rattle.rank_threads.specs.declared.plans.Turn.TheVariants.{Step, Commit, Own, Keep}

-- a commit's turn, a rank's own turn, and a turn that keeps bytes have the result Nothing or a refusal
abbrev pub FitsTurn : Turn → Result Answer Refusal → Type 0
FitsTurn (Step event) result = Unit {0}
FitsTurn (Commit ino frag) (Ok answer) = answer ≡ Nothing
FitsTurn (Commit ino frag) (Err reason) = Unit {0}
FitsTurn Own (Ok answer) = answer ≡ Nothing
FitsTurn Own (Err reason) = Unit {0}
FitsTurn (Keep ino frag bytes) (Ok answer) = answer ≡ Nothing
FitsTurn (Keep ino frag bytes) (Err reason) = Unit {0}

-- one result for each turn
abbrev pub AreAnswered : List Turn → List (Result Answer Refusal) → Type 0
AreAnswered [] [] = Unit {0}
AreAnswered [] (result ∷ results) = ⊥
AreAnswered (turn ∷ turns) [] = ⊥
AreAnswered (turn ∷ turns) (result ∷ results) = FitsTurn turn result × AreAnswered turns results

-- one list of results for each plan
abbrev pub PlansAnswered : List (List Turn) → List (List (Result Answer Refusal)) → Type 0
PlansAnswered [] [] = Unit {0}
PlansAnswered [] (results ∷ more) = ⊥
PlansAnswered (turns ∷ plans) [] = ⊥
PlansAnswered (turns ∷ plans) (results ∷ more) = AreAnswered turns results × PlansAnswered plans more

-- vectors as lists
abbrev pub lists_of : {A : Type 0} → List (Vec A) → List (List A)
lists_of vectors = map vec_items vectors

-- the receipts of the replies among the results of all plans
abbrev pub receipts_of_all : List (List (Result Answer Refusal)) → List Receipt
receipts_of_all [] = []
receipts_of_all (results ∷ more) = receipts_of results ++ receipts_of_all more

-- the number of first replies in a result, and in the results of a plan
abbrev pub first_in : Result Answer Refusal → ℕ
first_in result = length (first_places (receipt_of result))

abbrev pub firsts : List (Result Answer Refusal) → ℕ
firsts [] = 0
firsts (result ∷ results) = first_in result + firsts results

-- the number of first replies in all plans
abbrev pub firsts_of_all : List (List (Result Answer Refusal)) → ℕ
firsts_of_all [] = 0
firsts_of_all (results ∷ more) = firsts results + firsts_of_all more
