-- Writes that are made side by side: what the results are of each job, and what is collected of them.
use Rattle.mdcache.proofs.Common.{AllZip, Begun, Contains, Err, IfErr, IfOk, IsReadied, IsSomeAnd, List, MatchOption, MatchResult, NoMemory, None, Ok, Ready, Refusal, Result, Some, Vec, [], length, list_map, ready_of, refl, rules, slice_get, slice_get_read, subst, sym, ◌∷◌, ◌≡◌}
use Rattle.std.proofs.lemmas.Slice.Zip.{AllZip-right}

abbrev Results : Type 0
Results = List (Result Ready Refusal)

-- where all results are writes, they are those of the jobs, in their order
all_made : (begun : List Begun) (made : List Ready)
    → AllZip IsReadied begun (list_map (λ (r : Ready). Ok r) made)
    → made ≡ list_map ready_of begun
all_made [] [] each = refl
all_made [] (r ∷ rs) each = absurd each
all_made (b ∷ bs) [] each = absurd each
all_made (b ∷ bs) (r ∷ rs) (here, rest) = λ i. here i ∷ all_made bs rs rest i

-- what is collected of them: all writes in their order, or why there is none of some job
abbrev pub IsCollected : {Z : Type 0} → Results → Result (Vec Ready Z) Refusal → Type 0
IsCollected results collected = MatchResult collected
    (λ v. (made : List Ready) × (results ≡ list_map Ok made) × (v.items ≡ made))
    (λ reason. Contains results (Err reason))

pub all_encoded : {Z : Type 0} (begun : List Begun) (results : Results) (collected : Result (Vec Ready Z) Refusal)
    → AllZip IsReadied begun results
    → IsCollected results collected
    → IfOk collected (λ v. v.items ≡ list_map ready_of begun)
all_encoded begun results collected each among = search (rules, all_made)

-- none of them is refused but for want of memory
pub refused_for_memory : {Z : Type 0} (begun : List Begun) (results : Results) (collected : Result (Vec Ready Z) Refusal)
    → AllZip IsReadied begun results
    → IsCollected results collected
    → IfErr collected (λ reason. reason ≡ NoMemory)
refused_for_memory begun results (Ok v) each among = tt
refused_for_memory begun results (Err reason) each (k, within, is) =
    let at : slice_get results k ≡ Some (Err reason) = slice_get_read results (length results) k (Err reason) refl within (sym is) in
    let so = subst (λ o. MatchOption o (Unit {0}) (λ r. IsSomeAnd (slice_get begun k) (λ (b : Begun). IsReadied b r))) at (AllZip-right IsReadied begun results each k) in
    elim (slice_get begun k) as (λ o. IsSomeAnd o (λ (b : Begun). IsReadied b (Err reason)) → reason ≡ NoMemory) [ None ↦ λ none. absurd none | Some b ↦ λ is. is ] so
