-- What threads keep of exports: one turn more, and one thread more that was joined.
use Rattle.rank_threads.proofs.Common.{Answer, List, Refusal, Result, Turn, [], ap, arith, length, map, map-append, refl, subst, suc, sym, ℕ, ◌++◌, ◌+◌, ◌∙◌, ◌∷◌, ◌≡◌}
use Rattle.std.specs.FinMap as finmap
use Rattle.std.proofs.lemmas.List.{length-map}
use Rattle.mds_types.specs.declared.ids.Rank.{Rank}
use Rattle.rank_threads.specs.OwnTurn.{KeptSoFar}
use Rattle.rank_threads.specs.TookTurn.{PlansTook, TookTurn, TookTurns, of_rank, by_rank, ranked_from}

took_push : (rank : Rank) (before mid after : KeptSoFar) (turns : List Turn) (results : List (Result Answer Refusal)) (turn : Turn) (result : Result Answer Refusal) → TookTurns rank before mid turns results → TookTurn turn rank mid after result
    → TookTurns rank before after (turns ++ turn ∷ []) (results ++ result ∷ [])
took_push rank before mid after [] [] turn result same took = (after, subst (λ (k : KeptSoFar). TookTurn turn rank k after result) same took, refl)
took_push rank before mid after [] (r ∷ results) turn result h took = absurd h
took_push rank before mid after (t ∷ turns) [] turn result h took = absurd h
took_push rank before mid after (t ∷ turns) (r ∷ results) turn result h took = (h.0, h.1, took_push rank h.0 mid after turns results turn result h.2 took)

pub took_more : (rank same : Rank) (before mid after : KeptSoFar) (turns : List Turn) (results now : List (Result Answer Refusal)) (turn : Turn) (result : Result Answer Refusal) → TookTurn turn same mid after result → TookTurns rank before mid turns results → same ≡ rank → now ≡ results ++ result ∷ []
    → TookTurns rank before after (turns ++ turn ∷ []) now
took_more rank same before mid after turns results now turn result took h is grown =
    subst (TookTurns rank before after (turns ++ turn ∷ [])) (sym grown) (took_push rank before mid after turns results turn result h (subst (λ (r : Rank). TookTurn turn r mid after result) is took))

plans_took_more : (plans : List (Rank × List Turn)) (answers : List (List (Result Answer Refusal))) (kept : List KeptSoFar) (plan : Rank × List Turn) (results : List (Result Answer Refusal)) (left : KeptSoFar)
    → PlansTook plans answers kept → TookTurns plan.0 finmap.empty left plan.1 results → PlansTook (plans ++ plan ∷ []) (answers ++ results ∷ []) (kept ++ left ∷ [])
plans_took_more [] [] [] plan results left h took = (took, tt)
plans_took_more [] [] (k ∷ kept) plan results left h took = absurd h
plans_took_more [] (r ∷ answers) kept plan results left h took = absurd h
plans_took_more (p ∷ plans) [] kept plan results left h took = absurd h
plans_took_more (p ∷ plans) (r ∷ answers) [] plan results left h took = absurd h
plans_took_more (p ∷ plans) (r ∷ answers) (k ∷ kept) plan results left h took = (h.0, plans_took_more plans answers kept plan results left h.1 took)

-- one thread more was joined, whose work is that of its turns
pub took_gathered : {A B C : Type 0} (f : A → Rank × List Turn) (g : B → List (Result Answer Refusal)) (k : C → KeptSoFar) (hs : List A) (h : A) (vs vnow : List B) (v : B) (ks know : List C) (x : C)
    → PlansTook (map f hs) (map g vs) (map k ks) → TookTurns (f h).0 finmap.empty (k x) (f h).1 (g v) → vnow ≡ vs ++ v ∷ [] → know ≡ ks ++ x ∷ [] → PlansTook (map f (hs ++ h ∷ [])) (map g vnow) (map k know)
took_gathered f g k hs h vs vnow v ks know x was took grown more =
    rw (grown, more, map-append f hs (h ∷ []), map-append g vs (v ∷ []), map-append k ks (x ∷ [])) (plans_took_more (map f hs) (map g vs) (map k ks) (f h) (g v) (k x) was took)

-- ---- plans in the order of ranks

abbrev nth_rank : ℕ → List Turn → Rank × List Turn
nth_rank n turns = of_rank (record { 0 = n }) turns

pub ranked_more : (first : ℕ) (plans : List (List Turn)) (turns : List Turn) → ranked_from first (plans ++ turns ∷ []) ≡ ranked_from first plans ++ nth_rank (first + length plans) turns ∷ []
ranked_more first [] turns = ap (λ (n : ℕ). nth_rank n turns ∷ []) (let e : first ≡ first + 0 = omega arith in e)
ranked_more first (other ∷ plans) turns =
    ap (λ (rest : List (Rank × List Turn)). nth_rank first other ∷ rest)
    (ranked_more (suc first) plans turns ∙ ap (λ (n : ℕ). ranked_from (suc first) plans ++ nth_rank n turns ∷ []) (let e : suc first + length plans ≡ first + suc (length plans) = omega arith in e))

-- one plan more, at the rank behind those of the others
pub ranked_push : {A B : Type 0} (f : A → Rank × List Turn) (g : B → List Turn) (ps now : List A) (p : A) (vs : List B) (v : B) (rank : ℕ)
    → map f ps ≡ by_rank (map g vs) → rank ≡ length vs → f p ≡ of_rank (record { 0 = rank }) (g v) → now ≡ ps ++ p ∷ [] → map f now ≡ by_rank (map g (vs ++ v ∷ []))
ranked_push f g ps now p vs v rank was is at grown =
    let count : length (map g vs) ≡ length vs = length-map vs g in
    let place : rank ≡ 0 + length (map g vs) = omega (arith, is, count) in
    let last : f p ≡ nth_rank (0 + length (map g vs)) (g v) = at ∙ ap (λ (n : ℕ). nth_rank n (g v)) place in
    rw (grown, map-append f ps (p ∷ []), map-append g vs (v ∷ [])) ((λ i. was i ++ last i ∷ []) ∙ sym (ranked_more 0 (map g vs) (g v)))

-- one plan more, with turns of its own
pub listed_push : {A B C : Type 0} (f : A → C) (g : B → C) (ps now : List A) (p : A) (vs : List B) (v : B) → map f ps ≡ map g vs → f p ≡ g v → now ≡ ps ++ p ∷ [] → map f now ≡ map g (vs ++ v ∷ [])
listed_push f g ps now p vs v was at grown = rw (grown, map-append f ps (p ∷ []), map-append g vs (v ∷ [])) (λ i. was i ++ at i ∷ [])
