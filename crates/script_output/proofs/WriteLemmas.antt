-- One more write appended what it took.
use Rattle.script_output.proofs.Common.{Appends, List, None, Option, Some, ap, append_assoc, arith, drop, length, length-drop, subst, sym, take, take-add, ℕ, ◌++◌, ◌+◌, ◌∙◌, ◌≡◌, ◌≤◌}

-- what two writes appended, one after the other
appends_both : (old mid new : Option (List ℕ)) (first second : List ℕ) → Appends old mid first → Appends mid new second → Appends old new (first ++ second)
appends_both None mid new first second p q = tt
appends_both (Some x) None new first second p q = absurd p
appends_both (Some x) (Some y) None first second p q = absurd q
appends_both (Some x) (Some y) (Some z) first second p q = q ∙ ap (λ bytes. bytes ++ second) p ∙ append_assoc x first second

-- the first bytes were written, and then some of the rest
pub appends_more : (old mid new : Option (List ℕ)) (bytes rest : List ℕ) (done taken : ℕ) → done ≤ length bytes → rest ≡ drop done bytes → taken ≤ length rest
    → Appends old mid (take done bytes) → Appends mid new (take taken rest)
    → record { within : done + taken ≤ length bytes; written : Appends old new (take (done + taken) bytes) }
appends_more old mid new bytes rest done taken within after some p q =
    let left = length-drop done bytes in
    let same = ap length after in
    let joined : take (done + taken) bytes ≡ take done bytes ++ take taken rest = take-add done taken bytes ∙ ap (λ part. take done bytes ++ take taken part) (sym after) in
    record { within = omega arith; written = subst (Appends old new) (sym joined) (appends_both old mid new (take done bytes) (take taken rest) p q) }
