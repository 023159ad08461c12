-- Bytes at the end of a text in memory.
use Rattle.script_output.proofs.Common.{Err, IfOk, IsErr, List, Ok, Pushes, PushesMade, Result, ap, append_assoc, subst, ℕ, ◌++◌, ◌∙◌, ◌≡◌}

-- of an error no more is asked than that the text begins as it was
pub stopped : {E : Type 0} (old mid new begun bytes : List ℕ) (result : Result (Unit {0}) E) → IsErr result → mid ≡ old ++ begun → (rest : List ℕ) × (new ≡ mid ++ rest) → Pushes old new bytes result
stopped old mid new begun bytes (Ok done) never e more = cc
stopped old mid new begun bytes (Err none) is e (rest, more) = (begun ++ rest, more ∙ ap (λ l. l ++ rest) e ∙ append_assoc old begun rest)

-- a text that was made, and what is known of it
pub made : {S E F : Type 0} (bytes_of : S → List ℕ) (old new bytes : List ℕ) (text : Result S E) (result : Result (Unit {0}) F)
    → IfOk text (λ s. bytes_of s ≡ bytes) → PushesMade bytes_of old new text result → Pushes old new bytes result
made bytes_of old new bytes (Ok s) result is pushed = subst (λ b. Pushes old new b result) is pushed
made bytes_of old new bytes (Err none) (Ok done) is never = absurd never
made bytes_of old new bytes (Err none) (Err other) is pushed = pushed
