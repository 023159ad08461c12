-- Words that are text name objects.
use Rattle.script_text.proofs.Common.{Bool, Err, IsUtf8, IsUtf8-from_is_utf8, List, None, NotCommand, Ok, Some, ap, cond, false, is_utf8, is_utf8-from_IsUtf8, refl, true, wanted, ℕ, ◌≡◌}
use Rattle.script_text.specs.StoreCommands.{text_name_of}

pub named : (word : List ℕ) → IsUtf8 word → text_name_of word ≡ Ok word
unfolding text_name_of
named word text = ap (λ (b : Bool). wanted (cond b (Some word) None)) (is_utf8-from_IsUtf8 word text)

pub not_named : (word : List ℕ) → (IsUtf8 word → ⊥) → text_name_of word ≡ Err NotCommand
unfolding text_name_of
not_named word other = ap (λ (b : Bool). wanted (cond b (Some word) None)) (is_none (is_utf8 word) refl)
  where
    is_none : (b : Bool) → is_utf8 word ≡ b → is_utf8 word ≡ false
    is_none true is = absurd (other (IsUtf8-from_is_utf8 word is))
    is_none false is = is
