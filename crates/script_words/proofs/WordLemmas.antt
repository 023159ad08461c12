-- The first word of a line.
use Rattle.script_words.proofs.Common.{Bool, List, [], ap, arith, cond, drop, false, filter, is_not_space, is_space, is_word, length, not, one-add, onto_first, prefix_len, refl, slice_split, sym, take, true, ℕ, ◌+◌, ◌<◌, ◌∙◌, ◌∷◌, ◌≡◌}
use Rattle.script_words.specs.Words.{words_of}

-- spaces before a word say nothing
words_of-skip : (bytes : List ℕ) → words_of bytes ≡ words_of (drop (prefix_len is_space bytes) bytes)
unfolding words_of
words_of-skip [] = refl
words_of-skip (byte ∷ bytes) = at (is_space byte) refl (words_of-skip bytes)
  where
    at : (b : Bool) → is_space byte ≡ b → filter is_word (slice_split is_space bytes) ≡ filter is_word (slice_split is_space (drop (prefix_len is_space bytes) bytes))
        → filter is_word (cond b ([] ∷ slice_split is_space bytes) (onto_first byte (slice_split is_space bytes)))
        ≡ filter is_word (slice_split is_space (drop (cond b (1 + prefix_len is_space bytes) 0) (byte ∷ bytes)))
    at true known same = rw one-add same
    at false known same = rw known refl

-- what follows the spaces begins with none
no_space_left : (bytes : List ℕ) (byte : ℕ) (rest : List ℕ) → drop (prefix_len is_space bytes) bytes ≡ byte ∷ rest → is_space byte ≡ false
no_space_left [] byte rest e = cc
no_space_left (a ∷ bytes) byte rest e = at (is_space a) refl (λ h. no_space_left bytes byte rest h) e
  where
    at : (b : Bool) → is_space a ≡ b → (drop (prefix_len is_space bytes) bytes ≡ byte ∷ rest → is_space byte ≡ false)
        → drop (cond b (1 + prefix_len is_space bytes) 0) (a ∷ bytes) ≡ byte ∷ rest → is_space byte ≡ false
    at true known again h = again (rw one-add at h)
    at false known again h = let same : byte ≡ a = cc in ap is_space same ∙ known

-- what follows the first piece: nothing, or the pieces after a space
abbrev pieces_after : List ℕ → List (List ℕ)
pieces_after [] = []
pieces_after (byte ∷ bytes) = slice_split is_space bytes

-- the first piece, and those that follow it
split_first : (bytes : List ℕ) → slice_split is_space bytes ≡ take (prefix_len is_not_space bytes) bytes ∷ pieces_after (drop (prefix_len is_not_space bytes) bytes)
split_first [] = refl
split_first (byte ∷ bytes) = at (is_space byte) (split_first bytes)
  where
    at : (b : Bool) → slice_split is_space bytes ≡ take (prefix_len is_not_space bytes) bytes ∷ pieces_after (drop (prefix_len is_not_space bytes) bytes)
        → cond b ([] ∷ slice_split is_space bytes) (onto_first byte (slice_split is_space bytes))
        ≡ take (cond (not b) (1 + prefix_len is_not_space bytes) 0) (byte ∷ bytes) ∷ pieces_after (drop (cond (not b) (1 + prefix_len is_not_space bytes) 0) (byte ∷ bytes))
    at true first = refl
    at false first = rw (one-add, first) refl

-- the pieces after the first are the words that follow it
words_after : (bytes : List ℕ) → filter is_word (pieces_after (drop (prefix_len is_not_space bytes) bytes)) ≡ words_of (drop (prefix_len is_not_space bytes) bytes)
unfolding words_of
words_after [] = refl
words_after (byte ∷ bytes) = at (is_space byte) refl (words_after bytes)
  where
    at : (b : Bool) → is_space byte ≡ b
        → filter is_word (pieces_after (drop (prefix_len is_not_space bytes) bytes)) ≡ filter is_word (slice_split is_space (drop (prefix_len is_not_space bytes) bytes))
        → filter is_word (pieces_after (drop (cond (not b) (1 + prefix_len is_not_space bytes) 0) (byte ∷ bytes)))
        ≡ filter is_word (slice_split is_space (drop (cond (not b) (1 + prefix_len is_not_space bytes) 0) (byte ∷ bytes)))
    at true known same = rw known refl
    at false known same = rw one-add same

-- a first piece that doesn't begin with a space is a word
word_at : (byte : ℕ) (bytes : List ℕ) → is_space byte ≡ false
    → words_of (byte ∷ bytes) ≡ take (prefix_len is_not_space (byte ∷ bytes)) (byte ∷ bytes) ∷ words_of (drop (prefix_len is_not_space (byte ∷ bytes)) (byte ∷ bytes))
unfolding words_of
word_at byte bytes known =
    ap (filter is_word) (split_first (byte ∷ bytes)) ∙ at (not (is_space byte)) (ap not known) (words_after (byte ∷ bytes))
  where
    at : (b : Bool) → b ≡ true
        → filter is_word (pieces_after (drop (cond b (1 + prefix_len is_not_space bytes) 0) (byte ∷ bytes))) ≡ filter is_word (slice_split is_space (drop (cond b (1 + prefix_len is_not_space bytes) 0) (byte ∷ bytes)))
        → filter is_word (take (cond b (1 + prefix_len is_not_space bytes) 0) (byte ∷ bytes) ∷ pieces_after (drop (cond b (1 + prefix_len is_not_space bytes) 0) (byte ∷ bytes)))
        ≡ take (cond b (1 + prefix_len is_not_space bytes) 0) (byte ∷ bytes) ∷ filter is_word (slice_split is_space (drop (cond b (1 + prefix_len is_not_space bytes) 0) (byte ∷ bytes)))
    at true e same = rw one-add (ap (λ words. (byte ∷ take (prefix_len is_not_space bytes) bytes) ∷ words) (rw one-add at same))
    at false e same = cc

-- only spaces
pub no_word : (bytes front : List ℕ) (n : ℕ) → n ≡ prefix_len is_space bytes → front ≡ drop n bytes → length front ≡ 0 → words_of bytes ≡ []
unfolding words_of
no_word bytes [] n start at empty = words_of-skip bytes ∙ ap words_of (sym (at ∙ ap (λ k. drop k bytes) start))
no_word bytes (byte ∷ front) n start at empty = absurd (omega arith)

-- the word after the spaces, and the rest
pub first_word : (bytes front : List ℕ) (n m : ℕ) → n ≡ prefix_len is_space bytes → front ≡ drop n bytes → 0 < length front → m ≡ prefix_len is_not_space front
    → words_of bytes ≡ take m front ∷ words_of (drop m front)
first_word bytes [] n m start at some end = absurd (omega arith)
first_word bytes (byte ∷ front) n m start at some end =
    let here : drop (prefix_len is_space bytes) bytes ≡ byte ∷ front = sym (at ∙ ap (λ k. drop k bytes) start) in
    words_of-skip bytes ∙ ap words_of here ∙ word_at byte front (no_space_left bytes byte front here)
    ∙ ap (λ k. take k (byte ∷ front) ∷ words_of (drop k (byte ∷ front))) (sym end)
