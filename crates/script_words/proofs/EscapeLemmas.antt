-- Reading escapes from the left.
use Rattle.script_words.proofs.Common.{and_parts, list_all, not, true, ◌==◌, List, None, Option, Some, [], ap, append-nil, arith, cond, eqb, false, hex_byte_of, is_some, length, ne_eqb, onto, refl, sym, ℕ, ◌++◌, ◌<◌, ◌∙◌, ◌∷◌, ◌≡◌, ◌≢◌}
use Rattle.script_words.specs.Escapes.{bytes_of}

-- bytes before those of the rest, where the rest stands for any
abbrev pub before : List ℕ → Option (List ℕ) → Option (List ℕ)
before front None = None
before front (Some back) = Some (front ++ back)

-- the end of the word
pub before-nothing : (front rest : List ℕ) (word : Option (List ℕ)) → word ≡ before front (bytes_of rest) → length rest ≡ 0 → Some front ≡ word
unfolding bytes_of
before-nothing front [] word e none = ap Some (sym (append-nil front)) ∙ sym e
before-nothing front (a ∷ rest) word e none = absurd (omega arith)

-- a byte that is no `%` stands for itself
pub bytes_of-plain : (byte : ℕ) (rest word : List ℕ) → word ≡ byte ∷ rest → byte ≢ 37 → bytes_of word ≡ onto (Some byte) (bytes_of rest)
unfolding bytes_of
bytes_of-plain byte rest word e plain = ap bytes_of e ∙ at rest (ne_eqb byte 37 plain)
  where
    at : (rest : List ℕ) → eqb byte 37 ≡ false → bytes_of (byte ∷ rest) ≡ onto (Some byte) (bytes_of rest)
    at [] plain = ap (λ b. onto (cond b None (Some byte)) (Some [])) plain
    at (a ∷ []) plain = ap (λ b. onto (cond b None (Some byte)) (bytes_of (a ∷ []))) plain
    at (a ∷ b ∷ word) plain = ap (λ t. cond t (onto (hex_byte_of a b) (bytes_of word)) (onto (Some byte) (bytes_of (a ∷ b ∷ word)))) plain

-- a word without a `%` stands for itself
pub bytes_of-itself : (word : List ℕ) → list_all (λ byte. not (byte == 37)) word ≡ true → Some word ≡ bytes_of word
unfolding bytes_of
bytes_of-itself [] all = refl
bytes_of-itself (byte ∷ rest) all =
    let parts = and_parts (not (byte == 37)) (list_all (λ b. not (b == 37)) rest) all in
    ap (onto (Some byte)) (bytes_of-itself rest parts.1) ∙ sym (bytes_of-plain byte rest (byte ∷ rest) refl (λ same. apart same parts.0))
  where
    apart : byte ≡ 37 → not (byte == 37) ≡ true → ⊥
    apart same ne = let clash : false ≡ true = sym (ap (λ n. not (n == 37)) same) ∙ ne in absurd cc

-- `%` and two bytes
pub bytes_of-escape : (byte high low : ℕ) (rest rest2 rest3 word : List ℕ) → word ≡ byte ∷ rest → byte ≡ 37 → rest ≡ high ∷ rest2 → rest2 ≡ low ∷ rest3
    → bytes_of word ≡ onto (hex_byte_of high low) (bytes_of rest3)
unfolding bytes_of
bytes_of-escape byte high low rest rest2 rest3 word e percent e2 e3 =
    let whole : word ≡ 37 ∷ high ∷ low ∷ rest3 = cc in
    ap bytes_of whole

-- `%` with less than two bytes after it
pub bytes_of-short : (byte : ℕ) (rest word : List ℕ) → word ≡ byte ∷ rest → byte ≡ 37 → length rest < 2 → bytes_of word ≡ None
unfolding bytes_of
bytes_of-short byte rest word e percent short = ap bytes_of e ∙ ap (λ b. bytes_of (b ∷ rest)) percent ∙ at rest short
  where
    at : (rest : List ℕ) → length rest < 2 → bytes_of (37 ∷ rest) ≡ None
    at [] short = refl
    at (a ∷ []) short = refl
    at (a ∷ b ∷ word) short = absurd (omega arith)

-- a word of which no further byte is read
pub end-escaped : (rest : List ℕ) → (0 < length rest → bytes_of rest ≡ None) → eqb (length rest) 0 ≡ is_some (bytes_of rest)
unfolding bytes_of
end-escaped [] none = refl
end-escaped (a ∷ rest) none = ne_eqb (length (a ∷ rest)) 0 (omega arith) ∙ ap is_some (sym (none (omega arith)))
