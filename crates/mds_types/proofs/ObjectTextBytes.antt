-- The bytes of the texts that name objects.
use Rattle.std.proofs.Common.{List, [], ap, ap₂, append-nil, arith, codes, drop, length, length-drop, refl, replicate, set, suc, sym, take, take-append-drop, take_all, zero, ℕ, ◌++◌, ◌+◌, ◌-◌, ◌<◌, ◌^◌, ◌∙◌, ◌∷◌, ◌≡◌, ◌≤◌, false, drop-drop, IsUtf8, IsAscii}
use Rattle.std.proofs.lemmas.Bool.Decides.{nat_tests}
use Rattle.std.proofs.lemmas.List.{drop-set, drop-take, take-replicate}
use Rattle.std.proofs.lemmas.Str.{IsUtf8-append, IsUtf8-from_ascii}
use Rattle.std.specs.Char.{digit_value}
use Rattle.std.specs.Fmt.{digits}
use Rattle.std.specs.Str.Parse.{AllDigits}
use Rattle.mds_types.specs.ObjectText.{word_text}
use Rattle.mds_types.proofs.DigitLaws.{few_digits}
use Rattle.mds_types.proofs.ObjectTextLaws.{hex_digits, word_digits}

-- ---- how long they are

pub hex_few : (n : ℕ) → n < 2 ^ 64 → length (digits 16 false n) ≤ 16
hex_few n fits = few_digits 16 n 15 (omega arith) (omega arith)

pub word_few : (word : ℕ) → word < 2 ^ 32 → length (digits 16 false word) ≤ 8
word_few word fits = few_digits 16 word 7 (omega arith) (omega arith)

-- ---- they are text

small_digit : (c : ℕ) → digit_value c < 16 → c < 128
small_digit c small = grind (arith, nat_tests)

ascii : (ds : List ℕ) → AllDigits 16 ds → IsAscii ds
ascii [] all i = omega arith
ascii (c ∷ cs) all zero = small_digit c all.0
ascii (c ∷ cs) all (suc i) = ascii cs all.1 i

pub hex_utf8 : (n : ℕ) → n < 2 ^ 64 → IsUtf8 (digits 16 false n)
hex_utf8 n fits = IsUtf8-from_ascii _ (ascii _ (hex_digits n fits))

word_utf8 : (word : ℕ) → word < 2 ^ 32 → IsUtf8 (word_text word)
word_utf8 word fits = IsUtf8-from_ascii _ (ascii _ (word_digits word fits))

pub frag_utf8 : (ino word : ℕ) → ino < 2 ^ 64 → word < 2 ^ 32 → IsUtf8 (digits 16 false ino ++ 46 ∷ word_text word)
unfolding lib.Utf8.encode
frag_utf8 ino word few fits =
    let dot : IsUtf8 (46 ∷ []) = (46 ∷ [], (refl, refl)) in
    IsUtf8-append (digits 16 false ino) (46 ∷ word_text word) (hex_utf8 ino few) (IsUtf8-append (46 ∷ []) (word_text word) dot (word_utf8 word fits))

pub tree_utf8 : IsUtf8 (codes ".fragtree")
unfolding lib.Utf8.encode
tree_utf8 = (codes ".fragtree", (refl, refl))

-- ---- how they are put together

-- what stands from a place on, cut from the whole
pub cut : (bytes text : List ℕ) (start : ℕ) → length bytes ≡ 25 → drop start bytes ≡ text → take (25 - start) (drop start bytes) ≡ text
cut bytes text start long is = take_all (25 - start) (drop start bytes) (omega (arith, length-drop start bytes)) ∙ is

-- digits at the end of zeros, with the zeros in front of them
zeros_before : (bytes text : List ℕ) (start : ℕ) → start + length text ≡ 25 → length text ≤ 8 → take start bytes ≡ take start (replicate 25 48) → drop start bytes ≡ text
    → drop 17 bytes ≡ replicate (8 - length text) 48 ++ text
zeros_before bytes text start ends few before written =
    let zeros : ℕ = 8 - length text in
    let at : 17 + zeros ≡ start = omega arith in
    sym (take-append-drop zeros (drop 17 bytes))
    ∙ ap₂ (λ front back. front ++ back)
    (sym (drop-take 17 zeros bytes) ∙ ap (λ n. drop 17 (take n bytes)) at ∙ ap (drop 17) before ∙ sym (ap (λ n. drop 17 (take n (replicate 25 48))) at) ∙ drop-take 17 zeros (replicate 25 48) ∙ take-replicate zeros 8 48 (omega arith))
    (drop-drop zeros 17 bytes ∙ ap (λ n. drop n bytes) at ∙ written)

-- the text of a fragment's object: the digits of its word at the end of zeros, a dot before the last eight, and before it the digits of the inode
pub frag_spelt : (ino word : ℕ) → word < 2 ^ 32 → (first last : List ℕ) (start end : ℕ) → length first ≡ 25 → length last ≡ 25
    → end + length (digits 16 false word) ≡ 25 → take end first ≡ take end (replicate 25 48) → drop end first ≡ digits 16 false word ++ []
    → drop start last ≡ digits 16 false ino ++ drop 16 (set first 16 46)
    → take (25 - start) (drop start last) ≡ digits 16 false ino ++ 46 ∷ word_text word
frag_spelt ino word fits first last start end long longer ends before written is =
    let dot = drop-set first 16 46 (omega arith) in
    let zeros = zeros_before first (digits 16 false word) end ends (word_few word fits) before (written ∙ append-nil (digits 16 false word)) in
    cut last _ start longer (is ∙ ap (λ l. digits 16 false ino ++ l) (dot ∙ ap (λ l. 46 ∷ l) zeros))
