-- Laws of the texts that name objects.
use Rattle.std.specs.Prelude.{◌≡◌, ℕ, zero, suc, ◌-◌, ◌^◌, ◌<◌, ◌≤◌, false, List, [], ◌∷◌, ◌++◌, codes, length, replicate, refl}
use Rattle.std.specs.Char.{digit_value}
use Rattle.std.specs.Fmt.{digits, padded_integral, format_spec, char_count}
use Rattle.std.specs.Str.Parse.{AllDigits, digits_value, digits_value_after}
use Rattle.std.proofs.Common.{sym, ap, subst, ◌∙◌, arith, append-nil}
use Rattle.std.proofs.Math.Nat.{pow-le-pow_left}
use Rattle.std.proofs.lemmas.Fmt.{digits_is_IsNumeral}
use Rattle.mds_types.specs.declared.object_names.ObjName.TheVariants.{Frag, Tree}
use Rattle.mds_types.specs.Frag.{Fragment, IsFragment, word_of}
use Rattle.mds_types.specs.ObjectText.{word_text, TextsDiffer}

below_most : (n : ℕ) → n < 2 ^ 64 → n < 16 ^ 64
below_most n fits =
    let low : 2 ≤ 16 = omega arith in
    let most : 2 ^ 64 ≤ 16 ^ 64 = pow-le-pow_left low 64 in
    omega arith

-- a number of 64 bits is written in hexadecimal digits, and is their value
pub hex_digits : (n : ℕ) → n < 2 ^ 64 → AllDigits 16 (digits 16 false n)
hex_digits n fits = (digits_is_IsNumeral 16 false (omega arith) (omega arith) n (below_most n fits)).0.1

pub hex_value : (n : ℕ) → n < 2 ^ 64 → digits_value 16 (digits 16 false n) ≡ n
hex_value n fits = (digits_is_IsNumeral 16 false (omega arith) (omega arith) n (below_most n fits)).1

-- zeros in front are digits, and change no value
zeros_digits : (k : ℕ) (ds : List ℕ) → AllDigits 16 ds → AllDigits 16 (replicate k 48 ++ ds)
zeros_digits zero ds all = all
zeros_digits (suc k) ds all = (omega arith, zeros_digits k ds all)

zeros_value : (k : ℕ) (ds : List ℕ) → digits_value_after 16 0 (replicate k 48 ++ ds) ≡ digits_value_after 16 0 ds
zeros_value zero ds = refl
zeros_value (suc k) ds = zeros_value k ds

pub word_digits : (word : ℕ) → word < 2 ^ 32 → AllDigits 16 (word_text word)
word_digits word fits = zeros_digits (8 - length (digits 16 false word)) (digits 16 false word) (hex_digits word (omega arith))

pub word_value : (word : ℕ) → word < 2 ^ 32 → digits_value 16 (word_text word) ≡ word
word_value word fits = zeros_value (8 - length (digits 16 false word)) (digits 16 false word) ∙ hex_value word (omega arith)

no_dot : (c : ℕ) → c ≡ 46 → digit_value c < 16 → ⊥
no_dot c is small = let here : digit_value 46 < 16 = subst (λ d. digit_value d < 16) is small in omega arith

-- texts of digits, a dot and more have the same digits and the same rest
pub same_parts : (xs ys us vs : List ℕ) → AllDigits 16 xs → AllDigits 16 ys → xs ++ 46 ∷ us ≡ ys ++ 46 ∷ vs → (xs ≡ ys) × (us ≡ vs)
same_parts [] [] us vs p q e = (refl, cc)
same_parts [] (y ∷ ys) us vs p q e = let dot : 46 ≡ y = cc in absurd (no_dot y (sym dot) q.0)
same_parts (x ∷ xs) [] us vs p q e = let dot : x ≡ 46 = cc in absurd (no_dot x dot p.0)
same_parts (x ∷ xs) (y ∷ ys) us vs p q e =
    let head : x ≡ y = cc in
    let rest = same_parts xs ys us vs p.1 q.1 cc in
    ((λ i. head i ∷ rest.0 i), rest.1)

pub word_fits : (f : Fragment) → IsFragment f → word_of f < 2 ^ 32
word_fits f h = omega (arith, h.few_bits, h.in_range)

same_ino : (i j : ℕ) → i < 2 ^ 64 → j < 2 ^ 64 → digits 16 false i ≡ digits 16 false j → i ≡ j
same_ino i j p q e = sym (hex_value i p) ∙ ap (digits_value 16) e ∙ hex_value j q

same_frag : (f g : Fragment) → IsFragment f → IsFragment g → word_text (word_of f) ≡ word_text (word_of g) → f ≡ g
same_frag f g p q e =
    let words : word_of f ≡ word_of g = sym (word_value (word_of f) (word_fits f p)) ∙ ap (digits_value 16) e ∙ word_value (word_of g) (word_fits g q) in
    let bits : f.bits ≡ g.bits = omega (arith, words, p.in_range, q.in_range) in
    let value : f.value ≡ g.value = omega (arith, words, p.in_range, q.in_range) in
    λ i. record { bits = bits i; value = value i }

-- no word is written `fragtree`
pub no_word : (word : ℕ) → word < 2 ^ 32 → word_text word ≡ codes "fragtree" → ⊥
no_word word fits e = let all : AllDigits 16 (codes "fragtree") = subst (AllDigits 16) e (word_digits word fits) in omega (arith, all.1.0)

pub texts_differ : TextsDiffer
texts_differ (Frag i f) (Frag j g) p q e =
    let parts = same_parts (digits 16 false i.0) (digits 16 false j.0) (word_text (word_of f)) (word_text (word_of g)) (hex_digits i.0 p.0) (hex_digits j.0 q.0) e in
    let ino = same_ino i.0 j.0 p.0 q.0 parts.0 in
    let frag = same_frag f g p.1 q.1 parts.1 in
    λ k. Frag (record { 0 = ino k }) (frag k)
texts_differ (Frag i f) (Tree j) p q e =
    let parts = same_parts (digits 16 false i.0) (digits 16 false j.0) (word_text (word_of f)) (codes "fragtree") (hex_digits i.0 p.0) (hex_digits j.0 q) e in
    absurd (no_word (word_of f) (word_fits f p.1) parts.1)
texts_differ (Tree i) (Frag j g) p q e =
    let parts = same_parts (digits 16 false i.0) (digits 16 false j.0) (codes "fragtree") (word_text (word_of g)) (hex_digits i.0 p) (hex_digits j.0 q.0) e in
    absurd (no_word (word_of g) (word_fits g q.1) (sym parts.1))
texts_differ (Tree i) (Tree j) p q e =
    let parts = same_parts (digits 16 false i.0) (digits 16 false j.0) (codes "fragtree") (codes "fragtree") (hex_digits i.0 p) (hex_digits j.0 q) e in
    let ino = same_ino i.0 j.0 p q parts.0 in
    λ k. Tree (record { 0 = ino k })

-- `{:08x}` writes a word so
pub word_padded : (word : ℕ) → padded_integral (format_spec 32 0 4 8 (2 ^ 64 - 1)) false [] (digits 16 false word) ≡ word_text word
unfolding padded_integral char_count
word_padded word =
    let ds = digits 16 false word in
    let short : 8 - length ds - 0 - 0 ≡ 8 - length ds = omega arith in
    ap (λ k. replicate k 48 ++ (ds ++ [])) short ∙ ap (λ t. replicate (8 - length ds) 48 ++ t) (append-nil ds)
