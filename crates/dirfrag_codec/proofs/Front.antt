-- A field that is read is the field that was written, and what was written is read again.
use Rattle.std.proofs.Common.{◌≡◌, ℕ, suc, ◌+◌, ◌^◌, ◌<◌, ◌≤◌, Bool, true, false, ◌&&◌, cond, ltb, eqb, List, [], ◌∷◌, ◌++◌, length, get_or, take, drop, Option, Some, None, refl, sym, ap, subst, ◌∙◌, append_assoc, arith, inl, inr}
use Rattle.std.proofs.lemmas.Bool.{cases_lt, ltb-false, le-ltb, eqb-true, and_parts}
use Rattle.std.proofs.lemmas.List.{drop_at, take-append-drop, length-append, length-take, get_or-drop, get_or-take, get_or_past}
use Rattle.std.proofs.lemmas.Nat.{le_bytes_2, le_bytes_4, le_bytes_8}
use Rattle.std.proofs.lemmas.Option.{cond_some, same_Some}
use Rattle.byteorder.specs.Endian.{little_bytes, little_number}
use Rattle.byteorder.specs.Numbers.{length-bytes_low_first, little_from-lt, little_from-take, little_number-reads_back}
use Rattle.dirfrag_codec.specs.Reading.{◌>>=◌, after_tag, byte_at, number_at, version_at}

abbrev pub IsBytes : List ℕ → Type 0
IsBytes bytes = (i : ℕ) → get_or bytes i 0 < 256

pub IsBytes-drop : (n : ℕ) (bytes : List ℕ) → IsBytes bytes → IsBytes (drop n bytes)
IsBytes-drop n bytes h i = rw get_or-drop (h (n + i))

pub IsBytes-take : (n : ℕ) (bytes : List ℕ) → IsBytes bytes → IsBytes (take n bytes)
IsBytes-take n bytes h i =
    elim (cases_lt i n) [
      | inl lt ↦ rw (get_or-take n bytes i 0 lt) (h i)
      | inr le ↦ rw (get_or_past (take n bytes) i 0 (omega (arith, length-take n bytes))) (omega arith)
    ]

-- the value of a step that gave one
pub bind_some : {A B : Type 0} (r : Option A) (f : A → Option B) (y : B) → (r >>= f) ≡ Some y → (x : A) × (r ≡ Some x) × (f x ≡ Some y)
bind_some (Some x) f y e = (x, refl, e)
bind_some None f y e = absurd cc

-- a test that did not hold
pub guard_not : {A : Type 0} (b : Bool) (x y : A) → cond b None (Some x) ≡ Some y → (b ≡ false) × (x ≡ y)
guard_not true x y e = absurd cc
guard_not false x y e = (refl, cc)

-- what a reader took from the front
pub record Takes (bytes text rest : List ℕ) : Type 0 where
  pub parts : bytes ≡ text ++ rest
  pub rest_fits : IsBytes rest

pub Takes-then : (a x b y c : List ℕ) → Takes a x b → Takes b y c → Takes a (x ++ y) c
Takes-then a x b y c p q = record { parts = p.parts ∙ ap (λ (t : List ℕ). x ++ t) q.parts ∙ sym (append_assoc x y c); rest_fits = q.rest_fits }

pub tag_takes : (letter version : ℕ) (bytes rest : List ℕ) → IsBytes bytes → after_tag letter version bytes ≡ Some rest → Takes bytes (letter ∷ version ∷ []) rest
tag_takes letter version [] rest fits e = absurd cc
tag_takes letter version (a ∷ []) rest fits e = absurd cc
tag_takes letter version (a ∷ b ∷ bytes) rest fits e =
    let g = cond_some (eqb a letter && eqb b version) bytes rest e in
    let w = and_parts (eqb a letter) (eqb b version) g.0 in
    let first : a ≡ letter = eqb-true _ _ w.0 in
    let second : b ≡ version = eqb-true _ _ w.1 in
    record { parts = rw (first, second, g.1) refl; rest_fits = rw (← g.1) (λ i. fits (suc (suc i))) }

-- what stands behind a letter and a version
pub version_takes : (letter : ℕ) (bytes : List ℕ) (version : ℕ) (rest : List ℕ) → IsBytes bytes → version_at letter bytes ≡ Some (version, rest) → Takes bytes (letter ∷ version ∷ []) rest
version_takes letter [] version rest fits e = absurd cc
version_takes letter (a ∷ []) version rest fits e = absurd cc
version_takes letter (a ∷ b ∷ bytes) version rest fits e =
    let g = cond_some (eqb a letter) (b, bytes) (version, rest) e in
    let first : a ≡ letter = eqb-true _ _ g.0 in
    subst (λ (p : ℕ × List ℕ). Takes (a ∷ b ∷ bytes) (letter ∷ p.0 ∷ []) p.1) g.1
    (record { parts = ap (λ (x : ℕ). x ∷ b ∷ bytes) first; rest_fits = λ i. fits (suc (suc i)) })

pub byte_takes : (bytes : List ℕ) (b : ℕ) (rest : List ℕ) → IsBytes bytes → byte_at bytes ≡ Some (b, rest) → Takes bytes (b ∷ []) rest
byte_takes [] b rest fits e = absurd cc
byte_takes (c ∷ bytes) b rest fits e =
    let same : (c, bytes) ≡ (b, rest) = same_Some (c, bytes) (b, rest) e in
    subst (λ (p : ℕ × List ℕ). Takes (c ∷ bytes) (p.0 ∷ []) p.1) same (record { parts = refl; rest_fits = λ i. fits (suc i) })

-- widths at which the bytes of a number that was read are those that were there
abbrev pub IsWidth : ℕ → Type 0
IsWidth n = (bytes : List ℕ) → length bytes ≡ n → IsBytes bytes → little_bytes n (little_number n bytes) ≡ bytes

pub width_1 : IsWidth 1
width_1 [] len fits = absurd (omega (arith, len))
width_1 (b ∷ []) len fits = ap (λ (n : ℕ). n ∷ []) (omega (arith, fits 0))
width_1 (b ∷ c ∷ rest) len fits = absurd (omega (arith, len))

pub width_2 : IsWidth 2
width_2 bytes len fits = le_bytes_2 bytes _ len fits (omega arith)

pub width_4 : IsWidth 4
width_4 bytes len fits = le_bytes_4 bytes _ len fits (omega arith)

pub width_8 : IsWidth 8
width_8 bytes len fits = le_bytes_8 bytes _ len fits (omega arith)

pub number_takes : (n : ℕ) → IsWidth n → (bytes : List ℕ) (x : ℕ) (rest : List ℕ) → IsBytes bytes → number_at n bytes ≡ Some (x, rest) → Takes bytes (little_bytes n x) rest × (x < 256 ^ n)
number_takes n width bytes x rest fits e =
    let g = guard_not (ltb (length bytes) n) (little_number n bytes, drop n bytes) (x, rest) e in
    let long : n ≤ length bytes = ltb-false _ _ g.0 in
    let x-is : little_number n bytes ≡ x = ap (λ (p : ℕ × List ℕ). p.0) g.1 in
    let rest-is : drop n bytes ≡ rest = ap (λ (p : ℕ × List ℕ). p.1) g.1 in
    let same : little_number n (take n bytes) ≡ x = little_from-take 0 n n bytes (omega arith) ∙ x-is in
    let front : little_bytes n x ≡ take n bytes = rw (← same) (width (take n bytes) (omega (arith, length-take n bytes)) (IsBytes-take n bytes fits)) in
    (record { parts = rw (front, ← rest-is) (sym (take-append-drop n bytes)); rest_fits = rw (← rest-is) (IsBytes-drop n bytes fits) }, rw (← x-is) (little_from-lt 0 n bytes fits))

pub number_again : (n x : ℕ) (rest : List ℕ) → x < 256 ^ n → number_at n (little_bytes n x ++ rest) ≡ Some (x, rest)
number_again n x rest lt =
    let len = length-bytes_low_first 0 n x in
    let long : ltb (length (little_bytes n x ++ rest)) n ≡ false = le-ltb _ _ (omega (arith, length-append (little_bytes n x) rest)) in
    rw (long, little_number-reads_back n x rest lt, drop_at (little_bytes n x) rest n len) refl
