-- Fields that are written are read again, and fields that are read are those that were written.
use Rattle.std.proofs.Common.{length, get_or, ◌≡◌, ℕ, zero, suc, ◌+◌, ◌^◌, ◌<◌, List, [], ◌∷◌, ◌++◌, Option, Some, refl, sym, ap, subst, ◌∙◌, append_assoc, arith}
use Rattle.std.proofs.Math.Seq.{get_or-append_seam}
use Rattle.std.proofs.lemmas.List.{length-append}
use Rattle.std.proofs.lemmas.Option.{same_Some}
use Rattle.byteorder.specs.Endian.{little_bytes}
use Rattle.byteorder.specs.Numbers.{length-bytes_low_first}
use Rattle.dirfrag_codec.specs.EntryRecord.{fields_bytes}
use Rattle.dirfrag_codec.specs.Reading.{◌>>=◌, number_at, numbers_at}
use Rattle.dirfrag_codec.proofs.Front.{IsBytes, IsWidth, bind_some, number_again, number_takes}

-- there is a number for each width, and it has no more bytes
abbrev pub Fit : List ℕ → List ℕ → Type 0
Fit [] [] = Unit {0}
Fit [] (n ∷ numbers) = ⊥
Fit (width ∷ widths) [] = ⊥
Fit (width ∷ widths) (n ∷ numbers) = (n < 256 ^ width) × Fit widths numbers

pub numbers_again : (widths numbers rest : List ℕ) → Fit widths numbers → numbers_at widths (fields_bytes widths numbers ++ rest) ≡ Some (numbers, rest)
numbers_again [] [] rest fit = refl
numbers_again [] (n ∷ numbers) rest fit = absurd fit
numbers_again (width ∷ widths) [] rest fit = absurd fit
numbers_again (width ∷ widths) (n ∷ numbers) rest (fits, more) =
    let tail : List ℕ = fields_bytes widths numbers ++ rest in
    let assoc : (little_bytes width n ++ fields_bytes widths numbers) ++ rest ≡ little_bytes width n ++ tail = append_assoc (little_bytes width n) (fields_bytes widths numbers) rest in
    let first : number_at width ((little_bytes width n ++ fields_bytes widths numbers) ++ rest) ≡ Some (n, tail) = ap (number_at width) assoc ∙ number_again width n tail fits in
    let others : numbers_at widths tail ≡ Some (numbers, rest) = numbers_again widths numbers rest more in
    ap (λ (r : Option (ℕ × List ℕ)). r >>= λ x. numbers_at widths x.1 >>= λ m. Some (x.0 ∷ m.0, m.1)) first
    ∙ ap (λ (r : Option (List ℕ × List ℕ)). r >>= λ m. Some (n ∷ m.0, m.1)) others

-- widths of numbers whose bytes are those that were there
abbrev pub AreWidths : List ℕ → Type 0
AreWidths [] = Unit {0}
AreWidths (width ∷ widths) = IsWidth width × AreWidths widths

pub record Read (widths bytes numbers rest : List ℕ) : Type 0 where
  pub fit : Fit widths numbers
  pub parts : bytes ≡ fields_bytes widths numbers ++ rest
  pub rest_fits : IsBytes rest

pub numbers_take : (widths bytes numbers rest : List ℕ) → AreWidths widths → IsBytes bytes → numbers_at widths bytes ≡ Some (numbers, rest) → Read widths bytes numbers rest
numbers_take [] bytes numbers rest known fits e =
    let same : ([], bytes) ≡ (numbers, rest) = same_Some ([], bytes) (numbers, rest) e in
    subst (λ (p : List ℕ × List ℕ). Read [] bytes p.0 p.1) same (record { fit = tt; parts = refl; rest_fits = fits })
numbers_take (width ∷ widths) bytes numbers rest (known, more_known) fits e =
    let a = bind_some (number_at width bytes) (λ x. numbers_at widths x.1 >>= λ m. Some (x.0 ∷ m.0, m.1)) (numbers, rest) e in
    let b = bind_some (numbers_at widths a.0.1) (λ m. Some (a.0.0 ∷ m.0, m.1)) (numbers, rest) a.2 in
    let t = number_takes width known bytes a.0.0 a.0.1 fits a.1 in
    let others = numbers_take widths a.0.1 b.0.0 b.0.1 more_known t.0.rest_fits b.1 in
    let same : (a.0.0 ∷ b.0.0, b.0.1) ≡ (numbers, rest) = same_Some (a.0.0 ∷ b.0.0, b.0.1) (numbers, rest) b.2 in
    subst (λ (p : List ℕ × List ℕ). Read (width ∷ widths) bytes p.0 p.1) same (record {
      fit = (t.1, others.fit);
      parts = t.0.parts ∙ ap (λ (x : List ℕ). little_bytes width a.0.0 ++ x) others.parts ∙ sym (append_assoc (little_bytes width a.0.0) (fields_bytes widths b.0.0) b.0.1);
      rest_fits = others.rest_fits;
    })

-- how many bytes numbers of these widths have
abbrev pub total : List ℕ → ℕ
total [] = 0
total (width ∷ widths) = width + total widths

pub length_fields : (widths numbers : List ℕ) → Fit widths numbers → length (fields_bytes widths numbers) ≡ total widths
length_fields [] [] fit = refl
length_fields [] (n ∷ numbers) fit = absurd fit
length_fields (width ∷ widths) [] fit = absurd fit
length_fields (width ∷ widths) (n ∷ numbers) fit =
    omega (arith, length-append (little_bytes width n) (fields_bytes widths numbers), length-bytes_low_first 0 width n, length_fields widths numbers fit.1)

-- the numbers of a list from a place on, so many of them
abbrev pub picked : List ℕ → ℕ → ℕ → List ℕ
picked numbers at zero = []
picked numbers at (suc more) = get_or numbers at 0 ∷ picked numbers (at + 1) more

picked_all : (before numbers : List ℕ) → picked (before ++ numbers) (length before) (length numbers) ≡ numbers
picked_all before [] = refl
picked_all before (n ∷ numbers) =
    let first : get_or (before ++ n ∷ numbers) (length before) 0 ≡ n = get_or-append_seam before n numbers 0 in
    let next : length (before ++ n ∷ []) ≡ length before + 1 = length-append before (n ∷ []) in
    let assoc : (before ++ n ∷ []) ++ numbers ≡ before ++ n ∷ numbers = append_assoc before (n ∷ []) numbers in
    let others : picked (before ++ n ∷ numbers) (length before + 1) (length numbers) ≡ numbers =
    ap (λ (l : List ℕ). picked l (length before + 1) (length numbers)) (sym assoc)
    ∙ ap (λ (k : ℕ). picked ((before ++ n ∷ []) ++ numbers) k (length numbers)) (sym next) ∙ picked_all (before ++ n ∷ []) numbers in
    ap (λ (x : ℕ). x ∷ picked (before ++ n ∷ numbers) (length before + 1) (length numbers)) first ∙ ap (λ (l : List ℕ). n ∷ l) others

as_many : (widths numbers : List ℕ) → Fit widths numbers → length numbers ≡ length widths
as_many [] [] fit = refl
as_many [] (n ∷ numbers) fit = absurd fit
as_many (width ∷ widths) [] fit = absurd fit
as_many (width ∷ widths) (n ∷ numbers) fit = ap suc (as_many widths numbers fit.1)

-- numbers are those at each place, one for each width
pub numbers_are : (widths numbers : List ℕ) → Fit widths numbers → numbers ≡ picked numbers 0 (length widths)
numbers_are widths numbers fit = sym (picked_all [] numbers) ∙ ap (λ (k : ℕ). picked numbers 0 k) (as_many widths numbers fit)
