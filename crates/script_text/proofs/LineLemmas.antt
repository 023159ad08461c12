-- Lines, from the parts that a reader shows.
use Rattle.script_text.proofs.Common.{Bool, Consumes, Err, GivesLine, IfSome, InputEnd, IsFirstLine, IsOfOneLine, IsTooLong, LineEnd, LineFault, List, More, Moves, None, Option, Overflows, Some, StartsWith, [], ap, append-nil, append_assoc, arith, cond, drop, eqb, eqb-true, false, is_not_lf, length, length-append, length-drop, list_all, not, one-add, onto_first, prefix_len, refl, subst, suc, sym, take, take-append-drop, true, ℕ, ◌&&◌, ◌++◌, ◌+◌, ◌<◌, ◌∙◌, ◌∷◌, ◌≡◌, ◌≢◌, ◌≤◌}
use Rattle.script_text.specs.declared.reading.input.LineFault.TheVariants as faults
use Rattle.script_text.specs.Input.{lines_of}

-- a byte of one line, and the bytes after it
line_parts : (byte : ℕ) (line : List ℕ) → IsOfOneLine (byte ∷ line) → (is_not_lf byte ≡ true) × IsOfOneLine line
line_parts byte line e = at (is_not_lf byte) e
  where
    at : (b : Bool) → (b && list_all is_not_lf line) ≡ true → (b ≡ true) × IsOfOneLine line
    at true e = (refl, e)
    at false e = cc

-- parts of one line in a row
one_line-append : (part more : List ℕ) → IsOfOneLine part → IsOfOneLine more → IsOfOneLine (part ++ more)
one_line-append [] more one two = two
one_line-append (byte ∷ part) more one two =
    let p = line_parts byte part one in
    rw p.0 (one_line-append part more p.1 two)

-- a byte before the first line
lines_of-cons : (byte : ℕ) (bytes : List ℕ) → is_not_lf byte ≡ true → lines_of (byte ∷ bytes) ≡ onto_first byte (lines_of bytes)
unfolding lines_of
lines_of-cons byte bytes known = at (eqb byte 10) known
  where
    at : (b : Bool) → not b ≡ true → cond b ([] ∷ lines_of bytes) (onto_first byte (lines_of bytes)) ≡ onto_first byte (lines_of bytes)
    at true e = cc
    at false e = refl

-- a line that LF ends
lines_of-line : (line rest : List ℕ) → IsOfOneLine line → lines_of (line ++ 10 ∷ rest) ≡ line ∷ lines_of rest
unfolding lines_of
lines_of-line [] rest one = refl
lines_of-line (byte ∷ line) rest one =
    let p = line_parts byte line one in
    lines_of-cons byte (line ++ 10 ∷ rest) p.0 ∙ ap (onto_first byte) (lines_of-line line rest p.1)

-- the last line
lines_of-last : (line : List ℕ) → 0 < length line → IsOfOneLine line → lines_of line ≡ line ∷ lines_of []
unfolding lines_of
lines_of-last [] some one = absurd (omega arith)
lines_of-last (byte ∷ []) some one = lines_of-cons byte [] (line_parts byte [] one).0
lines_of-last (byte ∷ next ∷ line) some one =
    let p = line_parts byte (next ∷ line) one in
    lines_of-cons byte (next ∷ line) p.0 ∙ ap (onto_first byte) (lines_of-last (next ∷ line) (omega arith) p.1)

-- the first of some lines is as long as a part of it
record IsPartOf (part bytes : List ℕ) : Type 0 where
  line : List ℕ
  others : List (List ℕ)
  lines : lines_of bytes ≡ line ∷ others
  long : length part ≤ length line

-- a byte before a first line is a line
onto_first-long : (byte : ℕ) (bytes : List ℕ) (lines : List (List ℕ)) → lines_of bytes ≡ onto_first byte lines → IsPartOf (byte ∷ []) bytes
onto_first-long byte bytes [] e = record { line = byte ∷ []; others = []; lines = e; long = omega arith }
onto_first-long byte bytes (line ∷ others) e = record { line = byte ∷ line; others = others; lines = e; long = omega arith }

lines_of-part : (part rest : List ℕ) → 0 < length part → IsOfOneLine part → IsPartOf part (part ++ rest)
lines_of-part [] rest some one = absurd (omega arith)
lines_of-part (byte ∷ []) rest some one = onto_first-long byte (byte ∷ rest) (lines_of rest) (lines_of-cons byte rest (line_parts byte [] one).0)
lines_of-part (byte ∷ next ∷ part) rest some one =
    let p = line_parts byte (next ∷ part) one in
    let more = lines_of-part (next ∷ part) rest (omega arith) p.1 in
    record {
      line = byte ∷ more.line;
      others = more.others;
      lines = lines_of-cons byte (next ∷ part ++ rest) p.0 ∙ ap (onto_first byte) more.lines;
      long = omega (arith, more.long);
    }

-- the bytes before an LF are of one line
one_line-front : (bytes : List ℕ) → IsOfOneLine (take (prefix_len is_not_lf bytes) bytes)
one_line-front [] = refl
one_line-front (byte ∷ bytes) = at (is_not_lf byte) refl (one_line-front bytes)
  where
    at : (b : Bool) → is_not_lf byte ≡ b → IsOfOneLine (take (prefix_len is_not_lf bytes) bytes) → IsOfOneLine (take (cond b (1 + prefix_len is_not_lf bytes) 0) (byte ∷ bytes))
    at true known one = rw one-add (rw known one)
    at false known one = refl

-- and an LF follows them, if anything does
lf_after : (bytes : List ℕ) → prefix_len is_not_lf bytes < length bytes → take (prefix_len is_not_lf bytes + 1) bytes ≡ take (prefix_len is_not_lf bytes) bytes ++ 10 ∷ []
lf_after [] more = absurd (omega arith)
lf_after (byte ∷ bytes) more = at (is_not_lf byte) refl more (λ some. lf_after bytes some)
  where
    at : (b : Bool) → is_not_lf byte ≡ b → cond b (1 + prefix_len is_not_lf bytes) 0 < length (byte ∷ bytes)
        → (prefix_len is_not_lf bytes < length bytes → take (prefix_len is_not_lf bytes + 1) bytes ≡ take (prefix_len is_not_lf bytes) bytes ++ 10 ∷ [])
        → take (cond b (1 + prefix_len is_not_lf bytes) 0 + 1) (byte ∷ bytes) ≡ take (cond b (1 + prefix_len is_not_lf bytes) 0) (byte ∷ bytes) ++ 10 ∷ []
    at true known more again =
        let n = prefix_len is_not_lf bytes in
        let longer : 1 + n + 1 ≡ suc (n + 1) = omega arith in
        let shorter : suc n ≡ 1 + n = omega arith in
        ap (λ k. take k (byte ∷ bytes)) longer ∙ ap (λ front. byte ∷ front) (again (omega arith)) ∙ ap (λ k. take k (byte ∷ bytes) ++ 10 ∷ []) shorter
    at false known more again = ap (λ b. b ∷ []) (eqb-true byte 10 (is_lf (eqb byte 10) known))
      where
        is_lf : (b : Bool) → not b ≡ false → b ≡ true
        is_lf true e = refl
        is_lf false e = cc

-- the bytes that were shown before an LF are of one line
pub took_part : (shown part : List ℕ) (len : ℕ) → len ≡ prefix_len is_not_lf shown → part ≡ take len shown → IsOfOneLine part
took_part shown part len end at = subst IsOfOneLine (sym (at ∙ ap (λ k. take k shown) end)) (one_line-front shown)

-- they were taken from the known bytes
pub took_shown : (known left : Option (List ℕ)) (shown part : List ℕ) (len : ℕ) → part ≡ take len shown → Consumes known left (take len shown) → Consumes known left part
took_shown known left shown part len at taken = subst (Consumes known left) (sym at) taken

-- and the LF after them
pub took_line : (known left : Option (List ℕ)) (shown part rest : List ℕ) (len : ℕ) → len ≡ prefix_len is_not_lf shown → part ≡ take len shown → rest ≡ drop len shown
    → length rest ≢ 0 → (len + 1 ≤ length shown → Consumes known left (take (len + 1) shown)) → Consumes known left (part ++ 10 ∷ [])
took_line known left shown part rest len end at after some took =
    let more : len < length shown = omega (arith, length-drop len shown, ap length after) in
    let joined : take (len + 1) shown ≡ part ++ 10 ∷ [] =
    ap (λ k. take (k + 1) shown) end ∙ lf_after shown (subst (λ k. k < length shown) end more) ∙ ap (λ front. front ++ 10 ∷ []) (sym (at ∙ ap (λ k. take k shown) end)) in
    subst (Consumes known left) joined (took (omega arith))

-- a part that has no room
pub overflows : (known : Option (List ℕ)) (shown part rest line : List ℕ) (len : ℕ) → IfSome known (λ bytes. StartsWith bytes shown)
    → len ≡ prefix_len is_not_lf shown → part ≡ take len shown → shown ≡ part ++ rest → 16384 < length line + length part → IfSome known (λ bytes. Overflows bytes line)
overflows None shown part rest line len front end at whole long = tt
overflows (Some bytes) shown part rest line len front end at whole long =
    record {
      part = part;
      rest = rest ++ drop (length shown) bytes;
      front = sym (take-append-drop (length shown) bytes) ∙ ap (λ l. l ++ drop (length shown) bytes) (front ∙ whole) ∙ append_assoc part rest (drop (length shown) bytes);
      one_line = took_part shown part len end at;
      long = long;
    }

-- known bytes that a line was taken from, and then more
taken_more : (known mid left : Option (List ℕ)) (line part : List ℕ) → Consumes known mid line → Consumes mid left part → Consumes known left (line ++ part)
taken_more None mid left line part p q = tt
taken_more (Some x) None left line part p q = absurd p
taken_more (Some x) (Some y) None line part p q = absurd q
taken_more (Some x) (Some y) (Some z) line part p q = p ∙ ap (λ bytes. line ++ bytes) q ∙ sym (append_assoc line part z)

-- a line that an LF ended
ended : (known left : Option (List ℕ)) (line : List ℕ) → IsOfOneLine line → Consumes known left (line ++ 10 ∷ []) → IfSome known (λ bytes. IsFirstLine bytes line left)
ended None left line one taken = tt
ended (Some bytes) None line one taken = absurd taken
ended (Some bytes) (Some rest) line one taken =
    record { rest = rest; left_is = refl; lines = ap lines_of (taken ∙ append_assoc line (10 ∷ []) rest) ∙ lines_of-line line rest one }

pub line_read : (known mid left : Option (List ℕ)) (so_far line : List ℕ) → Consumes known mid so_far → IsOfOneLine so_far → Moves mid left so_far line LineEnd
    → IfSome known (λ bytes. IsFirstLine bytes line left)
line_read known mid left so_far line taken one (part, one_part, longer, moved) =
    ended known left line (subst IsOfOneLine (sym longer) (one_line-append so_far part one one_part))
    (subst (Consumes known left) (sym (append_assoc so_far part (10 ∷ [])) ∙ ap (λ l. l ++ 10 ∷ []) (sym longer)) (taken_more known mid left so_far (part ++ 10 ∷ []) taken moved))

-- a line that the input's end ended
pub last_read : (known mid left : Option (List ℕ)) (so_far line : List ℕ) → Consumes known mid so_far → IsOfOneLine so_far → Moves mid left so_far line InputEnd
    → length line ≢ 0 → IfSome known (λ bytes. IsFirstLine bytes line left)
last_read None mid left so_far line taken one moved some = tt
last_read (Some bytes) None left so_far line taken one moved some = absurd taken
last_read (Some bytes) (Some rest) None so_far line taken one moved some = absurd moved.2
last_read (Some bytes) (Some rest) (Some after) so_far line taken one moved some =
    let none : after ≡ [] = sym moved.2 ∙ moved.1 in
    let whole : bytes ≡ line = taken ∙ ap (λ l. so_far ++ l) moved.1 ∙ append-nil so_far ∙ sym moved.0 in
    record { rest = []; left_is = ap Some none; lines = ap lines_of whole ∙ lines_of-last line (omega arith) (subst IsOfOneLine (sym moved.0) one) }

-- no line is left
pub end_read : (known mid left : Option (List ℕ)) (so_far line : List ℕ) → Consumes known mid so_far → Moves mid left so_far line InputEnd
    → length line ≡ 0 → IfSome known (λ bytes. lines_of bytes ≡ [])
unfolding lines_of
end_read None mid left so_far line taken moved none = tt
end_read (Some bytes) None left so_far line taken moved none = absurd taken
end_read (Some bytes) (Some rest) left so_far [] taken moved none =
    ap lines_of (taken ∙ ap (λ l. l ++ rest) (sym moved.0) ∙ moved.1)
end_read (Some bytes) (Some rest) left so_far (byte ∷ line) taken moved none = absurd (omega arith)

-- a line without end
pub too_long : (known mid : Option (List ℕ)) (so_far : List ℕ) → Consumes known mid so_far → IsOfOneLine so_far → IfSome mid (λ bytes. Overflows bytes so_far)
    → IfSome known (λ bytes. IsTooLong bytes)
too_long None mid so_far taken one over = tt
too_long (Some bytes) None so_far taken one over = absurd taken
too_long (Some bytes) (Some rest) so_far taken one over =
    let size = length-append so_far over.part in
    let long = over.long in
    let whole : bytes ≡ (so_far ++ over.part) ++ over.rest = taken ∙ ap (λ l. so_far ++ l) over.front ∙ sym (append_assoc so_far over.part over.rest) in
    let first = lines_of-part (so_far ++ over.part) over.rest (omega arith) (one_line-append so_far over.part one over.one_line) in
    record { line = first.line; others = first.others; lines = ap lines_of whole ∙ first.lines; long = omega (arith, first.long) }

-- the line grows with each look that goes on
pub grows : (mid left : Option (List ℕ)) (so_far line : List ℕ) → Moves mid left so_far line More → length so_far < length line
grows mid left so_far line (part, one, some, longer, moved) = omega (arith, length-append so_far part, ap length longer)

-- nothing is said of a reader's fault
unsaid : {A : Type 0} (known : Option A) → IfSome known (λ bytes. Unit {0})
unsaid None = tt
unsaid (Some bytes) = tt

-- why there is no line
pub fault_read : (known mid left : Option (List ℕ)) (so_far line : List ℕ) (fault : LineFault) → Consumes known mid so_far → IsOfOneLine so_far
    → (fault ≡ faults.TooLong → IfSome mid (λ bytes. Overflows bytes so_far)) → IfSome known (λ bytes. GivesLine bytes line left (Err fault))
fault_read known mid left so_far line faults.TooLong taken one over = too_long known mid so_far taken one (over refl)
fault_read known mid left so_far line faults.Fault taken one over = unsaid known
