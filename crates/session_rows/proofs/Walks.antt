-- Bytes are read in one way: replies that are sound, up to the end of the bytes or to what is wrong.
use Rattle.session_rows.proofs.Common.{AllByRecursion, Ascend, IsBroken, BelowMark, Err, IsNoRow, IsRow, IsTold, Length, List, NoMemory, NoReply, None, Ok, Option, OtherRange, OutOfOrder, ReadsRow, Result, StoredClient, RowFault, Some, SpellsRow, Told, [], ap, append-nil, append_assoc, arith, flat_map, inl, inr, length, length-append, little_bytes, next_from, none-some, number_again, number_at, one_reply, refl, reply_bytes, row_bytes, same_Some, subst, sym, told_bytes, wrong_told, ℕ, ◌++◌, ◌+◌, ◌<◌, ◌∙◌, ◌⊎◌, ◌∷◌, ◌≡◌, ◌≤◌}
use Rattle.session_rows.specs.ClientRows.{told_at}
use Rattle.session_rows.proofs.ToldLaws.{first_told, none_told, nothing_wrong}

-- how sound replies end: with the bytes, or with what is wrong
abbrev Ends : ℕ → ℕ → List ℕ → Option RowFault → Type 0
Ends mark least rest None = rest ≡ []
Ends mark least rest (Some fault) = (rest ≡ [] → ⊥) × (wrong_told mark least (told_at rest) ≡ Some fault)

-- a sound reply is no end
no_end : (mark least : ℕ) (rest : List ℕ) (out : Option RowFault) (y : Told) (after : List ℕ) → mark ≤ least → least ≤ y.tid → IsTold y → told_at rest ≡ Some (y.tid, reply_bytes y.reply, after) → Ends mark least rest out → ⊥
no_end mark least rest None y after low up is read end = none-some (y.tid, reply_bytes y.reply, after) (sym none_told ∙ ap told_at (sym end) ∙ read)
no_end mark least rest (Some fault) y after low up is read end =
    none-some fault (sym (nothing_wrong mark least y after low up is) ∙ ap (wrong_told mark least) (sym read) ∙ end.1)

one_end : (mark least : ℕ) (r s : List ℕ) (a b : Option RowFault) → r ≡ s → Ends mark least r a → Ends mark least s b → a ≡ b
one_end mark least r s None None e end other = refl
one_end mark least r s None (Some f) e end other = absurd (other.0 (sym e ∙ end))
one_end mark least r s (Some f) None e end other = absurd (end.0 (e ∙ other))
one_end mark least r s (Some f) (Some g) e end other = sym end.1 ∙ ap (λ (t : List ℕ). wrong_told mark least (told_at t)) e ∙ other.1

same_told : (x y : Told) → IsTold x → IsTold y → x.tid ≡ y.tid → reply_bytes x.reply ≡ reply_bytes y.reply → x ≡ y
same_told x y is other tids texts =
    let replies : x.reply ≡ y.reply = one_reply (reply_bytes x.reply) x.reply y.reply (record { typed = is.reply; spelled = refl }) (record { typed = other.reply; spelled = texts }) in
    λ i. record { tid = tids i; reply = replies i }

walk : (mark least : ℕ) (xs ys : List Told) (r s : List ℕ) (a b : Option RowFault) → mark ≤ least → AllByRecursion IsTold xs → AllByRecursion IsTold ys → Ascend least xs → Ascend least ys
    → Ends mark (next_from least xs) r a → Ends mark (next_from least ys) s b → flat_map told_bytes xs ++ r ≡ flat_map told_bytes ys ++ s → (xs ≡ ys) × (a ≡ b)
walk mark least [] [] r s a b low known others up ups end other e = (refl, one_end mark least r s a b e end other)
walk mark least [] (y ∷ ys) r s a b low known (first, others) up (after, ups) end other e =
    absurd (no_end mark least r a y (flat_map told_bytes ys ++ s) low after first (ap told_at e ∙ first_told y ys s first) end)
walk mark least (x ∷ xs) [] r s a b low (first, known) others (after, up) ups end other e =
    absurd (no_end mark least s b x (flat_map told_bytes xs ++ r) low after first (ap told_at (sym e) ∙ first_told x xs r first) other)
walk mark least (x ∷ xs) (y ∷ ys) r s a b low (first, known) (another, others) (after, up) (afters, ups) end other e =
    let read = same_Some (x.tid, reply_bytes x.reply, flat_map told_bytes xs ++ r) (y.tid, reply_bytes y.reply, flat_map told_bytes ys ++ s) (sym (first_told x xs r first) ∙ ap told_at e ∙ first_told y ys s another) in
    let tids : y.tid ≡ x.tid = ap (λ (p : ℕ × List ℕ × List ℕ). p.0) (sym read) in
    let texts : reply_bytes x.reply ≡ reply_bytes y.reply = ap (λ (p : ℕ × List ℕ × List ℕ). p.1) read in
    let rests : flat_map told_bytes xs ++ r ≡ flat_map told_bytes ys ++ s = ap (λ (p : ℕ × List ℕ × List ℕ). p.2) read in
    let low_next : mark ≤ x.tid + 1 = omega (arith, low, after) in
    let ups_same : Ascend (x.tid + 1) ys = subst (λ (t : ℕ). Ascend (t + 1) ys) tids ups in
    let other_same : Ends mark (next_from (x.tid + 1) ys) s b = subst (λ (t : ℕ). Ends mark (next_from (t + 1) ys) s b) tids other in
    let same = walk mark (x.tid + 1) xs ys r s a b low_next known others up ups_same end other_same rests in
    let firsts : x ≡ y = same_told x y first another (sym tids) texts in
    ((λ i. firsts i ∷ same.0 i), same.1)

-- ---- whole values

-- a row, and what is left of bytes behind it
record IsSplit (bytes : List ℕ) (row : StoredClient) (rest : List ℕ) (out : Option RowFault) : Type 0 where
  known : IsRow row
  parts : bytes ≡ row_bytes row ++ rest
  end : Ends row.mark (next_from row.mark row.replies) rest out

mark_first : (bytes : List ℕ) (row : StoredClient) (rest : List ℕ) → IsRow row → bytes ≡ row_bytes row ++ rest → number_at 8 bytes ≡ Some (row.mark, flat_map told_bytes row.replies ++ rest)
mark_first bytes row rest is e =
    let more = flat_map told_bytes row.replies in
    ap (number_at 8) (e ∙ append_assoc (little_bytes 8 row.mark) more rest) ∙ number_again 8 row.mark (more ++ rest) (omega (arith, is.mark))

one_way : (bytes : List ℕ) (x y : StoredClient) (r s : List ℕ) (a b : Option RowFault) → IsSplit bytes x r a → IsSplit bytes y s b → (x ≡ y) × (a ≡ b)
one_way bytes x y r s a b p q =
    let read = same_Some (x.mark, flat_map told_bytes x.replies ++ r) (y.mark, flat_map told_bytes y.replies ++ s) (sym (mark_first bytes x r p.known p.parts) ∙ mark_first bytes y s q.known q.parts) in
    let marks : y.mark ≡ x.mark = ap (λ (w : ℕ × List ℕ). w.0) (sym read) in
    let rests : flat_map told_bytes x.replies ++ r ≡ flat_map told_bytes y.replies ++ s = ap (λ (w : ℕ × List ℕ). w.1) read in
    let ups : Ascend x.mark y.replies = subst (λ (m : ℕ). Ascend m y.replies) marks q.known.ascend in
    let end : Ends x.mark (next_from x.mark y.replies) s b = subst (λ (m : ℕ). Ends m (next_from m y.replies) s b) marks q.end in
    let same = walk x.mark x.mark x.replies y.replies r s a b (omega arith) p.known.told q.known.told p.known.ascend ups p.end end rests in
    ((λ i. record { mark = sym marks i; replies = same.0 i }), same.1)

of_row : (bytes : List ℕ) (row : StoredClient) → SpellsRow bytes row → IsSplit bytes row [] None
of_row bytes row s = record { known = s.known; parts = s.spelled ∙ sym (append-nil (row_bytes row)); end = refl }

of_broken : (bytes : List ℕ) (fault : RowFault) (b : IsBroken bytes fault) → IsSplit bytes b.front b.rest (Some fault)
of_broken bytes fault b = record { known = b.known; parts = b.parts; end = (b.more, b.wrong) }

pub one_row : (bytes : List ℕ) (a b : StoredClient) → SpellsRow bytes a → SpellsRow bytes b → a ≡ b
one_row bytes a b s t = (one_way bytes a b [] [] None None (of_row bytes a s) (of_row bytes b t)).0

marked : (bytes : List ℕ) (row : StoredClient) (rest : List ℕ) → bytes ≡ row_bytes row ++ rest → length bytes < 8 → ⊥
marked bytes row rest e short = omega (arith, ap length e, length-append (row_bytes row) rest, length-append (little_bytes 8 row.mark) (flat_map told_bytes row.replies), short)

pub no_row_spelled : (bytes : List ℕ) (fault : RowFault) (row : StoredClient) → IsNoRow bytes fault → SpellsRow bytes row → ⊥
no_row_spelled bytes fault row (inl p) s = marked bytes row [] (s.spelled ∙ sym (append-nil (row_bytes row))) p.0
no_row_spelled bytes fault row (inr b) s = none-some fault (one_way bytes row b.front [] b.rest None (Some fault) (of_row bytes row s) (of_broken bytes fault b)).1

pub one_reason : (bytes : List ℕ) (a b : RowFault) → IsNoRow bytes a → IsNoRow bytes b → a ≡ b
one_reason bytes a b (inl p) (inl q) = p.1 ∙ sym q.1
one_reason bytes a b (inl p) (inr q) = absurd (marked bytes q.front q.rest q.parts p.0)
one_reason bytes a b (inr p) (inl q) = absurd (marked bytes p.front p.rest p.parts q.0)
one_reason bytes a b (inr p) (inr q) = same_Some a b (one_way bytes p.front q.front p.rest q.rest (Some a) (Some b) (of_broken bytes a p) (of_broken bytes b q)).1

pub row_again : (bytes : List ℕ) (row : StoredClient) (answer : Result StoredClient RowFault) → SpellsRow bytes row → ReadsRow bytes answer → (answer ≡ Ok row) ⊎ (answer ≡ Err NoMemory)
row_again bytes row (Ok read) s r = inl (ap (λ (x : StoredClient). Ok x) (one_row bytes read row r s))
row_again bytes row (Err NoMemory) s r = inr refl
row_again bytes row (Err Length) s r = absurd (no_row_spelled bytes Length row r s)
row_again bytes row (Err BelowMark) s r = absurd (no_row_spelled bytes BelowMark row r s)
row_again bytes row (Err OutOfOrder) s r = absurd (no_row_spelled bytes OutOfOrder row r s)
row_again bytes row (Err NoReply) s r = absurd (no_row_spelled bytes NoReply row r s)
row_again bytes row (Err OtherRange) s r = absurd r
