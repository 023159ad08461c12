-- A reply that is kept, with its transaction number: what is read is what the bytes spell, and what is written is read
-- again.
use Rattle.session_rows.proofs.Common.{IsBytes, IsBytes-drop, IsTold, List, Option, ReadsTold, Reply, StoredClient, Some, None, SpellsReply, Takes, Takes-then, Told, [], ap, append_assoc, arith, bind_some, bytes_at, counted_at, counted_bytes, drop, drop_at, flat_map, flat_map-cons, guard_not, le-ltb, length, length-append, length-take, little_bytes, ltb, ltb-false, next_number, number_again, number_at, number_takes, one_reply, read_as, reads_reply, refl, reply_bytes, reply_from, same_Some, subst, sym, take, take-append-drop, take_at, told_bytes, width_4, width_8, with_next_told, wrong_told, false, ℕ, ◌++◌, ◌<◌, ◌>>=◌, ◌^◌, ◌∙◌, ◌∷◌, ◌≡◌, ◌≤◌}
use Rattle.session_rows.specs.ClientRows.{told_at}

part_takes : (n : ℕ) (bytes x rest : List ℕ) → IsBytes bytes → bytes_at n bytes ≡ Some (x, rest) → (length x ≡ n) × Takes bytes x rest
part_takes n bytes x rest fits read =
    let g = guard_not (ltb (length bytes) n) (take n bytes, drop n bytes) (x, rest) read in
    let long : n ≤ length bytes = ltb-false _ _ g.0 in
    let P : List ℕ × List ℕ → Type 0 = λ p. (length p.0 ≡ n) × Takes bytes p.0 p.1 in
    subst P g.1 (omega (arith, length-take n bytes), record { parts = sym (take-append-drop n bytes); rest_fits = IsBytes-drop n bytes fits })

text_takes : (bytes x rest : List ℕ) → IsBytes bytes → counted_at 4 bytes ≡ Some (x, rest) → Takes bytes (counted_bytes 4 x) rest × (length x < 2 ^ 32)
text_takes bytes x rest fits read =
    let a = bind_some (number_at 4 bytes) (λ len. bytes_at len.0 len.1) (x, rest) read in
    let t = number_takes 4 width_4 bytes a.0.0 a.0.1 fits a.1 in
    let p = part_takes a.0.0 a.0.1 x rest t.0.rest_fits a.2 in
    let whole : Takes bytes (little_bytes 4 a.0.0 ++ x) rest = Takes-then bytes (little_bytes 4 a.0.0) a.0.1 x rest t.0 p.1 in
    let short : length x < 2 ^ 32 = omega (arith, t.1, p.0) in
    (subst (λ (k : ℕ). Takes bytes (little_bytes 4 k ++ x) rest) (sym p.0) whole, short)

-- what was read
record ToldTaken (bytes : List ℕ) (tid : ℕ) (text rest : List ℕ) : Type 0 where
  tid_fits : tid < 2 ^ 64
  short : length text < 2 ^ 32
  parts : bytes ≡ (little_bytes 8 tid ++ counted_bytes 4 text) ++ rest

told_takes : (bytes : List ℕ) (tid : ℕ) (text rest : List ℕ) → IsBytes bytes → told_at bytes ≡ Some (tid, text, rest) → ToldTaken bytes tid text rest
unfolding told_at
told_takes bytes tid text rest fits read =
    let a = bind_some (number_at 8 bytes) (λ n. counted_at 4 n.1 >>= λ t. Some (n.0, t.0, t.1)) (tid, text, rest) read in
    let b = bind_some (counted_at 4 a.0.1) (λ t. Some (a.0.0, t.0, t.1)) (tid, text, rest) a.2 in
    let n = number_takes 8 width_8 bytes a.0.0 a.0.1 fits a.1 in
    let t = text_takes a.0.1 b.0.0 b.0.1 n.0.rest_fits b.1 in
    let P : ℕ × List ℕ × List ℕ → Type 0 = λ q. ToldTaken bytes q.0 q.1 q.2 in
    subst P (same_Some (a.0.0, b.0.0, b.0.1) (tid, text, rest) b.2)
    (record { tid_fits = omega (arith, n.1); short = t.1; parts = (Takes-then bytes (little_bytes 8 a.0.0) a.0.1 (counted_bytes 4 b.0.0) b.0.1 n.0 t.0).parts })

-- what is read is the reply that the bytes spell
pub read_told : (row new : StoredClient) (bytes : List ℕ) (tid : ℕ) (text rest : List ℕ) (reply : Reply) → IsBytes bytes → told_at bytes ≡ Some (tid, text, rest) → SpellsReply text reply → next_number row ≤ tid
    → new ≡ with_next_told row (record { tid = tid; reply = reply }) → ReadsTold row bytes new rest
read_told row new bytes tid text rest reply fits read said after e =
    let t = told_takes bytes tid text rest fits read in
    let short : length (reply_bytes reply) < 2 ^ 32 = subst (λ (x : List ℕ). length x < 2 ^ 32) said.spelled t.short in
    record {
      told = record { tid = tid; reply = reply };
      known = record { tid = t.tid_fits; reply = said.typed; short = short };
      ascends = after;
      read = e;
      parts = t.parts ∙ ap (λ (x : List ℕ). (little_bytes 8 tid ++ counted_bytes 4 x) ++ rest) said.spelled;
    }

-- ---- what is written is read again

part_again : (x rest : List ℕ) → bytes_at (length x) (x ++ rest) ≡ Some (x, rest)
part_again x rest =
    let long : ltb (length (x ++ rest)) (length x) ≡ false = le-ltb _ _ (omega (arith, length-append x rest)) in
    rw (long, take_at x rest (length x) refl, drop_at x rest (length x) refl) refl

text_again : (x rest : List ℕ) → length x < 2 ^ 32 → counted_at 4 (counted_bytes 4 x ++ rest) ≡ Some (x, rest)
text_again x rest short =
    ap (counted_at 4) (append_assoc (little_bytes 4 (length x)) x rest)
    ∙ ap (λ (r : Option (ℕ × List ℕ)). r >>= λ len. bytes_at len.0 len.1) (number_again 4 (length x) (x ++ rest) (omega (arith, short))) ∙ part_again x rest

told_again : (tid : ℕ) (text rest : List ℕ) → tid < 2 ^ 64 → length text < 2 ^ 32 → told_at ((little_bytes 8 tid ++ counted_bytes 4 text) ++ rest) ≡ Some (tid, text, rest)
unfolding told_at
told_again tid text rest fits short =
    let behind = counted_bytes 4 text in
    ap (λ (t : List ℕ). number_at 8 t >>= λ n. counted_at 4 n.1 >>= λ t. Some (n.0, t.0, t.1)) (append_assoc (little_bytes 8 tid) behind rest)
    ∙ ap (λ (r : Option (ℕ × List ℕ)). r >>= λ n. counted_at 4 n.1 >>= λ t. Some (n.0, t.0, t.1)) (number_again 8 tid (behind ++ rest) (omega (arith, fits)))
    ∙ ap (λ (r : Option (List ℕ × List ℕ)). r >>= λ t. Some (tid, t.0, t.1)) (text_again text rest short)

-- the first of many
pub first_told : (x : Told) (xs : List Told) (rest : List ℕ) → IsTold x → told_at (flat_map told_bytes (x ∷ xs) ++ rest) ≡ Some (x.tid, reply_bytes x.reply, flat_map told_bytes xs ++ rest)
first_told x xs rest is =
    let more = flat_map told_bytes xs in
    ap told_at (ap (λ (t : List ℕ). t ++ rest) (flat_map-cons told_bytes x xs) ∙ append_assoc (told_bytes x) more rest)
    ∙ told_again x.tid (reply_bytes x.reply) (more ++ rest) is.tid is.short

pub none_told : told_at [] ≡ None
unfolding told_at
none_told = refl

-- nothing is wrong with what was written
pub nothing_wrong : (mark least : ℕ) (x : Told) (rest : List ℕ) → mark ≤ least → least ≤ x.tid → IsTold x → wrong_told mark least (Some (x.tid, reply_bytes x.reply, rest)) ≡ None
nothing_wrong mark least x rest low up is =
    let marked : ltb x.tid mark ≡ false = le-ltb _ _ (omega (arith, low, up)) in
    let after : ltb x.tid least ≡ false = le-ltb _ _ up in
    let said : reply_from (reply_bytes x.reply) ≡ Some x.reply = read_as SpellsReply reply_from one_reply reads_reply (reply_bytes x.reply) x.reply (record { typed = is.reply; spelled = refl }) in
    rw (marked, after, said) refl
