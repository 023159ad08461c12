-- Laws of the table: that of no requests, that with one more, and what it tells.
use Rattle.sessions.proofs.Common.{AreSetAside, IsAsideFor, IsReplyAt, IsReplyIn, Reply, aside_in, get_or-append-add, no_table, none-some, same_Some, slice_index_or, ◌+◌, ◌-◌, Bool, Entry, Equal, Greater, IsReplyPlace, IsSeen, IsTableOf, Kept, Less, List, New, None, Option, Ordering, Row, Seen, SeesInRow, IsPairAt, Some, Table, Trimmed, [], ap, arith, cond, eq-eqb, eq_by_cmp, eqb-true, false, false≢true, get-empty, get-insert, get-retain_keys, get_or-append_seam, get_or_append_left, inl, inr, is_from, is_le, is_pair, kept_in, le_from_is_le, length, length-append, list_any-append, mark, max, nat_cmp, nat_cmp-IsAntisymmetric, nat_cmp_total, nat_eq_equiv, noted, noted_row, or-false, ranked, refl, row_in, row_or_none, subst, sym, trimmed, trimmed_found, trimmed_row, true, unsigned_tied, ℕ, ⊎_elim, ◌&&◌, ◌++◌, ◌<◌, ◌==◌, ◌||◌, ◌∙◌, ◌∷◌, ◌≡◌, ◌≤◌}
use Rattle.std.specs.FinMap as map

pub is_from_le : {a b : ℕ} → a ≤ b → is_le (nat_cmp a b) ≡ true
is_from_le {a} {b} low = go (nat_cmp a b) refl
  where
    go : (r : Ordering) → r ≡ nat_cmp a b → is_le r ≡ true
    go Less e = refl
    go Equal e = refl
    go Greater e = let high : b < a = ranked a b Greater e in absurd (omega arith)

-- the mark after one entry more
pub mark-push : (past : List Entry) (e : Entry) (client : ℕ) → mark (past ++ e ∷ []) client ≡ cond (e.client == client) (max (mark past client) e.oldest) (mark past client)
mark-push [] e client = go (e.client == client)
  where
    go : (b : Bool) → cond b (max e.oldest 0) 0 ≡ cond b (max 0 e.oldest) 0
    go true = omega arith
    go false = refl
mark-push (x ∷ past) e client =
    ap (λ m. cond (x.client == client) (max x.oldest m) m) (mark-push past e client) ∙ go (x.client == client) (e.client == client) (mark past client)
  where
    go : (a b : Bool) (m : ℕ) → cond a (max x.oldest (cond b (max m e.oldest) m)) (cond b (max m e.oldest) m) ≡ cond b (max (cond a (max x.oldest m) m) e.oldest) (cond a (max x.oldest m) m)
    go true true m = omega arith
    go true false m = refl
    go false true m = refl
    go false false m = refl

-- the table of no requests
pub table-none : IsTableOf [] no_table
table-none = record {
  marks = λ client. ap (λ (o : Option Row). (row_or_none o).mark) (get-empty nat_cmp client);
  replies = λ client tid. rw (get-empty nat_cmp client) (rw (get-empty nat_cmp tid) (λ _. refl));
}

-- the reply that was set aside, or that of the entry which isn't forgotten, is that of its place
pub told_at : (past history : List Entry) (forgotten place : ℕ) → length past ≡ forgotten → (o : Option ℕ) → o ≡ Some place → (a : Option Reply) → (reply : Reply)
    → IsAsideFor (past ++ history) forgotten o a → IsReplyIn history forgotten place a reply → IsReplyAt (past ++ history) place reply
told_at past history forgotten place long None is a reply h told = absurd (none-some place is)
told_at past history forgotten place long (Some at) is (Some aside) reply (_, h) told = λ e.
    told ∙ h e ∙ ap (λ n. (slice_index_or (past ++ history) n e).reply) (same_Some at place is)
told_at past history forgotten place long (Some at) is None reply h told = λ e.
    let low : forgotten ≤ place = subst (λ n. forgotten ≤ n) (same_Some at place is) h in
    let behind : length past + (place - forgotten) ≡ place = omega (arith, low, long) in
    told e ∙ ap (λ (x : Entry). x.reply) (sym (get_or-append-add past history (place - forgotten) e) ∙ ap (λ n. slice_index_or (past ++ history) n e) behind)

-- what the table tells is what the history tells
pub sees : (past history : List Entry) (table : Table) (client tid oldest : ℕ) (seen : Seen) → IsTableOf (past ++ history) table → AreSetAside past history table
    → SeesInRow history table.forgotten (row_in table client) tid oldest seen → IsSeen (past ++ history) client tid oldest seen
sees past history table client tid oldest Trimmed h aside s = ⊎_elim (λ below. inl (subst (λ m. tid < m) (h.marks client) below)) inr s
sees past history table client tid oldest (Kept place reply) h aside (marked, own, is, told) =
    let kept = subst (IsReplyPlace (past ++ history) client tid) is (h.replies client tid) in (
      record { marked = kept.0; own = own; at = kept.1 },
      told_at past history table.forgotten place aside.before (kept_in table client tid) is (aside_in table client tid) reply.now (aside.aside client tid) told,
    )
sees past history table client tid oldest (New at) h aside (marked, own, is) =
    let above = subst (λ m. m ≤ tid) (h.marks client) marked in
    record { marked = above; own = own; absent = subst (IsReplyPlace (past ++ history) client tid) is (h.replies client tid) above }

-- what is kept and isn't set aside stands in the rest of the history
pub kept_within : (past history : List Entry) (table : Table) (client tid place : ℕ) → IsTableOf (past ++ history) table → AreSetAside past history table
    → map.get (row_in table client).kept tid ≡ Some place → map.get (row_in table client).aside tid ≡ None → (table.forgotten ≤ place) × (place - table.forgotten < length history)
kept_within past history table client tid place h aside is none =
    let kept = subst (IsReplyPlace (past ++ history) client tid) is (h.replies client tid) in
    let low : table.forgotten ≤ place = subst (IsAsideFor (past ++ history) table.forgotten (Some place)) none (subst (λ o. IsAsideFor (past ++ history) table.forgotten o (aside_in table client tid)) is (aside.aside client tid)) in
    (low, omega (arith, low, kept.1.in_range, length-append past history, aside.before))

-- a client's row once a request was applied
pub row_after : (table : Table) (client tid oldest place q : ℕ) →
    row_in (trimmed (noted table client tid oldest place) client) q ≡ cond (q == client) (trimmed_row (noted_row (row_in table client) tid oldest place)) (row_in table q)
row_after table client tid oldest place q =
    let row = noted_row (row_in table client) tid oldest place in
    let there = get-insert nat_cmp_total table.rows client row client ∙ ap (λ b. cond b (Some row) (map.get table.rows client)) (unsigned_tied client client ∙ eq-eqb client client refl) in
    ap (λ o. row_or_none (map.get (trimmed_found (map.insert table.rows client row) client o) q)) there
    ∙ ap row_or_none (get-insert nat_cmp_total (map.insert table.rows client row) client (trimmed_row row) q
    ∙ ap (cond (eq_by_cmp nat_cmp q client) (Some (trimmed_row row))) (get-insert nat_cmp_total table.rows client row q)
    ∙ ap (λ b. cond b (Some (trimmed_row row)) (cond b (Some row) (map.get table.rows q))) (unsigned_tied q client))
    ∙ go row (q == client)
  where
    go : (row : Row) (b : Bool) → row_or_none (cond b (Some (trimmed_row row)) (cond b (Some row) (map.get table.rows q))) ≡ cond b (trimmed_row row) (row_in table q)
    go row true = refl
    go row false = refl

-- a pair stays at its place
still_there : (past : List Entry) (e : Entry) (client tid place : ℕ) → IsPairAt past client tid place → IsPairAt (past ++ e ∷ []) client tid place
still_there past e client tid place h = record {
  in_range = omega (arith, length-append past (e ∷ []), h.in_range);
  pair = λ d. rw (get_or_append_left past (e ∷ []) d place h.in_range) (h.pair d);
}

-- what is kept for another pair than the entry's
pub others_kept : (past : List Entry) (e : Entry) (client tid : ℕ) → is_pair client tid e ≡ false → mark past client ≤ mark (past ++ e ∷ []) client
    → (mark past client ≤ tid → mark (past ++ e ∷ []) client ≤ tid) → (o : Option ℕ) → IsReplyPlace past client tid o → IsReplyPlace (past ++ e ∷ []) client tid o
others_kept past e client tid other rises stays (Some place) (marked, h) = (stays marked, still_there past e client tid place h)
others_kept past e client tid other rises stays None absent =
    λ marked. list_any-append (is_pair client tid) past (e ∷ []) ∙ ap (λ b. b || (is_pair client tid e || false)) (absent (omega arith)) ∙ or-false (is_pair client tid e) ∙ other

-- what is kept for the entry's own client
own_kept : (past : List Entry) (e : Entry) (tid : ℕ) → (row : Row) → row.mark ≡ mark past e.client → ((t : ℕ) → IsReplyPlace past e.client t (map.get row.kept t))
    → IsReplyPlace (past ++ e ∷ []) e.client tid (map.get (trimmed_row (noted_row row e.tid e.oldest (length past))).kept tid)
own_kept past e tid row is h =
    subst (IsReplyPlace (past ++ e ∷ []) e.client tid) (sym kept) (go (is_le (nat_cmp risen tid)) refl (tid == e.tid) refl)
  where
    risen : ℕ
    risen = max row.mark e.oldest

    marked : mark (past ++ e ∷ []) e.client ≡ risen
    marked = mark-push past e e.client ∙ ap (λ b. cond b (max (mark past e.client) e.oldest) (mark past e.client)) (eq-eqb e.client e.client refl) ∙ ap (λ m. max m e.oldest) (sym is)

    kept : map.get (trimmed_row (noted_row row e.tid e.oldest (length past))).kept tid ≡ cond (is_le (nat_cmp risen tid)) (cond (tid == e.tid) (Some (length past)) (map.get row.kept tid)) None
    kept =
        get-retain_keys (map.insert row.kept e.tid (length past)) (is_from nat_cmp risen) tid (λ x t. ap (is_from nat_cmp risen) (sym (nat_cmp-IsAntisymmetric tid x t)))
        ∙ ap (λ o. cond (is_le (nat_cmp risen tid)) o None) (get-insert nat_cmp_total row.kept e.tid (length past) tid ∙ ap (λ b. cond b (Some (length past)) (map.get row.kept tid)) (unsigned_tied tid e.tid))

    at_end : tid ≡ e.tid → IsPairAt (past ++ e ∷ []) e.client tid (length past)
    at_end same = record {
      in_range = omega (arith, length-append past (e ∷ []));
      pair = λ d. rw (get_or-append_seam past e [] d, eq-eqb e.client e.client refl) (eq-eqb e.tid tid (sym same));
    }

    other : (tid == e.tid) ≡ false → is_pair e.client tid e ≡ false
    other apart = ap (λ b. b && (e.tid == tid)) (eq-eqb e.client e.client refl) ∙ nat_eq_equiv.symm e.tid tid ∙ apart

    go : (b : Bool) → is_le (nat_cmp risen tid) ≡ b → (c : Bool) → (tid == e.tid) ≡ c → IsReplyPlace (past ++ e ∷ []) e.client tid (cond b (cond c (Some (length past)) (map.get row.kept tid)) None)
    go true above true same = let low = le_from_is_le risen tid above in (subst (λ m. m ≤ tid) (sym marked) low, at_end (eqb-true tid e.tid same))
    go true above false apart =
        let low = le_from_is_le risen tid above in
        others_kept past e e.client tid (other apart) (omega (arith, marked, is)) (λ _. subst (λ m. m ≤ tid) (sym marked) low) (map.get row.kept tid) (h tid)
    go false below c _ = λ low. absurd (false≢true (sym below ∙ is_from_le (subst (λ m. m ≤ tid) marked low)))

-- once an applied request is noted and its client trimmed, the table is that of the history with its entry
pub table-push : (past : List Entry) (table : Table) (e : Entry) → IsTableOf past table
    → IsTableOf (past ++ e ∷ []) (trimmed (noted table e.client e.tid e.oldest (length past)) e.client)
table-push past table e h = record { marks = marks; replies = replies }
  where
    row : Row
    row = row_in table e.client

    after : Row
    after = trimmed_row (noted_row row e.tid e.oldest (length past))

    now : ℕ → Row
    now q = row_in (trimmed (noted table e.client e.tid e.oldest (length past)) e.client) q

    is : (q : ℕ) → now q ≡ cond (q == e.client) after (row_in table q)
    is q = row_after table e.client e.tid e.oldest (length past) q

    unmarked : (q : ℕ) → (q == e.client) ≡ false → mark (past ++ e ∷ []) q ≡ mark past q
    unmarked q apart = mark-push past e q ∙ ap (λ b. cond b (max (mark past q) e.oldest) (mark past q)) (nat_eq_equiv.symm e.client q ∙ apart)

    marks : (q : ℕ) → (now q).mark ≡ mark (past ++ e ∷ []) q
    marks q = ap (λ (r : Row). r.mark) (is q) ∙ go (q == e.client) refl
      where
        go : (b : Bool) → (q == e.client) ≡ b → (cond b after (row_in table q)).mark ≡ mark (past ++ e ∷ []) q
        go true same = let one = eqb-true q e.client same in
            ap (λ m. max m e.oldest) (h.marks e.client) ∙ sym (mark-push past e q ∙ ap (λ b. cond b (max (mark past q) e.oldest) (mark past q)) (nat_eq_equiv.symm e.client q ∙ same) ∙ ap (λ c. max (mark past c) e.oldest) one)
        go false apart = h.marks q ∙ sym (unmarked q apart)

    replies : (q tid : ℕ) → IsReplyPlace (past ++ e ∷ []) q tid (map.get (now q).kept tid)
    replies q tid = subst (λ (r : Row). IsReplyPlace (past ++ e ∷ []) q tid (map.get r.kept tid)) (sym (is q)) (go (q == e.client) refl)
      where
        go : (b : Bool) → (q == e.client) ≡ b → IsReplyPlace (past ++ e ∷ []) q tid (map.get (cond b after (row_in table q)).kept tid)
        go true same = subst (λ c. IsReplyPlace (past ++ e ∷ []) c tid (map.get after.kept tid)) (sym (eqb-true q e.client same)) (own_kept past e tid row (h.marks e.client) (h.replies e.client))
        go false apart =
            let grown = unmarked q apart in
            others_kept past e q tid (ap (λ b. b && (e.tid == tid)) (nat_eq_equiv.symm e.client q ∙ apart)) (omega (arith, grown)) (λ low. subst (λ m. m ≤ tid) (sym grown) low) (kept_in table q tid) (h.replies q tid)
