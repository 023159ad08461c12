-- Laws of what is set aside: once a request was applied, and once entries are forgotten.
use Rattle.sessions.proofs.Common.{AreSetAside, Bool, Entry, IsAsideFor, IsReplyPlace, IsPairAt, IsTableOf, None, Option, Reply, Row, Some, Table, List, [], ap, ap₂, append_assoc, append-nil, arith, aside_in, cond, eq-eqb, eqb-true, false, false≢true, forget_all, forget_first, get-empty, get-insert, get-retain_keys, get_or-append_seam, get_or_append_left, is_kept_at, is_from, is_le, is_pair, keeps_first, kept_in, length, length-append, list_any, list_any_at, nat_eq_equiv, nat_cmp, nat_cmp-IsAntisymmetric, nat_cmp_total, none-some, no_table, noted, noted_row, refl, row_in, row_or_none, row_with_aside, rows_with_aside, slice_index_or, subst, sym, trimmed, trimmed_row, true, unsigned_tied, ℕ, ◌&&◌, ◌+◌, ◌++◌, ◌==◌, ◌∙◌, ◌∷◌, ◌≡◌, ◌≤◌}
use Rattle.sessions.proofs.TableLaws.{row_after}
use Rattle.std.specs.FinMap as map

-- of no history nothing is forgotten
pub aside_none : AreSetAside [] [] no_table
aside_none = record { before = refl; aside = λ client tid. go (kept_in no_table client tid) (aside_in no_table client tid) (kept client tid) (told client tid) }
  where
    kept : (client tid : ℕ) → kept_in no_table client tid ≡ None
    kept client tid = ap (λ (o : Option Row). map.get (row_or_none o).kept tid) (get-empty nat_cmp client) ∙ get-empty nat_cmp tid

    told : (client tid : ℕ) → aside_in no_table client tid ≡ None
    told client tid = ap (λ (o : Option Row). map.get (row_or_none o).aside tid) (get-empty nat_cmp client) ∙ get-empty nat_cmp tid

    go : (o : Option ℕ) (a : Option Reply) → o ≡ None → a ≡ None → IsAsideFor [] 0 o a
    go None None is none = tt
    go None (Some reply) is none = absurd (none-some reply (sym none))
    go (Some place) a is none = absurd (none-some place (sym is))

-- ---- a request was applied

-- what is set aside stays so behind one entry more
pub still_aside : (whole : List Entry) (e : Entry) (forgotten : ℕ) → forgotten ≤ length whole → (o : Option ℕ) (a : Option Reply) → IsAsideFor whole forgotten o a → IsAsideFor (whole ++ e ∷ []) forgotten o a
still_aside whole e forgotten few None None h = h
still_aside whole e forgotten few None (Some reply) h = h
still_aside whole e forgotten few (Some place) None h = h
still_aside whole e forgotten few (Some place) (Some reply) (low, told) = (low, λ d. told d ∙ ap (λ (x : Entry). x.reply) (sym (get_or_append_left whole (e ∷ []) d place (omega (arith, low, few)))))

module _ (whole : List Entry) (forgotten : ℕ) (few : forgotten ≤ length whole) (e : Entry) (row : Row) (fresh : list_any (is_pair e.client e.tid) whole ≡ false)
    (kept : (t : ℕ) → IsReplyPlace whole e.client t (map.get row.kept t)) (aside : (t : ℕ) → IsAsideFor whole forgotten (map.get row.kept t) (map.get row.aside t)) where
  abbrev after : Row
  after = trimmed_row (noted_row row e.tid e.oldest (length whole))

  abbrev risen : ℕ
  risen = (noted_row row e.tid e.oldest (length whole)).mark

  -- nothing was set aside for a new pair
  none_yet : (t : ℕ) → t ≡ e.tid → map.get row.aside t ≡ None
  none_yet t same = go (map.get row.kept t) (map.get row.aside t) (kept t) (aside t)
    where
      go : (o : Option ℕ) (a : Option Reply) → IsReplyPlace whole e.client t o → IsAsideFor whole forgotten o a → a ≡ None
      go None None k h = refl
      go None (Some reply) k h = absurd h
      go (Some place) a (_, stands) h = absurd (false≢true (sym fresh ∙ list_any_at (is_pair e.client e.tid) whole place e stands.in_range (subst (λ n. is_pair e.client n (slice_index_or whole place e) ≡ true) same (stands.pair e))))

  own_aside : (tid : ℕ) → IsAsideFor (whole ++ e ∷ []) forgotten (map.get after.kept tid) (map.get after.aside tid)
  own_aside tid = rw (kept_after, aside_after) (go (is_le (nat_cmp risen tid)) (tid == e.tid) refl)
    where
      kept_after : map.get after.kept tid ≡ cond (is_le (nat_cmp risen tid)) (cond (tid == e.tid) (Some (length whole)) (map.get row.kept tid)) None
      kept_after =
          get-retain_keys (map.insert row.kept e.tid (length whole)) (is_from nat_cmp risen) tid (λ x t. ap (is_from nat_cmp risen) (sym (nat_cmp-IsAntisymmetric tid x t)))
          ∙ ap (λ o. cond (is_le (nat_cmp risen tid)) o None) (get-insert nat_cmp_total row.kept e.tid (length whole) tid ∙ ap (λ b. cond b (Some (length whole)) (map.get row.kept tid)) (unsigned_tied tid e.tid))

      aside_after : map.get after.aside tid ≡ cond (is_le (nat_cmp risen tid)) (map.get row.aside tid) None
      aside_after = get-retain_keys row.aside (is_from nat_cmp risen) tid (λ x t. ap (is_from nat_cmp risen) (sym (nat_cmp-IsAntisymmetric tid x t)))

      go : (b c : Bool) → (tid == e.tid) ≡ c → IsAsideFor (whole ++ e ∷ []) forgotten (cond b (cond c (Some (length whole)) (map.get row.kept tid)) None) (cond b (map.get row.aside tid) None)
      go false c is = tt
      go true true is = subst (IsAsideFor (whole ++ e ∷ []) forgotten (Some (length whole))) (sym (none_yet tid (eqb-true tid e.tid is))) few
      go true false is = still_aside whole e forgotten few (map.get row.kept tid) (map.get row.aside tid) (aside tid)

-- a new request was applied
pub aside_push : (past history : List Entry) (table : Table) (e : Entry) → IsTableOf (past ++ history) table → AreSetAside past history table → list_any (is_pair e.client e.tid) (past ++ history) ≡ false
    → AreSetAside past (history ++ e ∷ []) (trimmed (noted table e.client e.tid e.oldest (length (past ++ history))) e.client)
aside_push past history table e h aside fresh = record { before = aside.before; aside = pair }
  where
    few : table.forgotten ≤ length (past ++ history)
    few = omega (arith, length-append past history, aside.before)

    now : ℕ → Row
    now q = row_in (trimmed (noted table e.client e.tid e.oldest (length (past ++ history))) e.client) q

    pair : (q tid : ℕ) → IsAsideFor (past ++ (history ++ e ∷ [])) table.forgotten (map.get (now q).kept tid) (map.get (now q).aside tid)
    pair q tid =
        subst (λ l. IsAsideFor l table.forgotten (map.get (now q).kept tid) (map.get (now q).aside tid)) (append_assoc past history (e ∷ []))
        (subst (λ (r : Row). IsAsideFor ((past ++ history) ++ e ∷ []) table.forgotten (map.get r.kept tid) (map.get r.aside tid)) (sym (row_after table e.client e.tid e.oldest (length (past ++ history)) q)) (go (q == e.client)))
      where
        go : (b : Bool) → IsAsideFor ((past ++ history) ++ e ∷ []) table.forgotten
            (map.get (cond b (trimmed_row (noted_row (row_in table e.client) e.tid e.oldest (length (past ++ history)))) (row_in table q)).kept tid)
            (map.get (cond b (trimmed_row (noted_row (row_in table e.client) e.tid e.oldest (length (past ++ history)))) (row_in table q)).aside tid)
        go true = own_aside (past ++ history) table.forgotten few e (row_in table e.client) fresh (h.replies e.client) (aside.aside e.client) tid
        go false = still_aside (past ++ history) e table.forgotten few (kept_in table q tid) (aside_in table q tid) (aside.aside q tid)

-- ---- an entry is forgotten

-- a client's row then
row_forgot : (table : Table) (e : Entry) (q : ℕ) → row_in (forget_first table e) q ≡ cond (keeps_first table e && (q == e.client)) (row_with_aside (row_in table q) e.tid e.reply) (row_in table q)
row_forgot table e q = go (keeps_first table e) (q == e.client) refl
  where
    go : (b c : Bool) → (q == e.client) ≡ c → row_or_none (map.get (cond b (rows_with_aside table.rows e) table.rows) q) ≡ cond (b && c) (row_with_aside (row_in table q) e.tid e.reply) (row_in table q)
    go false c is = refl
    go true true is =
        ap row_or_none (get-insert nat_cmp_total table.rows e.client (row_with_aside (row_in table e.client) e.tid e.reply) q
        ∙ ap (λ b. cond b (Some (row_with_aside (row_in table e.client) e.tid e.reply)) (map.get table.rows q)) (unsigned_tied q e.client ∙ is))
        ∙ ap (λ n. row_with_aside (row_in table n) e.tid e.reply) (sym (eqb-true q e.client is))
    go true false is =
        ap row_or_none (get-insert nat_cmp_total table.rows e.client (row_with_aside (row_in table e.client) e.tid e.reply) q
        ∙ ap (λ b. cond b (Some (row_with_aside (row_in table e.client) e.tid e.reply)) (map.get table.rows q)) (unsigned_tied q e.client ∙ is))

mark_forgot : (table : Table) (e : Entry) (q : ℕ) → (row_in (forget_first table e) q).mark ≡ (row_in table q).mark
mark_forgot table e q = ap (λ (r : Row). r.mark) (row_forgot table e q) ∙ go (keeps_first table e && (q == e.client))
  where
    go : (b : Bool) → (cond b (row_with_aside (row_in table q) e.tid e.reply) (row_in table q)).mark ≡ (row_in table q).mark
    go true = refl
    go false = refl

kept_forgot : (table : Table) (e : Entry) (q tid : ℕ) → kept_in (forget_first table e) q tid ≡ kept_in table q tid
kept_forgot table e q tid = ap (λ (r : Row). map.get r.kept tid) (row_forgot table e q) ∙ go (keeps_first table e && (q == e.client))
  where
    go : (b : Bool) → map.get (cond b (row_with_aside (row_in table q) e.tid e.reply) (row_in table q)).kept tid ≡ kept_in table q tid
    go true = refl
    go false = refl

aside_forgot : (table : Table) (e : Entry) (q tid : ℕ) → aside_in (forget_first table e) q tid ≡ cond (keeps_first table e && (q == e.client)) (cond (tid == e.tid) (Some e.reply) (aside_in table q tid)) (aside_in table q tid)
aside_forgot table e q tid = ap (λ (r : Row). map.get r.aside tid) (row_forgot table e q) ∙ go (keeps_first table e && (q == e.client))
  where
    go : (b : Bool) → map.get (cond b (row_with_aside (row_in table q) e.tid e.reply) (row_in table q)).aside tid ≡ cond b (cond (tid == e.tid) (Some e.reply) (aside_in table q tid)) (aside_in table q tid)
    go true = get-insert nat_cmp_total (row_in table q).aside e.tid e.reply tid ∙ ap (λ b. cond b (Some e.reply) (aside_in table q tid)) (unsigned_tied tid e.tid)
    go false = refl

-- the table stays that of the history
pub table_forgot : (history : List Entry) (table : Table) (e : Entry) → IsTableOf history table → IsTableOf history (forget_first table e)
table_forgot history table e h = record {
  marks = λ q. mark_forgot table e q ∙ h.marks q;
  replies = λ q tid. subst (IsReplyPlace history q tid) (sym (kept_forgot table e q tid)) (h.replies q tid);
}

module _ (past : List Entry) (e : Entry) (rest : List Entry) (table : Table) (h : IsTableOf (past ++ e ∷ rest) table) (aside : AreSetAside past (e ∷ rest) table) where
  whole : List Entry
  whole = past ++ e ∷ rest

  -- the entry stands at the first place that isn't forgotten
  at_first : (d : Entry) (place : ℕ) → place ≡ table.forgotten → slice_index_or (past ++ e ∷ rest) place d ≡ e
  at_first d place is = ap (λ n. slice_index_or (past ++ e ∷ rest) n d) (is ∙ sym aside.before) ∙ get_or-append_seam past e rest d

  -- of another pair nothing is kept there
  elsewhere : (q tid place : ℕ) → IsPairAt (past ++ e ∷ rest) q tid place → is_pair q tid e ≡ false → (place == table.forgotten) ≡ false
  elsewhere q tid place stands other = go (place == table.forgotten) refl
    where
      go : (b : Bool) → (place == table.forgotten) ≡ b → b ≡ false
      go false is = refl
      go true is = absurd (false≢true (sym other ∙ ap (is_pair q tid) (sym (at_first e place (eqb-true place table.forgotten is))) ∙ stands.pair e))

  -- an entry whose reply isn't kept there, or that of another pair
  stays : (o : Option ℕ) (a : Option Reply) → is_kept_at table.forgotten o ≡ false → IsAsideFor (past ++ e ∷ rest) table.forgotten o a → IsAsideFor (past ++ e ∷ rest) (table.forgotten + 1) o a
  stays None a apart k = go a k
    where
      go : (a : Option Reply) → IsAsideFor (past ++ e ∷ rest) table.forgotten None a → IsAsideFor (past ++ e ∷ rest) (table.forgotten + 1) None a
      go None k = tt
      go (Some reply) k = absurd k
  stays (Some place) None apart k = omega (arith, k, not_there)
    where
      not_there : place ≡ table.forgotten → ⊥
      not_there same = false≢true (sym apart ∙ eq-eqb place table.forgotten same)
  stays (Some place) (Some reply) apart (low, told) = (omega (arith, low), told)

  -- the entry's own reply, which is kept there
  set_there : (o : Option ℕ) → is_kept_at table.forgotten o ≡ true → IsAsideFor (past ++ e ∷ rest) (table.forgotten + 1) o (Some e.reply)
  set_there None is = absurd (false≢true is)
  set_there (Some place) is =
      let at = eqb-true place table.forgotten is in
      (omega (arith, at), λ d. ap (λ (x : Entry). x.reply) (sym (at_first d place at)))

  -- the reply is kept there of the entry's pair alone
  apart_kept : (q tid : ℕ) → is_pair q tid e ≡ false → is_kept_at table.forgotten (kept_in table q tid) ≡ false
  apart_kept q tid other = go (kept_in table q tid) (h.replies q tid)
    where
      go : (o : Option ℕ) → IsReplyPlace (past ++ e ∷ rest) q tid o → is_kept_at table.forgotten o ≡ false
      go None k = refl
      go (Some place) (_, stands) = elsewhere q tid place stands other

  pair_forgot : (q tid : ℕ) → IsAsideFor (past ++ e ∷ rest) (table.forgotten + 1) (kept_in table q tid) (aside_in (forget_first table e) q tid)
  pair_forgot q tid = subst (IsAsideFor (past ++ e ∷ rest) (table.forgotten + 1) (kept_in table q tid)) (sym (aside_forgot table e q tid)) (go (keeps_first table e) refl (q == e.client) refl (tid == e.tid) refl)
    where
      pairs : (c d : Bool) → (q == e.client) ≡ c → (tid == e.tid) ≡ d → is_pair q tid e ≡ (c && d)
      pairs c d one two = ap₂ (λ a b. a && b) (nat_eq_equiv.symm e.client q ∙ one) (nat_eq_equiv.symm e.tid tid ∙ two)

      go : (b : Bool) → keeps_first table e ≡ b → (c : Bool) → (q == e.client) ≡ c → (d : Bool) → (tid == e.tid) ≡ d
          → IsAsideFor (past ++ e ∷ rest) (table.forgotten + 1) (kept_in table q tid) (cond (b && c) (cond d (Some e.reply) (aside_in table q tid)) (aside_in table q tid))
      go true kept true one true two =
          set_there (kept_in table q tid) (ap₂ (λ c t. is_kept_at table.forgotten (kept_in table c t)) (eqb-true q e.client one) (eqb-true tid e.tid two) ∙ kept)
      go false kept true one true two =
          stays (kept_in table q tid) (aside_in table q tid) (ap₂ (λ c t. is_kept_at table.forgotten (kept_in table c t)) (eqb-true q e.client one) (eqb-true tid e.tid two) ∙ kept) (aside.aside q tid)
      go true kept true one false two = stays (kept_in table q tid) (aside_in table q tid) (apart_kept q tid (pairs true false one two)) (aside.aside q tid)
      go false kept true one false two = stays (kept_in table q tid) (aside_in table q tid) (apart_kept q tid (pairs true false one two)) (aside.aside q tid)
      go true kept false one d two = stays (kept_in table q tid) (aside_in table q tid) (apart_kept q tid (pairs false d one two)) (aside.aside q tid)
      go false kept false one d two = stays (kept_in table q tid) (aside_in table q tid) (apart_kept q tid (pairs false d one two)) (aside.aside q tid)

  pub forgot_first : AreSetAside (past ++ e ∷ []) rest (forget_first table e)
  forgot_first = record {
    before = omega (arith, length-append past (e ∷ []), aside.before);
    aside = λ q tid.
        subst (λ l. IsAsideFor l (table.forgotten + 1) (kept_in (forget_first table e) q tid) (aside_in (forget_first table e) q tid)) (sym (append_assoc past (e ∷ []) rest))
        (subst (λ o. IsAsideFor (past ++ e ∷ rest) (table.forgotten + 1) o (aside_in (forget_first table e) q tid)) (sym (kept_forgot table e q tid)) (pair_forgot q tid));
  }

-- several are
pub forgot_all : (past first rest : List Entry) (table : Table) → IsTableOf (past ++ (first ++ rest)) table → AreSetAside past (first ++ rest) table
    → IsTableOf (past ++ (first ++ rest)) (forget_all table first) × AreSetAside (past ++ first) rest (forget_all table first)
forgot_all past [] rest table h aside = (h, subst (λ l. AreSetAside l rest table) (sym (append-nil past)) aside)
forgot_all past (e ∷ es) rest table h aside =
    let joined = append_assoc past (e ∷ []) (es ++ rest) in
    let more = forgot_all (past ++ e ∷ []) es rest (forget_first table e)
    (subst (λ l. IsTableOf l (forget_first table e)) (sym joined) (table_forgot (past ++ e ∷ (es ++ rest)) table e h))
    (forgot_first past e (es ++ rest) table h aside) in
    (subst (λ l. IsTableOf l (forget_all (forget_first table e) es)) joined more.0, subst (λ l. AreSetAside l rest (forget_all (forget_first table e) es)) (append_assoc past (e ∷ []) es) more.1)

-- one after several
pub forgot_more : (table : Table) (first rest : List Entry) → forget_all table (first ++ rest) ≡ forget_all (forget_all table first) rest
forgot_more table [] rest = refl
forgot_more table (e ∷ es) rest = forgot_more (forget_first table e) es rest
