-- What the table without its rooms says of the sessions with them.
use Rattle.sessions.proofs.Common.{AreIndexed, Bool, Entry, List, None, Option, Reply, Row, Rows, Table, Session, Some, T, [], ap, ap₂, arith, below_all, cond, entries_sorted, eq-eqb, eq_by_cmp, eqb-true, false, false≢true, find, forget_first, get-empty, get-entries, get-from_sorted, get-insert, get-retain_keys, get_or, get_or-append_seam, get_or-set_at, get_or-set_other, get_or_append_left, get_or_default, is_kept_at, is_from, is_lt, is_some, is_sorted, length, length-append, nat_cmp, nat_cmp-IsAntisymmetric, nat_cmp_total, no_row, no_session, none-some, noted, noted_row, option_map, refl, row_at, row_or_none, row_with_aside, row_with_told, with_told, same_Some, same_map, set, subst, sym, trimmed_found, trimmed_row, true, unsigned_tied, ℕ, ◌&&◌, ◌++◌, ◌<◌, ◌==◌, ◌∙◌, ◌∷◌, ◌≡◌, ◌≢◌}
use Rattle.std.proofs.Common.{map as list_map}
use Rattle.std.specs.FinMap as map
use Rattle.sessions.specs.Rooms.{rows}

-- the rows by client
abbrev bare : List Session → List (ℕ × ℕ) → List (ℕ × Row)
bare ss es = list_map (λ e. (e.0, row_at ss e.1)) es

below_bare : (ss : List Session) (x : ℕ) (es : List (ℕ × ℕ)) → below_all nat_cmp x (bare ss es) ≡ below_all nat_cmp x es
below_bare ss x [] = refl
below_bare ss x (e ∷ es) = ap (λ b. is_lt (nat_cmp x e.0) && b) (below_bare ss x es)

sorted_bare : (ss : List Session) (es : List (ℕ × ℕ)) → is_sorted nat_cmp (bare ss es) ≡ is_sorted nat_cmp es
sorted_bare ss [] = refl
sorted_bare ss (e ∷ es) = ap₂ (λ a b. a && b) (below_bare ss e.0 es) (sorted_bare ss es)

find_bare : (ss : List Session) (q : ℕ) (es : List (ℕ × ℕ)) → find nat_cmp q (bare ss es) ≡ option_map (row_at ss) (find nat_cmp q es)
find_bare ss q [] = refl
find_bare ss q (e ∷ es) = go (eq_by_cmp nat_cmp q e.0) (find_bare ss q es)
  where
    go : (b : Bool) → find nat_cmp q (bare ss es) ≡ option_map (row_at ss) (find nat_cmp q es) → cond b (Some (row_at ss e.1)) (find nat_cmp q (bare ss es)) ≡ option_map (row_at ss) (cond b (Some e.1) (find nat_cmp q es))
    go true more = refl
    go false more = more

-- a client's row is that of its session
pub get-rows : (m : map.FinMap nat_cmp ℕ) (ss : List Session) (client : ℕ) → map.get (rows m ss) client ≡ option_map (row_at ss) (map.get m client)
unfolding rows
get-rows m ss client =
    get-from_sorted nat_cmp _ client (subst T (sym (sorted_bare ss (map.entries m))) (entries_sorted m))
    ∙ find_bare ss client (map.entries m)
    ∙ ap (option_map (row_at ss)) (sym (get-entries m client))

-- a client has a row where it has a session
pub row_there : (m : map.FinMap nat_cmp ℕ) (ss : List Session) (client : ℕ) → is_some (map.get (rows m ss) client) ≡ is_some (map.get m client)
row_there m ss client = ap is_some (get-rows m ss client) ∙ go (map.get m client)
  where
    go : (o : Option ℕ) → is_some (option_map (row_at ss) o) ≡ is_some o
    go None = refl
    go (Some i) = refl

pub no_row_there : (m : map.FinMap nat_cmp ℕ) (ss : List Session) (client : ℕ) → map.get m client ≡ None → map.get (rows m ss) client ≡ None
no_row_there m ss client none = get-rows m ss client ∙ ap (option_map (row_at ss)) none

-- the table of these rows
abbrev pub behind : ℕ → Rows → List ℕ → Table
behind forgotten rows changed = record { forgotten = forgotten; rows = rows; changed = changed }

pub same_behind : (f : ℕ) (r s : Rows) {c : List ℕ} → r ≡ s → behind f r c ≡ behind f s c
same_behind f r s {c} e = ap (λ (rs : Rows). behind f rs c) e

pub both_behind : (f : ℕ) (r s : Rows) (c d : List ℕ) → r ≡ s → c ≡ d → behind f r c ≡ behind f s d
both_behind f r s c d e g = ap₂ (behind f) e g

-- the same rows, in sessions that differ in their rooms or marks of change
pub rows_alike : (m : map.FinMap nat_cmp ℕ) (ss new : List Session) → ((i : ℕ) → row_at new i ≡ row_at ss i) → rows m new ≡ rows m ss
rows_alike m ss new same = same_map nat_cmp_total nat_cmp-IsAntisymmetric _ _ (λ q. get-rows m new q ∙ go (map.get m q) ∙ sym (get-rows m ss q))
  where
    go : (o : Option ℕ) → option_map (row_at new) o ≡ option_map (row_at ss) o
    go None = refl
    go (Some i) = ap Some (same i)

-- no sessions have no rows, and each a place of its own
pub rows-empty : rows map.empty [] ≡ map.empty
rows-empty = same_map nat_cmp_total nat_cmp-IsAntisymmetric _ _ (λ q.
    get-rows map.empty [] q ∙ ap (option_map (row_at [])) (get-empty nat_cmp q) ∙ sym (get-empty nat_cmp q))

pub indexed_none : AreIndexed map.empty []
indexed_none = record {
  in_range = λ client i is. absurd (none-some i (sym (get-empty nat_cmp client) ∙ is));
  apart = λ one other i is _. absurd (none-some i (sym (get-empty nat_cmp one) ∙ is));
}

-- where nothing is set aside nothing is below a mark
pub none_left : (m : map.FinMap nat_cmp Reply) (mark : ℕ) → m ≡ map.empty → m ≡ map.retain_keys m (is_from nat_cmp mark)
none_left m mark none = same_map nat_cmp_total nat_cmp-IsAntisymmetric _ _ (λ q. at q ∙ sym (
    get-retain_keys m (is_from nat_cmp mark) q (λ x t. ap (is_from nat_cmp mark) (sym (nat_cmp-IsAntisymmetric q x t)))
    ∙ ap (λ o. cond (is_from nat_cmp mark q) o None) (at q) ∙ go (is_from nat_cmp mark q)))
  where
    at : (q : ℕ) → map.get m q ≡ None
    at q = ap (λ (n : map.FinMap nat_cmp Reply). map.get n q) none ∙ get-empty nat_cmp q

    go : (b : Bool) → cond {A = Option Reply} b None None ≡ None
    go true = refl
    go false = refl

-- with a client more
pub get_with : (m : map.FinMap nat_cmp ℕ) (client n q : ℕ) → map.get (map.insert m client n) q ≡ cond (q == client) (Some n) (map.get m q)
get_with m client n q = get-insert nat_cmp_total m client n q ∙ ap (λ b. cond b (Some n) (map.get m q)) (unsigned_tied q client)

module _ (m : map.FinMap nat_cmp ℕ) (ss : List Session) (client : ℕ) where
  -- a client that has a session, and one that has none
  pub row_known : (i : ℕ) → map.get m client ≡ Some i → row_or_none (map.get (rows m ss) client) ≡ row_at ss i
  row_known i is = ap row_or_none (get-rows m ss client ∙ ap (option_map (row_at ss)) is)

  pub row_unknown : map.get m client ≡ None → row_or_none (map.get (rows m ss) client) ≡ no_row
  row_unknown is = ap row_or_none (get-rows m ss client ∙ ap (option_map (row_at ss)) is)

  module _ (h : AreIndexed m ss) (i : ℕ) (its : map.get m client ≡ Some i) (w : Session) where
    here : (j : ℕ) → j ≡ i → row_at (set ss i w) j ≡ w.row
    here j e = ap (λ (s : Session). s.row) (get_or-set_at ss i j w no_session e (h.in_range client i its))

    elsewhere : (j : ℕ) → j ≢ i → row_at (set ss i w) j ≡ row_at ss j
    elsewhere j other = ap (λ (s : Session). s.row) (get_or-set_other ss i j w no_session other)

    pub written : rows m (set ss i w) ≡ map.insert (rows m ss) client w.row
    written = same_map nat_cmp_total nat_cmp-IsAntisymmetric _ _ (λ q.
        get-rows m (set ss i w) q
        ∙ go q (q == client) refl (map.get m q) refl
        ∙ sym (get-insert nat_cmp_total (rows m ss) client w.row q
        ∙ ap (λ b. cond b (Some w.row) (map.get (rows m ss) q)) (unsigned_tied q client)
        ∙ ap (cond (q == client) (Some w.row)) (get-rows m ss q)))
      where
        go : (q : ℕ) (b : Bool) → (q == client) ≡ b → (o : Option ℕ) → map.get m q ≡ o → option_map (row_at (set ss i w)) o ≡ cond b (Some w.row) (option_map (row_at ss) o)
        go q true one None is = absurd (none-some i (sym is ∙ ap (map.get m) (eqb-true q client one) ∙ its))
        go q true one (Some j) is = ap Some (here j (same_Some j i (sym is ∙ ap (map.get m) (eqb-true q client one) ∙ its)))
        go q false apart None is = refl
        go q false apart (Some j) is =
            ap Some (elsewhere j (λ same. false≢true (sym apart ∙ eq-eqb q client (h.apart q client i (is ∙ ap Some same) its))))

    -- the session that was read there
    pub read : (s : Session) → s ≡ get_or ss i s → s.row ≡ row_at ss i
    read s is = ap (λ (t : Session). t.row) (is ∙ get_or_default ss i s no_session (h.in_range client i its))

    -- with another room
    pub same_rows : (s : Session) → s ≡ get_or ss i s → w.row ≡ s.row → rows m (set ss i w) ≡ rows m ss
    same_rows s found equal = same_map nat_cmp_total nat_cmp-IsAntisymmetric _ _ (λ q.
        get-rows m (set ss i w) q ∙ go (map.get m q) ∙ sym (get-rows m ss q))
      where
        same : w.row ≡ row_at ss i
        same = equal ∙ read s found

        at : (j : ℕ) (b : Bool) → (j == i) ≡ b → row_at (set ss i w) j ≡ row_at ss j
        at j true one = let e = eqb-true j i one in here j e ∙ same ∙ ap (row_at ss) (sym e)
        at j false apart = elsewhere j (λ e. false≢true (sym apart ∙ eq-eqb j i e))

        go : (o : Option ℕ) → option_map (row_at (set ss i w)) o ≡ option_map (row_at ss) o
        go None = refl
        go (Some j) = ap Some (at j (j == i) refl)

    -- with one more reply as it was stored
    pub told_known : (f : ℕ) (s : Session) → s ≡ get_or ss i s → (tid : ℕ) (reply : Reply) → w.row ≡ row_with_told s.row tid f reply
        → rows m (set ss i w) ≡ (with_told (behind f (rows m ss) []) client tid reply).rows
    told_known f s found tid reply is =
        written ∙ ap (map.insert (rows m ss) client) (is ∙ ap (λ row. row_with_told row tid f reply) (read s found ∙ sym (row_known i its)))

    -- with one more reply, and without the replies below its mark
    pub noted_known : (f : ℕ) (s : Session) → s ≡ get_or ss i s → (tid oldest place : ℕ) → w.row ≡ noted_row s.row tid oldest place
        → rows m (set ss i w) ≡ (noted (behind f (rows m ss) []) client tid oldest place).rows
    noted_known f s found tid oldest place is =
        written ∙ ap (map.insert (rows m ss) client) (is ∙ ap (λ row. noted_row row tid oldest place) (read s found ∙ sym (row_known i its)))

    pub trimmed_known : (s : Session) → s ≡ get_or ss i s → w.row ≡ trimmed_row s.row → rows m (set ss i w) ≡ trimmed_found (rows m ss) client (map.get (rows m ss) client)
    trimmed_known s found less =
        written ∙ ap (map.insert (rows m ss) client) (less ∙ ap trimmed_row (read s found))
        ∙ ap (trimmed_found (rows m ss) client) (sym (get-rows m ss client ∙ ap (option_map (row_at ss)) its))

    -- and with a reply set aside, if it's kept
    pub kept_known : (s : Session) → s ≡ get_or ss i s → (f tid : ℕ) → is_kept_at f (map.get s.row.kept tid) ≡ is_kept_at f (map.get (row_or_none (map.get (rows m ss) client)).kept tid)
    kept_known s found f tid = ap (λ (r : Row). is_kept_at f (map.get r.kept tid)) (read s found ∙ sym (row_known i its))

    pub forgot_known : (s : Session) → s ≡ get_or ss i s → (f : ℕ) (e : Entry) → e.client ≡ client → w.row ≡ cond (is_kept_at f (map.get s.row.kept e.tid)) (row_with_aside s.row e.tid e.reply) s.row
        → rows m (set ss i w) ≡ (forget_first (behind f (rows m ss) []) e).rows
    forgot_known s found f e mine is =
        rw mine (go (is_kept_at f (map.get s.row.kept e.tid)) refl is ∙ ap (λ b. cond b (map.insert (rows m ss) client (row_with_aside (row_or_none (map.get (rows m ss) client)) e.tid e.reply)) (rows m ss)) (kept_known s found f e.tid))
      where
        go : (b : Bool) → is_kept_at f (map.get s.row.kept e.tid) ≡ b → w.row ≡ cond b (row_with_aside s.row e.tid e.reply) s.row
            → rows m (set ss i w) ≡ cond b (map.insert (rows m ss) client (row_with_aside (row_or_none (map.get (rows m ss) client)) e.tid e.reply)) (rows m ss)
        go true _ made = written ∙ ap (map.insert (rows m ss) client) (made ∙ ap (λ row. row_with_aside row e.tid e.reply) (read s found ∙ sym (row_known i its)))
        go false _ made = same_rows s found made

  -- nothing is kept of a client that has none
  pub kept_unknown : map.get m client ≡ None → (f tid : ℕ) → false ≡ is_kept_at f (map.get (row_or_none (map.get (rows m ss) client)).kept tid)
  kept_unknown is f tid = ap (is_kept_at f) (sym (get-empty nat_cmp tid)) ∙ ap (λ (r : Row). is_kept_at f (map.get r.kept tid)) (sym (row_unknown is))

  pub forgot_unknown : map.get m client ≡ None → (f : ℕ) (e : Entry) → e.client ≡ client → rows m ss ≡ (forget_first (behind f (rows m ss) []) e).rows
  forgot_unknown is f e mine = rw mine (ap (λ b. cond b (map.insert (rows m ss) client (row_with_aside (row_or_none (map.get (rows m ss) client)) e.tid e.reply)) (rows m ss)) (kept_unknown is f e.tid))

  -- no session
  pub trimmed_unknown : map.get m client ≡ None → rows m ss ≡ trimmed_found (rows m ss) client (map.get (rows m ss) client)
  trimmed_unknown is = ap (trimmed_found (rows m ss) client) (sym (get-rows m ss client ∙ ap (option_map (row_at ss)) is))

  -- the first session of a client comes
  module _ (h : AreIndexed m ss) (w : Session) where
    pub indexed_more : map.get m client ≡ None → AreIndexed (map.insert m client (length ss)) (ss ++ w ∷ [])
    indexed_more none = record {
      in_range = λ c i is. range c i (c == client) (sym (get_with m client (length ss) c) ∙ is);
      apart = λ one other i a b. only one other i (one == client) refl (other == client) refl (sym (get_with m client (length ss) one) ∙ a) (sym (get_with m client (length ss) other) ∙ b);
    }
      where
        range : (c i : ℕ) (b : Bool) → cond b (Some (length ss)) (map.get m c) ≡ Some i → i < length (ss ++ w ∷ [])
        range c i true is = omega (arith, length-append ss (w ∷ []), same_Some (length ss) i is)
        range c i false is = omega (arith, length-append ss (w ∷ []), h.in_range c i is)

        only : (one other i : ℕ) (b : Bool) → (one == client) ≡ b → (d : Bool) → (other == client) ≡ d
            → cond b (Some (length ss)) (map.get m one) ≡ Some i → cond d (Some (length ss)) (map.get m other) ≡ Some i → one ≡ other
        only one other i true e true f a b = eqb-true one client e ∙ sym (eqb-true other client f)
        only one other i true e false f a b = let low = h.in_range other i b in absurd (omega (arith, low, same_Some (length ss) i a))
        only one other i false e true f a b = let low = h.in_range one i a in absurd (omega (arith, low, same_Some (length ss) i b))
        only one other i false e false f a b = h.apart one other i a b

    pub rows_more : rows (map.insert m client (length ss)) (ss ++ w ∷ []) ≡ map.insert (rows m ss) client w.row
    rows_more = same_map nat_cmp_total nat_cmp-IsAntisymmetric _ _ (λ q.
        get-rows (map.insert m client (length ss)) (ss ++ w ∷ []) q
        ∙ ap (option_map (row_at (ss ++ w ∷ []))) (get_with m client (length ss) q)
        ∙ go q (q == client) (map.get m q) refl
        ∙ sym (get-insert nat_cmp_total (rows m ss) client w.row q
        ∙ ap (λ b. cond b (Some w.row) (map.get (rows m ss) q)) (unsigned_tied q client)
        ∙ ap (cond (q == client) (Some w.row)) (get-rows m ss q)))
      where
        go : (q : ℕ) (b : Bool) (o : Option ℕ) → map.get m q ≡ o → option_map (row_at (ss ++ w ∷ [])) (cond b (Some (length ss)) o) ≡ cond b (Some w.row) (option_map (row_at ss) o)
        go q true o is = ap (λ (s : Session). Some s.row) (get_or-append_seam ss w [] no_session)
        go q false None is = refl
        go q false (Some j) is = ap (λ (s : Session). Some s.row) (get_or_append_left ss (w ∷ []) no_session j (h.in_range q j is))

    pub noted_first : (f : ℕ) (fresh : Row) (tid oldest place : ℕ) → map.get m client ≡ None → fresh ≡ no_row → w.row ≡ noted_row fresh tid oldest place
        → rows (map.insert m client (length ss)) (ss ++ w ∷ []) ≡ (noted (behind f (rows m ss) []) client tid oldest place).rows
    noted_first f fresh tid oldest place is none more =
        rows_more ∙ ap (map.insert (rows m ss) client) (more ∙ ap (λ row. noted_row row tid oldest place) (none ∙ sym (row_unknown is)))
