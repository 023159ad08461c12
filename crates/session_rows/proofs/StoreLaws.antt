-- Edits that store what is kept of the changed clients, and next numbers.
use Rattle.session_rows.proofs.Common.{Bool, List, None, Option, Some, [], ap, arith, cond, false, length, little_bytes, ltb, refl, subst, suc, sym, take, true, zero, ℕ, ◌++◌, ◌+◌, ◌<◌, ◌^◌, ◌∙◌, ◌∷◌, ◌≡◌, ◌≤◌}
use Rattle.std.proofs.Common.{eq-eqb, eqb-true, get_or, option_map, ◌==◌, ◌||◌}
use Rattle.std.proofs.lemmas.Bool.{false≢true, ltb-false, ltb-true}
use Rattle.std.proofs.lemmas.List.{take_all, take_more}
use Rattle.std.specs.Cmp.{nat_eq_equiv}
use Rattle.std.specs.FinMap as finmap
use Rattle.mds_types.specs.declared.entries.Entry.{Entry}
use Rattle.mds_types.specs.declared.ids.Rank.{Rank as RankNumber}
use Rattle.keeping.specs.Rows.{SessionRows, rows_after_edits, with_row_value}
use Rattle.keeping.specs.declared.rows.RowEdit.{RowEdit}
use Rattle.sessions.proofs.ChangedLaws.{among_more}
use Rattle.sessions.specs.Restored.{row_stored}
use Rattle.sessions.specs.Rooms.{is_among}
use Rattle.sessions.specs.Stored.{Stored, stored_of}
use Rattle.sessions.specs.Table.{Row as SessionRow, Table}
use Rattle.session_rows.proofs.SessionSteps.{client_set, rank_set}
use Rattle.session_rows.specs.Keys.{client_bytes, rank_bytes}
use Rattle.session_rows.specs.RankRows.{IsNextIno}
use Rattle.session_rows.specs.Sessions.{AreNextInos, IsStorable, SpellsSessions, WritesClients, WritesSessions, client_value, kept_row, next_of, with_nexts}

-- ---- what is stored of a client, written anew

abbrev without : (client : ℕ) → List Stored → List Stored
without client [] = []
without client (s ∷ ss) = cond (s.client == client) (without client ss) (s ∷ without client ss)

-- the first is what is stored of a client
abbrev with_stored : Option Stored → (client : ℕ) → List Stored → List Stored
with_stored None client ss = without client ss
with_stored (Some s) client ss = s ∷ ss

abbrev IsOf : ℕ → Option Stored → Type 0
IsOf client None = Unit {0}
IsOf client (Some s) = s.client ≡ client

got_without : (client : ℕ) (ss : List Stored) (q : ℕ) → stored_of (without client ss) q ≡ cond (q == client) None (stored_of ss q)
got_without client [] q = go (q == client)
  where
    go : (b : Bool) → ◌≡◌ {A = Option Stored} None (cond b None None)
    go true = refl
    go false = refl
got_without client (s ∷ ss) q = go (s.client == client) refl (s.client == q) refl (q == client) refl (got_without client ss q)
  where
    go : (a : Bool) → (s.client == client) ≡ a → (b : Bool) → (s.client == q) ≡ b → (c : Bool) → (q == client) ≡ c → stored_of (without client ss) q ≡ cond c None (stored_of ss q)
        → stored_of (cond a (without client ss) (s ∷ without client ss)) q ≡ cond c None (cond b (Some s) (stored_of ss q))
    go true one b two true three more = more
    go true one true two false three more = absurd (false≢true (sym three ∙ eq-eqb q client (sym (eqb-true s.client q two) ∙ eqb-true s.client client one)))
    go true one false two false three more = more
    go false one true two true three more = absurd (false≢true (sym one ∙ eq-eqb s.client client (eqb-true s.client q two ∙ eqb-true q client three)))
    go false one false two true three more = ap (λ (b : Bool). cond b (Some s) (stored_of (without client ss) q)) two ∙ more
    go false one true two false three more = ap (λ (b : Bool). cond b (Some s) (stored_of (without client ss) q)) two
    go false one false two false three more = ap (λ (b : Bool). cond b (Some s) (stored_of (without client ss) q)) two ∙ more

got_stored : (found : Option Stored) (client : ℕ) (ss : List Stored) (q : ℕ) → IsOf client found → stored_of (with_stored found client ss) q ≡ cond (q == client) found (stored_of ss q)
got_stored None client ss q of = got_without client ss q
got_stored (Some s) client ss q of = ap (λ (b : Bool). cond b (Some s) (stored_of ss q)) (ap (λ (c : ℕ). c == q) of ∙ nat_eq_equiv.symm client q)

kept_is_of : (history : List Entry) (table : Table) (client : ℕ) → IsOf client (kept_row history table client)
kept_is_of history table client = go (finmap.get table.rows client)
  where
    go : (o : Option SessionRow) → IsOf client (option_map (λ _. row_stored history table client) o)
    go None = tt
    go (Some row) = refl

-- ---- one edit more

edited_more : (edits : List RowEdit) (edit : RowEdit) (rows : SessionRows) → rows_after_edits (edits ++ edit ∷ []) rows ≡ with_row_value edit.value edit.key (rows_after_edits edits rows)
edited_more [] edit rows = refl
edited_more (e ∷ es) edit rows = edited_more es edit (with_row_value e.value e.key rows)

pub no_edits : (history : List Entry) (table : Table) → WritesSessions history table [] [] []
no_edits history table rows stored before is = record { new = stored; spelled = is; anew = λ q. refl }

pub one_client : (history : List Entry) (table : Table) (changed : List ℕ) (edits : List RowEdit) (client : ℕ) (edit : RowEdit) → client < 2 ^ 64 → edit.key ≡ client_bytes client
    → edit.value ≡ client_value (kept_row history table client) → IsStorable client (kept_row history table client) → WritesSessions history table changed [] edits
    → WritesSessions history table (changed ++ client ∷ []) [] (edits ++ edit ∷ [])
one_client history table changed edits client edit fits key value can writes rows stored before is =
    let w : WritesClients history table changed stored (rows_after_edits edits rows) before = writes rows stored before is in
    let found = kept_row history table client in
    let new = with_stored found client w.new in
    let got : (q : ℕ) → stored_of new q ≡ cond (q == client) found (stored_of w.new q) = λ q. got_stored found client w.new q (kept_is_of history table client) in
    let spelled = client_set (rows_after_edits edits rows) w.new new before client found w.spelled fits can got in
    record {
      new = new;
      spelled = subst (λ (r : SessionRows). SpellsSessions r new before) (sym (edited_more edits edit rows ∙ (λ i. with_row_value (value i) (key i) (rows_after_edits edits rows)))) spelled;
      anew = λ q. got q ∙ ap (cond (q == client) found) (w.anew q) ∙ anew_by q (q == client) refl (is_among changed q) refl ∙ ap (λ (b : Bool). cond b (kept_row history table q) (stored_of stored q)) (sym (among_more changed client q));
    }
  where
    anew_by : (q : ℕ) (b : Bool) → (q == client) ≡ b → (c : Bool) → is_among changed q ≡ c
        → cond b (kept_row history table client) (cond c (kept_row history table q) (stored_of stored q)) ≡ cond (c || (client == q)) (kept_row history table q) (stored_of stored q)
    anew_by q true e true f = ap (kept_row history table) (sym (eqb-true q client e))
    anew_by q true e false f = ap (kept_row history table) (sym (eqb-true q client e)) ∙ ap (λ (b : Bool). cond b (kept_row history table q) (stored_of stored q)) (sym (nat_eq_equiv.symm client q ∙ e))
    anew_by q false e true f = refl
    anew_by q false e false f = ap (λ (b : Bool). cond b (kept_row history table q) (stored_of stored q)) (sym (nat_eq_equiv.symm client q ∙ e))

-- ---- next numbers

with_left : (n : ℕ) (xs ys : List ℕ) (q : ℕ) → q < n → n ≤ length xs → n ≤ length ys → get_or (with_nexts (take n xs) ys) q 0 ≡ get_or xs q 0
with_left zero xs ys q at low few = absurd (omega (arith, at))
with_left (suc n) [] ys q at low few = absurd (omega (arith, low))
with_left (suc n) (x ∷ xs) [] q at low few = absurd (omega (arith, few))
with_left (suc n) (x ∷ xs) (y ∷ ys) zero at low few = refl
with_left (suc n) (x ∷ xs) (y ∷ ys) (suc q) at low few = with_left n xs ys q (omega (arith, at)) (omega (arith, low)) (omega (arith, few))

with_right : (n : ℕ) (xs ys : List ℕ) (q : ℕ) → n ≤ q → n ≤ length xs → n ≤ length ys → get_or (with_nexts (take n xs) ys) q 0 ≡ get_or ys q 0
with_right zero xs ys q at low few = refl
with_right (suc n) [] ys q at low few = absurd (omega (arith, low))
with_right (suc n) (x ∷ xs) [] q at low few = absurd (omega (arith, few))
with_right (suc n) (x ∷ xs) (y ∷ ys) zero at low few = absurd (omega (arith, at))
with_right (suc n) (x ∷ xs) (y ∷ ys) (suc q) at low few = with_right n xs ys q (omega (arith, at)) (omega (arith, low)) (omega (arith, few))

with_long : (n : ℕ) (xs ys : List ℕ) → n ≤ length xs → n ≤ length ys → length (with_nexts (take n xs) ys) ≡ length ys
with_long zero xs ys low few = refl
with_long (suc n) [] ys low few = absurd (omega (arith, low))
with_long (suc n) (x ∷ xs) [] low few = absurd (omega (arith, few))
with_long (suc n) (x ∷ xs) (y ∷ ys) low few = ap suc (with_long n xs ys (omega (arith, low)) (omega (arith, few)))

one_further : (n : ℕ) (xs ys : List ℕ) (q : ℕ) → n < length xs → n < length ys
    → get_or (with_nexts (take (n + 1) xs) ys) q 0 ≡ cond (q == n) (get_or xs n 0) (get_or (with_nexts (take n xs) ys) q 0)
one_further n xs ys q low few = go (q == n) refl (ltb q n) refl
  where
    go : (b : Bool) → (q == n) ≡ b → (c : Bool) → ltb q n ≡ c → get_or (with_nexts (take (n + 1) xs) ys) q 0 ≡ cond b (get_or xs n 0) (get_or (with_nexts (take n xs) ys) q 0)
    go true e c f =
        let same = eqb-true q n e in with_left (n + 1) xs ys q (omega (arith, same)) (omega (arith, low)) (omega (arith, few)) ∙ ap (λ (k : ℕ). get_or xs k 0) same
    go false e true f =
        let at = ltb-true q n f in
        with_left (n + 1) xs ys q (omega (arith, at)) (omega (arith, low)) (omega (arith, few)) ∙ sym (with_left n xs ys q at (omega (arith, low)) (omega (arith, few)))
    go false e false f =
        let at = ltb-false q n f in
        let other : q ≡ n → ⊥ = λ same. false≢true (sym e ∙ eq-eqb q n same) in
        with_right (n + 1) xs ys q (omega (arith, at, other)) (omega (arith, low)) (omega (arith, few)) ∙ sym (with_right n xs ys q at (omega (arith, low)) (omega (arith, few)))

pub one_rank : (history : List Entry) (table : Table) (changed nexts : List ℕ) (i : ℕ) (edits : List RowEdit) (rank : RankNumber) (next : ℕ) (edit : RowEdit) → AreNextInos nexts → i < length nexts → rank.0 ≡ i
    → next ≡ get_or nexts i 0 → edit.key ≡ rank_bytes rank → edit.value ≡ Some (little_bytes 8 next) → WritesSessions history table changed (take i nexts) edits
    → WritesSessions history table changed (take (i + 1) nexts) (edits ++ edit ∷ [])
one_rank history table changed nexts i edits rank next edit are low at its key value writes rows stored before is =
    let w : WritesClients history table changed stored (rows_after_edits edits rows) (with_nexts (take i nexts) before) = writes rows stored before is in
    let old = with_nexts (take i nexts) before in
    let new = with_nexts (take (i + 1) nexts) before in
    let long : length new ≡ 16 = with_long (i + 1) nexts before (omega (arith, low)) (omega (arith, low, are.few, is.long)) ∙ is.long in
    let own : IsNextIno rank (record { 0 = next }) =
    subst (λ (n : ℕ). IsNextIno rank (record { 0 = n })) (ap (λ (k : ℕ). get_or nexts k 0) at ∙ sym its) (are.ranged rank (omega (arith, low, at))) in
    let got : (r : RankNumber) → r.0 < 16 → next_of new r ≡ cond (r.0 == rank.0) next (next_of old r) = λ r few.
    one_further i nexts before r.0 low (omega (arith, low, are.few, is.long)) ∙ (λ j. cond (r.0 == sym at j) (sym its j) (next_of old r)) in
    let spelled = rank_set (rows_after_edits edits rows) w.new old new rank next w.spelled (omega (arith, low, are.few, at)) own long got in
    record {
      new = w.new;
      spelled = subst (λ (r : SessionRows). SpellsSessions r w.new new) (sym (edited_more edits edit rows ∙ (λ j. with_row_value (value j) (key j) (rows_after_edits edits rows)))) spelled;
      anew = w.anew;
    }

-- ---- the loops

-- one client more of a list
pub next_client : (history : List Entry) (table : Table) (items changed : List ℕ) (i : ℕ) (edits new : List RowEdit) (edit : RowEdit) → items ≡ changed → i < length items → get_or items i 0 < 2 ^ 64
    → edit.key ≡ client_bytes (get_or items i 0) → edit.value ≡ client_value (kept_row history table (get_or items i 0)) → IsStorable (get_or items i 0) (kept_row history table (get_or items i 0))
    → new ≡ edits ++ edit ∷ [] → WritesSessions history table (take i changed) [] edits → WritesSessions history table (take (i + 1) changed) [] new
next_client history table items changed i edits new edit same low fits key value can e writes =
    let Q : List ℕ → Type 0 = λ l. WritesSessions history table (take (i + 1) l) [] new in
    let were : WritesSessions history table (take i items) [] edits = subst (λ (l : List ℕ). WritesSessions history table (take i l) [] edits) (sym same) writes in
    let are : WritesSessions history table (take i items ++ get_or items i 0 ∷ []) [] (edits ++ edit ∷ []) = one_client history table (take i items) edits (get_or items i 0) edit fits key value can were in
    subst Q same (subst (λ (l : List ℕ). WritesSessions history table l [] new) (sym (take_more items i 0 low)) (subst (λ (l : List RowEdit). WritesSessions history table (take i items ++ get_or items i 0 ∷ []) [] l) (sym e) are))

pub all_clients : (history : List Entry) (table : Table) (items changed : List ℕ) (i : ℕ) (edits : List RowEdit) → items ≡ changed → length items ≤ i → WritesSessions history table (take i changed) [] edits
    → WritesSessions history table changed [] edits
all_clients history table items changed i edits same high writes =
    subst (λ (l : List ℕ). WritesSessions history table l [] edits) (take_all i changed (omega (arith, high, ap length same))) writes

pub next_rank : (history : List Entry) (table : Table) (changed nexts : List ℕ) (i : ℕ) (edits new : List RowEdit) (rank : RankNumber) (next : ℕ) (edit : RowEdit) → AreNextInos nexts → i < length nexts → rank.0 ≡ i
    → next ≡ get_or nexts i 0 → edit.key ≡ rank_bytes rank → edit.value ≡ Some (little_bytes 8 next) → new ≡ edits ++ edit ∷ [] → WritesSessions history table changed (take i nexts) edits
    → WritesSessions history table changed (take (i + 1) nexts) new
next_rank history table changed nexts i edits new rank next edit are low at its key value e writes =
    subst (λ (l : List RowEdit). WritesSessions history table changed (take (i + 1) nexts) l) (sym e) (one_rank history table changed nexts i edits rank next edit are low at its key value writes)

pub all_ranks : (history : List Entry) (table : Table) (changed nexts : List ℕ) (i : ℕ) (edits : List RowEdit) → length nexts ≤ i → WritesSessions history table changed (take i nexts) edits
    → WritesSessions history table changed nexts edits
all_ranks history table changed nexts i edits high writes = subst (λ (l : List ℕ). WritesSessions history table changed l edits) (take_all i nexts high) writes
