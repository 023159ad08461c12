-- Sessions that begin again from what was stored.
use Rattle.sessions.proofs.Common.{reply_stored, ArePairsOnce, AreSetAside, IsPairAt, Bool, Entry, IsAsideFor, IsReplyPlace, IsRestored, IsTableOf, List, None, Option, Reply, Row, Some, Stored, Table, [], ap, ap₂, append-nil, arith, aside_in, cond, eq-eqb, eqb-true, false, false≢true, get-empty, get-insert, get_or-append_seam, is_pair, is_some, kept_in, length, length-append, list_any, list_any-append, mark, mark_in, mark_or_none, marked_row, max, nat_cmp, nat_cmp_total, nat_eq_equiv, no_row, no_table, none-some, of_mark, refl, reply_in, reply_or_none, row_in, row_or_none, row_with_told, slice_index_or, stand_in, stored_of, subst, sym, stand_ins, mark_stand_in, true, unsigned_tied, with_client, with_reply, with_told, ℕ, ◌&&◌, ◌+◌, ◌++◌, ◌<◌, ◌==◌, ◌||◌, ◌∙◌, ◌∷◌, ◌≡◌, ◌≤◌}
use Rattle.std.specs.FinMap as map
use Rattle.mds_types.specs.declared.replies.Reply.TheVariants.{Done}
use Rattle.sessions.specs.Restored.{IsUnfitFor, IsUnfitReply}
use Rattle.sessions.specs.declared.restoring.Unfit.{Unfit}
use Rattle.sessions.specs.declared.restoring.Unfit.TheVariants.{BelowMark, ClientTwice, NoClient, NoMemory, ReplyTwice}
use Rattle.sessions.proofs.AsideLaws.{aside_none}
use Rattle.sessions.proofs.StoredLaws.{aside_next, aside_up, asides, last_unknown, new_pair, none_aside, none_of, once_more, pairs_more, reply_more, stored_with, table_next, told_marked, told_replied}
use Rattle.sessions.proofs.TableLaws.{mark-push, others_kept, table-none}

row_none : (table : Table) (q : ℕ) → map.get table.rows q ≡ None → row_in table q ≡ no_row
row_none table q none = ap row_or_none none

-- nothing is stored
pub restored_none : IsRestored [] no_table
restored_none = record {
  clients = tt;
  known = λ q. ap is_some (get-empty nat_cmp q);
  marks = λ q. ap (λ (r : Row). r.mark) (row_none no_table q (get-empty nat_cmp q));
  replies = λ q tid. ap (λ (r : Row). map.get r.aside tid) (row_none no_table q (get-empty nat_cmp q)) ∙ get-empty nat_cmp tid;
  tabled = table-none;
  aside = aside_none;
  once = λ k e low. absurd (omega (arith, low));
}

-- of a pair a reply is kept where one is stored
pub kept_stored : (stored : List Stored) (table : Table) (client tid : ℕ) → IsRestored stored table → is_some (kept_in table client tid) ≡ is_some (reply_stored stored client tid)
kept_stored stored table client tid h =
    go (kept_in table client tid) (aside_in table client tid) (h.tabled.replies client tid) (asides (stand_ins stored) table h.tabled h.aside client tid) ∙ ap is_some (h.replies client tid)
  where
    go : (o : Option ℕ) (a : Option Reply) → IsReplyPlace (stand_ins stored) client tid o → IsAsideFor (stand_ins stored) table.forgotten o a → is_some o ≡ is_some a
    go None None k s = refl
    go None (Some reply) k s = absurd s
    go (Some place) None (_, stands) s = absurd (omega (arith, stands.in_range, s, h.aside.before))
    go (Some place) (Some reply) k s = refl

-- with a row more, or another
module _ (table : Table) (forgotten client : ℕ) (row : Row) where
  abbrev after : Table
  after = record table { forgotten = forgotten; rows = map.insert table.rows client row }

  get_after : (q : ℕ) → map.get after.rows q ≡ cond (q == client) (Some row) (map.get table.rows q)
  get_after q = get-insert nat_cmp_total table.rows client row q ∙ ap (λ b. cond b (Some row) (map.get table.rows q)) (unsigned_tied q client)

  row_after : (q : ℕ) → row_in after q ≡ cond (q == client) row (row_in table q)
  row_after q = ap row_or_none (get_after q) ∙ go (q == client)
    where
      go : (b : Bool) → row_or_none (cond b (Some row) (map.get table.rows q)) ≡ cond b row (row_in table q)
      go true = refl
      go false = refl

  -- what is stored of each client then
  module _ (was now : ℕ → Option Stored) (s : Stored) (is : (q : ℕ) → now q ≡ cond (q == client) (Some s) (was q)) where
    known_after : ((q : ℕ) → (q == client) ≡ false → is_some (map.get table.rows q) ≡ is_some (was q)) → (q : ℕ) → is_some (map.get after.rows q) ≡ is_some (now q)
    known_after before q = ap is_some (get_after q) ∙ go (q == client) refl ∙ ap is_some (sym (is q))
      where
        go : (b : Bool) → (q == client) ≡ b → is_some (cond b (Some row) (map.get table.rows q)) ≡ is_some (cond b (Some s) (was q))
        go true one = refl
        go false apart = before q apart

    marks_after : ((q : ℕ) → (q == client) ≡ false → mark_in table q ≡ mark_or_none (was q)) → row.mark ≡ s.mark → (q : ℕ) → mark_in after q ≡ mark_or_none (now q)
    marks_after before same q = ap (λ (r : Row). r.mark) (row_after q) ∙ go (q == client) refl ∙ ap mark_or_none (sym (is q))
      where
        go : (b : Bool) → (q == client) ≡ b → (cond b row (row_in table q)).mark ≡ mark_or_none (cond b (Some s) (was q))
        go true one = same
        go false apart = before q apart

    replies_after : ((q tid : ℕ) → (q == client) ≡ false → aside_in table q tid ≡ reply_or_none (was q) tid) → ((tid : ℕ) → map.get row.aside tid ≡ reply_in s.replies tid)
        → (q tid : ℕ) → aside_in after q tid ≡ reply_or_none (now q) tid
    replies_after before same q tid = ap (λ (r : Row). map.get r.aside tid) (row_after q) ∙ go (q == client) refl ∙ ap (λ o. reply_or_none o tid) (sym (is q))
      where
        go : (b : Bool) → (q == client) ≡ b → map.get (cond b row (row_in table q)).aside tid ≡ reply_or_none (cond b (Some s) (was q)) tid
        go true one = same tid
        go false apart = before q tid apart

-- ---- a client was taken

-- how many entries tell a mark
pub tells_one : (client m : ℕ) → 0 < m → length (mark_stand_in client m) ≡ 1
tells_one client m low = go (m == 0) refl
  where
    go : (b : Bool) → (m == 0) ≡ b → length (cond b [] (stand_in client m 0 Done ∷ [])) ≡ 1
    go true is = absurd (omega (arith, low, eqb-true m 0 is))
    go false is = refl

pub tells_none : (client m : ℕ) → m ≤ 0 → length (mark_stand_in client m) ≡ 0
tells_none client m high = go (m == 0) refl
  where
    go : (b : Bool) → (m == 0) ≡ b → length (cond b [] (stand_in client m 0 Done ∷ [])) ≡ 0
    go true is = refl
    go false is = absurd (false≢true (sym is ∙ eq-eqb m 0 (omega (arith, high))))

-- with another row that says the same
module _ (whole : List Entry) (table : Table) (h : IsTableOf whole table) (aside : AreSetAside whole [] table) (forgotten : ℕ) (long : forgotten ≡ table.forgotten) (client : ℕ) (row : Row)
    (marked : row.mark ≡ mark_in table client) (kept : (t : ℕ) → map.get row.kept t ≡ kept_in table client t) (told_aside : (t : ℕ) → map.get row.aside t ≡ aside_in table client t) where
  mark_same : (q : ℕ) → mark_in (after table forgotten client row) q ≡ mark_in table q
  mark_same q = ap (λ (r : Row). r.mark) (row_after table forgotten client row q) ∙ go (q == client) refl
    where
      go : (b : Bool) → (q == client) ≡ b → (cond b row (row_in table q)).mark ≡ mark_in table q
      go true one = marked ∙ ap (mark_in table) (sym (eqb-true q client one))
      go false apart = refl

  kept_same : (q t : ℕ) → kept_in (after table forgotten client row) q t ≡ kept_in table q t
  kept_same q t = ap (λ (r : Row). map.get r.kept t) (row_after table forgotten client row q) ∙ go (q == client) refl
    where
      go : (b : Bool) → (q == client) ≡ b → map.get (cond b row (row_in table q)).kept t ≡ kept_in table q t
      go true one = kept t ∙ ap (λ c. kept_in table c t) (sym (eqb-true q client one))
      go false apart = refl

  aside_same : (q t : ℕ) → aside_in (after table forgotten client row) q t ≡ aside_in table q t
  aside_same q t = ap (λ (r : Row). map.get r.aside t) (row_after table forgotten client row q) ∙ go (q == client) refl
    where
      go : (b : Bool) → (q == client) ≡ b → map.get (cond b row (row_in table q)).aside t ≡ aside_in table q t
      go true one = told_aside t ∙ ap (λ c. aside_in table c t) (sym (eqb-true q client one))
      go false apart = refl

  table_same : IsTableOf whole (after table forgotten client row)
  table_same = record {
    marks = λ q. mark_same q ∙ h.marks q;
    replies = λ q t. subst (IsReplyPlace whole q t) (sym (kept_same q t)) (h.replies q t);
  }

  aside_still : AreSetAside whole [] (after table forgotten client row)
  aside_still = record {
    before = aside.before ∙ sym long;
    aside = λ q t. subst (λ n. IsAsideFor (whole ++ []) n (kept_in (after table forgotten client row) q t) (aside_in (after table forgotten client row) q t)) (sym long)
        (subst (λ o. IsAsideFor (whole ++ []) table.forgotten o (aside_in (after table forgotten client row) q t)) (sym (kept_same q t))
        (subst (IsAsideFor (whole ++ []) table.forgotten (kept_in table q t)) (sym (aside_same q t)) (aside.aside q t)));
  }

module _ (stored : List Stored) (table : Table) (client m : ℕ) (h : IsRestored stored table) (none : map.get table.rows client ≡ None) where
  unknown : stored_of stored client ≡ None
  unknown = none_of (stored_of stored client) (sym (h.known client) ∙ ap is_some none)

  unmarked : mark_in table client ≡ 0
  unmarked = ap (λ (r : Row). r.mark) (row_none table client none)

  unkept : (tid : ℕ) → kept_in table client tid ≡ None
  unkept tid = ap (λ (r : Row). map.get r.kept tid) (row_none table client none) ∙ get-empty nat_cmp tid

  unheard : (tid : ℕ) → list_any (is_pair client tid) (stand_ins stored) ≡ false
  unheard tid = new_pair (stand_ins stored) table h.tabled h.aside client tid (omega (arith, unmarked)) (unkept tid)

  unaside : (tid : ℕ) → aside_in table client tid ≡ None
  unaside tid = none_aside (stand_ins stored) table h.tabled h.aside client tid (unkept tid)

  -- the history and the table with these entries
  record IsTold (es : List Entry) : Type 0 where
    tabled : IsTableOf (stand_ins stored ++ es) (after table (table.forgotten + length es) client (marked_row m))
    aside : AreSetAside (stand_ins stored ++ es) [] (after table (table.forgotten + length es) client (marked_row m))
    once : ArePairsOnce (stand_ins stored ++ es)

  -- a mark of 0 tells nothing
  told_nothing : m ≡ 0 → IsTold []
  told_nothing zero =
      let f : table.forgotten + 0 ≡ table.forgotten = omega arith in
      let row = marked_row m in
      let same_mark : row.mark ≡ mark_in table client = zero ∙ sym unmarked in
      let same_kept : (t : ℕ) → map.get row.kept t ≡ kept_in table client t = λ t. get-empty nat_cmp t ∙ sym (unkept t) in
      let same_aside : (t : ℕ) → map.get row.aside t ≡ aside_in table client t = λ t. get-empty nat_cmp t ∙ sym (unaside t) in
      let nil = sym (append-nil (stand_ins stored)) in
      record {
        tabled = subst (λ l. IsTableOf l (after table (table.forgotten + 0) client row)) nil (table_same (stand_ins stored) table h.tabled h.aside (table.forgotten + 0) f client row same_mark same_kept same_aside);
        aside = subst (λ l. AreSetAside l [] (after table (table.forgotten + 0) client row)) nil (aside_still (stand_ins stored) table h.tabled h.aside (table.forgotten + 0) f client row same_mark same_kept same_aside);
        once = subst ArePairsOnce nil h.once;
      }

  -- another tells itself
  told_itself : (m == 0) ≡ false → IsTold (stand_in client m 0 Done ∷ [])
  told_itself some = record {
    tabled = table_next (stand_ins stored) table h.tabled h.aside e (marked_row m) marked kept set_aside;
    aside = aside_next (stand_ins stored) table h.tabled h.aside e (marked_row m) marked kept set_aside;
    once = pairs_more (stand_ins stored) e h.once (unheard 0);
  }
    where
      e : Entry
      e = stand_in client m 0 Done

      before : mark (stand_ins stored) client ≡ 0
      before = sym (h.tabled.marks client) ∙ unmarked

      marked : m ≡ max (mark (stand_ins stored) client) m
      marked = omega (arith, before)

      risen : mark (stand_ins stored ++ e ∷ []) client ≡ m
      risen = mark-push (stand_ins stored) e client ∙ ap (λ b. cond b (max (mark (stand_ins stored) client) m) (mark (stand_ins stored) client)) (eq-eqb client client refl) ∙ sym marked

      above : (t : ℕ) → m ≤ t → (0 == t) ≡ false
      above t low = go (0 == t) refl
        where
          go : (b : Bool) → (0 == t) ≡ b → b ≡ false
          go false is = refl
          go true is = let at : 0 ≡ t = eqb-true 0 t is in absurd (false≢true (sym some ∙ eq-eqb m 0 (omega (arith, low, at))))

      absent : (t : ℕ) → IsReplyPlace (stand_ins stored ++ e ∷ []) client t None
      absent t low =
          list_any-append (is_pair client t) (stand_ins stored) (e ∷ [])
          ∙ ap₂ (λ a b. a || (b || false)) (unheard t) (ap (λ b. (client == client) && b) (above t (subst (λ n. n ≤ t) risen low)) ∙ never (client == client))
        where
          never : (b : Bool) → (b && false) ≡ false
          never true = refl
          never false = refl

      kept : (t : ℕ) → IsReplyPlace (stand_ins stored ++ e ∷ []) client t (map.get (marked_row m).kept t)
      kept t = subst (IsReplyPlace (stand_ins stored ++ e ∷ []) client t) (sym (get-empty nat_cmp t)) (absent t)

      set_aside : (t : ℕ) → IsAsideFor (stand_ins stored ++ e ∷ []) (table.forgotten + 1) (map.get (marked_row m).kept t) (map.get (marked_row m).aside t)
      set_aside t = nothing (map.get (marked_row m).kept t) (map.get (marked_row m).aside t) (get-empty nat_cmp t) (get-empty nat_cmp t)
        where
          nothing : (o : Option ℕ) (a : Option Reply) → o ≡ None → a ≡ None → IsAsideFor (stand_ins stored ++ e ∷ []) (table.forgotten + 1) o a
          nothing None None is also = tt
          nothing None (Some reply) is also = absurd (none-some reply (sym also))
          nothing (Some place) a is also = absurd (none-some place (sym is))

  told_after : IsTold (mark_stand_in client m)
  told_after = go (m == 0) refl
    where
      go : (b : Bool) → (m == 0) ≡ b → IsTold (cond b [] (stand_in client m 0 Done ∷ []))
      go true zero = told_nothing (eqb-true m 0 zero)
      go false some = told_itself some

  pub restored_client : IsRestored (stored ++ of_mark client m ∷ []) (with_client table client m)
  restored_client =
      let s = of_mark client m in
      let is = stored_with stored s unknown in
      let f = table.forgotten + length (mark_stand_in client m) in
      record {
        clients = once_more stored s h.clients unknown;
        known = known_after table f client (marked_row m) (stored_of stored) (stored_of (stored ++ s ∷ [])) s is (λ q _. h.known q);
        marks = marks_after table f client (marked_row m) (stored_of stored) (stored_of (stored ++ s ∷ [])) s is (λ q _. h.marks q) refl;
        replies = replies_after table f client (marked_row m) (stored_of stored) (stored_of (stored ++ s ∷ [])) s is (λ q tid _. h.replies q tid) (λ tid. get-empty nat_cmp tid);
        tabled = subst (λ l. IsTableOf l (with_client table client m)) (sym (told_marked stored client m)) told_after.tabled;
        aside = subst (λ l. AreSetAside l [] (with_client table client m)) (sym (told_marked stored client m)) told_after.aside;
        once = subst ArePairsOnce (sym (told_marked stored client m)) told_after.once;
      }

-- ---- a reply was taken

-- or it wasn't, as its client's row says
pub unfit_reply : (table : Table) (client tid : ℕ) (row : Row) → row ≡ row_in table client → (reason : Unfit) → IsUnfitFor row tid reason → IsUnfitReply table client tid reason
unfit_reply table client tid row is ClientTwice why = absurd why
unfit_reply table client tid row is NoClient why = absurd why
unfit_reply table client tid row is BelowMark why = subst (λ (r : Row). tid < r.mark) is why
unfit_reply table client tid row is ReplyTwice why = ap (λ (r : Row). is_some (map.get r.kept tid)) (sym is) ∙ why
unfit_reply table client tid row is NoMemory why = tt

module _ (stored : List Stored) (s : Stored) (table : Table) (tid : ℕ) (reply : Reply) (h : IsRestored (stored ++ s ∷ []) table)
    (low : mark_in table s.client ≤ tid) (none : kept_in table s.client tid ≡ None) where
  whole : List Entry
  whole = stand_ins (stored ++ s ∷ [])

  abbrev e : Entry
  e = stand_in s.client s.mark tid reply

  abbrev row : Row
  row = row_with_told (row_in table s.client) tid table.forgotten reply

  was : (q : ℕ) → stored_of (stored ++ s ∷ []) q ≡ cond (q == s.client) (Some s) (stored_of stored q)
  was q = stored_with stored s (last_unknown stored s h.clients).0 q

  its : stored_of (stored ++ s ∷ []) s.client ≡ Some s
  its = was s.client ∙ ap (λ b. cond b (Some s) (stored_of stored s.client)) (eq-eqb s.client s.client refl)

  others : (q : ℕ) → (q == s.client) ≡ false → stored_of (stored ++ s ∷ []) q ≡ stored_of stored q
  others q apart = was q ∙ ap (λ b. cond b (Some s) (stored_of stored q)) apart

  marked : mark_in table s.client ≡ s.mark
  marked = h.marks s.client ∙ ap mark_or_none its

  end : length (stand_ins (stored ++ s ∷ [])) ≡ table.forgotten
  end = h.aside.before

  risen : (row_in table s.client).mark ≡ max (mark (stand_ins (stored ++ s ∷ [])) s.client) s.mark
  risen = omega (arith, marked, h.tabled.marks s.client)

  mark_now : mark (stand_ins (stored ++ s ∷ []) ++ e ∷ []) s.client ≡ mark_in table s.client
  mark_now =
      mark-push (stand_ins (stored ++ s ∷ [])) e s.client
      ∙ ap (λ b. cond b (max (mark (stand_ins (stored ++ s ∷ [])) s.client) s.mark) (mark (stand_ins (stored ++ s ∷ [])) s.client)) (eq-eqb s.client s.client refl) ∙ sym risen

  kept_row : (t : ℕ) → map.get row.kept t ≡ cond (t == tid) (Some table.forgotten) (kept_in table s.client t)
  kept_row t = get-insert nat_cmp_total (row_in table s.client).kept tid table.forgotten t ∙ ap (λ b. cond b (Some table.forgotten) (kept_in table s.client t)) (unsigned_tied t tid)

  aside_row : (t : ℕ) → map.get row.aside t ≡ cond (t == tid) (Some reply) (aside_in table s.client t)
  aside_row t = get-insert nat_cmp_total (row_in table s.client).aside tid reply t ∙ ap (λ b. cond b (Some reply) (aside_in table s.client t)) (unsigned_tied t tid)

  at_end : (t : ℕ) → t ≡ tid → IsPairAt (stand_ins (stored ++ s ∷ []) ++ e ∷ []) s.client t table.forgotten
  at_end t same = subst (IsPairAt (stand_ins (stored ++ s ∷ []) ++ e ∷ []) s.client t) end (record {
    in_range = omega (arith, length-append (stand_ins (stored ++ s ∷ [])) (e ∷ []));
    pair = λ d. rw (get_or-append_seam (stand_ins (stored ++ s ∷ [])) e [] d, eq-eqb s.client s.client refl) (eq-eqb tid t (sym same));
  })

  kept_now : (t : ℕ) → IsReplyPlace (stand_ins (stored ++ s ∷ []) ++ e ∷ []) s.client t (map.get row.kept t)
  kept_now t = subst (IsReplyPlace (stand_ins (stored ++ s ∷ []) ++ e ∷ []) s.client t) (sym (kept_row t)) (go (t == tid) refl)
    where
      go : (b : Bool) → (t == tid) ≡ b → IsReplyPlace (stand_ins (stored ++ s ∷ []) ++ e ∷ []) s.client t (cond b (Some table.forgotten) (kept_in table s.client t))
      go true one = let at = eqb-true t tid one in (omega (arith, mark_now, low, at), at_end t at)
      go false apart =
          let before = h.tabled.marks s.client in
          others_kept (stand_ins (stored ++ s ∷ [])) e s.client t (ap₂ (λ a b. a && b) (eq-eqb s.client s.client refl) (nat_eq_equiv.symm tid t ∙ apart)) (omega (arith, before, mark_now)) (λ under. omega (arith, under, before, mark_now))
          (kept_in table s.client t) (h.tabled.replies s.client t)

  aside_now : (t : ℕ) → IsAsideFor (stand_ins (stored ++ s ∷ []) ++ e ∷ []) (table.forgotten + 1) (map.get row.kept t) (map.get row.aside t)
  aside_now t = rw (kept_row t, aside_row t) (go (t == tid))
    where
      go : (b : Bool) → IsAsideFor (stand_ins (stored ++ s ∷ []) ++ e ∷ []) (table.forgotten + 1) (cond b (Some table.forgotten) (kept_in table s.client t)) (cond b (Some reply) (aside_in table s.client t))
      go true = (omega arith, λ d. ap (λ (x : Entry). x.reply) (sym (ap (λ n. slice_index_or (stand_ins (stored ++ s ∷ []) ++ e ∷ []) n d) (sym end) ∙ get_or-append_seam (stand_ins (stored ++ s ∷ [])) e [] d)))
      go false = aside_up (stand_ins (stored ++ s ∷ [])) table h.tabled h.aside e s.client t (kept_in table s.client t) (aside_in table s.client t) (h.tabled.replies s.client t)
          (asides (stand_ins (stored ++ s ∷ [])) table h.tabled h.aside s.client t)

  none_stored : reply_in s.replies tid ≡ None
  none_stored = sym (h.replies s.client tid ∙ ap (λ o. reply_or_none o tid) its) ∙ none_aside (stand_ins (stored ++ s ∷ [])) table h.tabled h.aside s.client tid none

  pub restored_reply : IsRestored (stored ++ with_reply s tid reply ∷ []) (with_told table s.client tid reply)
  restored_reply =
      let n = with_reply s tid reply in
      let f = table.forgotten + 1 in
      let before = last_unknown stored s h.clients in
      let is = stored_with stored n before.0 in
      let more = sym (told_replied stored s tid reply) in
      record {
        clients = once_more stored n before.1 before.0;
        known = known_after table f s.client row (stored_of stored) (stored_of (stored ++ n ∷ [])) n is (λ q apart. h.known q ∙ ap is_some (others q apart));
        marks = marks_after table f s.client row (stored_of stored) (stored_of (stored ++ n ∷ [])) n is (λ q apart. h.marks q ∙ ap mark_or_none (others q apart)) marked;
        replies = replies_after table f s.client row (stored_of stored) (stored_of (stored ++ n ∷ [])) n is (λ q t apart. h.replies q t ∙ ap (λ o. reply_or_none o t) (others q apart))
            (λ t. aside_row t ∙ ap (cond (t == tid) (Some reply)) (h.replies s.client t ∙ ap (λ o. reply_or_none o t) its) ∙ sym (reply_more s.replies tid reply t none_stored));
        tabled = subst (λ l. IsTableOf l (with_told table s.client tid reply)) more (table_next (stand_ins (stored ++ s ∷ [])) table h.tabled h.aside e row risen kept_now aside_now);
        aside = subst (λ l. AreSetAside l [] (with_told table s.client tid reply)) more (aside_next (stand_ins (stored ++ s ∷ [])) table h.tabled h.aside e row risen kept_now aside_now);
        once = subst ArePairsOnce more (pairs_more (stand_ins (stored ++ s ∷ [])) e h.once (new_pair (stand_ins (stored ++ s ∷ [])) table h.tabled h.aside s.client tid low none));
      }
