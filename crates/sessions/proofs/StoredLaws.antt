-- What is stored, the history that the clients were told, and the table of it with one entry more.
use Rattle.sessions.proofs.Common.{AreClientsOnce, ArePairsOnce, AreSetAside, Bool, Entry, IsAsideFor, IsReplyPlace, IsTableOf, List, None, Option, Reply, Row, Some, Stored, Table, [], ap, ap₂, append-nil, append_assoc, arith, aside_in, cond, eq-eqb, eqb-true, false, false≢true, get-insert, get_or-append_seam, get_or_append_left, is_pair, is_some, kept_in, length, length-append, list_any, map-append, mark, mark_in, max, nat_cmp_total, nat_eq_equiv, none-some, of_mark, refl, reply_in, row_in, row_or_none, slice_index_or, stand_in, stored_of, subst, sym, take, take-append-le, take-append_seam, stand_ins, mark_stand_in, stand_ins_of, true, unsigned_tied, with_reply, ℕ, ◌&&◌, ◌+◌, ◌++◌, ◌<◌, ◌==◌, ◌∙◌, ◌∷◌, ◌≡◌, ◌≤◌}
use Rattle.std.proofs.Common.{map as list_map}
use Rattle.std.specs.FinMap as map
use Rattle.sessions.proofs.AsideLaws.{still_aside}
use Rattle.sessions.proofs.TableLaws.{mark-push, others_kept}

-- ---- what is stored

abbrev or_else : {A : Type 0} → Option A → Option A → Option A
or_else (Some x) o = Some x
or_else None o = o

abbrev if_so : {A : Type 0} → Bool → A → Option A
if_so b x = cond b (Some x) None

pub none_of : {A : Type 0} (o : Option A) → is_some o ≡ false → o ≡ None
none_of None _ = refl
none_of (Some x) never = absurd (false≢true (sym never))

stored_more : (stored : List Stored) (s : Stored) (q : ℕ) → stored_of (stored ++ s ∷ []) q ≡ or_else (stored_of stored q) (if_so (s.client == q) s)
stored_more [] s q = refl
stored_more (x ∷ xs) s q = go (x.client == q) (stored_more xs s q)
  where
    go : (b : Bool) → stored_of (xs ++ s ∷ []) q ≡ or_else (stored_of xs q) (if_so (s.client == q) s)
        → cond b (Some x) (stored_of (xs ++ s ∷ []) q) ≡ or_else (cond b (Some x) (stored_of xs q)) (if_so (s.client == q) s)
    go true more = refl
    go false more = more

-- with one client more
module _ (stored : List Stored) (s : Stored) (unknown : stored_of stored s.client ≡ None) where
  pub stored_with : (q : ℕ) → stored_of (stored ++ s ∷ []) q ≡ cond (q == s.client) (Some s) (stored_of stored q)
  stored_with q = stored_more stored s q ∙ go (s.client == q) refl (q == s.client) (nat_eq_equiv.symm q s.client)
    where
      other : (o : Option Stored) → or_else o None ≡ o
      other None = refl
      other (Some x) = refl

      go : (b : Bool) → (s.client == q) ≡ b → (c : Bool) → c ≡ (s.client == q) → or_else (stored_of stored q) (if_so b s) ≡ cond c (Some s) (stored_of stored q)
      go true one true two = ap (λ o. or_else o (Some s)) (ap (stored_of stored) (sym (eqb-true s.client q one)) ∙ unknown)
      go true one false two = absurd (false≢true (two ∙ one))
      go false one true two = absurd (false≢true (sym (two ∙ one)))
      go false one false two = other (stored_of stored q)

pub once_more : (stored : List Stored) (s : Stored) → AreClientsOnce stored → stored_of stored s.client ≡ None → AreClientsOnce (stored ++ s ∷ [])
once_more [] s once unknown = (refl, tt)
once_more (x ∷ xs) s (first, once) unknown = go (x.client == s.client) refl unknown (once_more xs s once)
  where
    go : (b : Bool) → (x.client == s.client) ≡ b → cond b (Some x) (stored_of xs s.client) ≡ None → (stored_of xs s.client ≡ None → AreClientsOnce (xs ++ s ∷ []))
        → (stored_of (xs ++ s ∷ []) x.client ≡ None) × AreClientsOnce (xs ++ s ∷ [])
    go true one known more = absurd (none-some x (sym known))
    go false apart rest more = (stored_more xs s x.client ∙ ap₂ (λ o b. or_else o (if_so b s)) first (nat_eq_equiv.symm s.client x.client ∙ apart), more rest)

pub last_unknown : (stored : List Stored) (s : Stored) → AreClientsOnce (stored ++ s ∷ []) → (stored_of stored s.client ≡ None) × AreClientsOnce stored
last_unknown [] s once = (refl, tt)
last_unknown (x ∷ xs) s (first, once) =
    let rest = last_unknown xs s once in
    let both = parts (stored_of xs x.client) (s.client == x.client) (sym (stored_more xs s x.client) ∙ first) in
    (ap₂ (λ b o. cond b (Some x) o) (nat_eq_equiv.symm x.client s.client ∙ both.1) rest.0, (both.0, rest.1))
  where
    parts : (o : Option Stored) (b : Bool) → or_else o (if_so b s) ≡ None → (o ≡ None) × (b ≡ false)
    parts (Some y) b is = absurd (none-some y (sym is))
    parts None true is = absurd (none-some s (sym is))
    parts None false is = (refl, refl)

pub reply_more : (rs : List (ℕ × Reply)) (tid : ℕ) (reply : Reply) (t : ℕ) → reply_in rs tid ≡ None → reply_in (rs ++ (tid, reply) ∷ []) t ≡ cond (t == tid) (Some reply) (reply_in rs t)
reply_more [] tid reply t none = ap (λ b. cond b (Some reply) None) (nat_eq_equiv.symm tid t)
reply_more (r ∷ rs) tid reply t none = go (r.0 == t) refl (t == tid) refl (r.0 == tid) refl none (reply_more rs tid reply t)
  where
    go : (b : Bool) → (r.0 == t) ≡ b → (c : Bool) → (t == tid) ≡ c → (d : Bool) → (r.0 == tid) ≡ d → cond d (Some r.1) (reply_in rs tid) ≡ None
        → (reply_in rs tid ≡ None → reply_in (rs ++ (tid, reply) ∷ []) t ≡ cond (t == tid) (Some reply) (reply_in rs t))
        → cond b (Some r.1) (reply_in (rs ++ (tid, reply) ∷ []) t) ≡ cond c (Some reply) (cond b (Some r.1) (reply_in rs t))
    go b one c two true same known more = absurd (none-some r.1 (sym known))
    go true one true two false apart rest more = absurd (false≢true (sym apart ∙ eq-eqb r.0 tid (eqb-true r.0 t one ∙ eqb-true t tid two)))
    go true one false two false apart rest more = refl
    go false one c two false apart rest more = more rest ∙ ap (λ b. cond b (Some reply) (reply_in rs t)) two

-- ---- the history that was told

told_more : (stored : List Stored) (s : Stored) → stand_ins (stored ++ s ∷ []) ≡ stand_ins stored ++ stand_ins_of s
told_more [] s = append-nil (stand_ins_of s)
told_more (x ∷ xs) s = ap (λ l. stand_ins_of x ++ l) (told_more xs s) ∙ sym (append_assoc (stand_ins_of x) (stand_ins xs) (stand_ins_of s))

pub told_marked : (stored : List Stored) (client mark : ℕ) → stand_ins (stored ++ of_mark client mark ∷ []) ≡ stand_ins stored ++ mark_stand_in client mark
told_marked stored client mark = told_more stored (of_mark client mark) ∙ ap (λ l. stand_ins stored ++ l) (append-nil (mark_stand_in client mark))

pub told_replied : (stored : List Stored) (s : Stored) (tid : ℕ) (reply : Reply)
    → stand_ins (stored ++ with_reply s tid reply ∷ []) ≡ stand_ins (stored ++ s ∷ []) ++ stand_in s.client s.mark tid reply ∷ []
told_replied stored s tid reply =
    let f : ℕ × Reply → Entry = λ r. stand_in s.client s.mark r.0 r.1 in
    told_more stored (with_reply s tid reply)
    ∙ ap (λ l. stand_ins stored ++ (mark_stand_in s.client s.mark ++ l)) (map-append f s.replies ((tid, reply) ∷ []))
    ∙ ap (λ l. stand_ins stored ++ l) (sym (append_assoc (mark_stand_in s.client s.mark) (list_map f s.replies) (f (tid, reply) ∷ [])))
    ∙ sym (append_assoc (stand_ins stored) (stand_ins_of s) (f (tid, reply) ∷ []))
    ∙ ap (λ l. l ++ f (tid, reply) ∷ []) (sym (told_more stored s))

-- a pair that is new stands once
pub pairs_more : (whole : List Entry) (e : Entry) → ArePairsOnce whole → list_any (is_pair e.client e.tid) whole ≡ false → ArePairsOnce (whole ++ e ∷ [])
pairs_more whole e once fresh k d low = go (k == length whole) refl
  where
    at_end : k ≡ length whole → slice_index_or (whole ++ e ∷ []) k d ≡ e
    at_end is = ap (λ n. slice_index_or (whole ++ e ∷ []) n d) is ∙ get_or-append_seam whole e [] d

    go : (b : Bool) → (k == length whole) ≡ b → list_any (is_pair (slice_index_or (whole ++ e ∷ []) k d).client (slice_index_or (whole ++ e ∷ []) k d).tid) (take k (whole ++ e ∷ [])) ≡ false
    go true is =
        let end = eqb-true k (length whole) is in
        ap₂ (λ (x : Entry) l. list_any (is_pair x.client x.tid) l) (at_end end) (ap (λ n. take n (whole ++ e ∷ [])) end ∙ take-append_seam whole (e ∷ [])) ∙ fresh
    go false apart =
        let below : k < length whole = omega (arith, low, length-append whole (e ∷ []), not_end) in
        ap₂ (λ (x : Entry) l. list_any (is_pair x.client x.tid) l) (get_or_append_left whole (e ∷ []) d k below) (take-append-le k whole (e ∷ []) (omega (arith, below))) ∙ once k d below
      where
        not_end : k ≡ length whole → ⊥
        not_end end = false≢true (sym apart ∙ eq-eqb k (length whole) end)

-- ---- the table of one entry more, that is forgotten

module _ (whole : List Entry) (table : Table) (h : IsTableOf whole table) (aside : AreSetAside whole [] table) where
  pub long : length whole ≡ table.forgotten
  long = aside.before

  pub asides : (q tid : ℕ) → IsAsideFor whole table.forgotten (kept_in table q tid) (aside_in table q tid)
  asides q tid = subst (λ l. IsAsideFor l table.forgotten (kept_in table q tid) (aside_in table q tid)) (append-nil whole) (aside.aside q tid)

  -- what is set aside stays so behind one more, which is forgotten too
  pub aside_up : (e : Entry) (q tid : ℕ) (o : Option ℕ) (a : Option Reply) → IsReplyPlace whole q tid o → IsAsideFor whole table.forgotten o a → IsAsideFor (whole ++ e ∷ []) (table.forgotten + 1) o a
  aside_up e q tid None None k s = tt
  aside_up e q tid None (Some reply) k s = absurd s
  aside_up e q tid (Some place) None (_, stands) s = absurd (omega (arith, stands.in_range, s, long))
  aside_up e q tid (Some place) (Some reply) (_, stands) (low, is) =
      let up = still_aside whole e table.forgotten (omega (arith, long)) (Some place) (Some reply) (low, is) in (omega (arith, low), up.1)

  -- nothing is set aside where nothing is kept
  pub none_aside : (q tid : ℕ) → kept_in table q tid ≡ None → aside_in table q tid ≡ None
  none_aside q tid none = go (kept_in table q tid) (aside_in table q tid) (asides q tid) none
    where
      go : (o : Option ℕ) (a : Option Reply) → IsAsideFor whole table.forgotten o a → o ≡ None → a ≡ None
      go None None s is = refl
      go None (Some reply) s is = absurd s
      go (Some place) a s is = absurd (none-some place (sym is))

  -- and where nothing is kept of a pair at or above the mark, it is new
  pub new_pair : (q tid : ℕ) → mark_in table q ≤ tid → kept_in table q tid ≡ None → list_any (is_pair q tid) whole ≡ false
  new_pair q tid low none = subst (IsReplyPlace whole q tid) none (h.replies q tid) (subst (λ m. m ≤ tid) (h.marks q) low)

  module _ (e : Entry) (row : Row) (marked : row.mark ≡ max (mark whole e.client) e.oldest)
      (kept : (t : ℕ) → IsReplyPlace (whole ++ e ∷ []) e.client t (map.get row.kept t)) (set_aside : (t : ℕ) → IsAsideFor (whole ++ e ∷ []) (table.forgotten + 1) (map.get row.kept t) (map.get row.aside t)) where
    abbrev next : Table
    next = record table { forgotten = table.forgotten + 1; rows = map.insert table.rows e.client row }

    row_next : (q : ℕ) → row_in next q ≡ cond (q == e.client) row (row_in table q)
    row_next q =
        ap row_or_none (get-insert nat_cmp_total table.rows e.client row q ∙ ap (λ b. cond b (Some row) (map.get table.rows q)) (unsigned_tied q e.client)) ∙ go (q == e.client)
      where
        go : (b : Bool) → row_or_none (cond b (Some row) (map.get table.rows q)) ≡ cond b row (row_in table q)
        go true = refl
        go false = refl

    unmarked : (q : ℕ) → (q == e.client) ≡ false → mark (whole ++ e ∷ []) q ≡ mark whole q
    unmarked q apart = mark-push whole e q ∙ ap (λ b. cond b (max (mark whole q) e.oldest) (mark whole q)) (nat_eq_equiv.symm e.client q ∙ apart)

    other_pair : (q tid : ℕ) → (q == e.client) ≡ false → is_pair q tid e ≡ false
    other_pair q tid apart = ap (λ b. b && (e.tid == tid)) (nat_eq_equiv.symm e.client q ∙ apart)

    pub table_next : IsTableOf (whole ++ e ∷ []) next
    table_next = record { marks = marks; replies = replies }
      where
        marks : (q : ℕ) → mark_in next q ≡ mark (whole ++ e ∷ []) q
        marks q = ap (λ (r : Row). r.mark) (row_next q) ∙ go (q == e.client) refl
          where
            go : (b : Bool) → (q == e.client) ≡ b → (cond b row (row_in table q)).mark ≡ mark (whole ++ e ∷ []) q
            go true same =
                let one = eqb-true q e.client same in
                marked ∙ sym (mark-push whole e q ∙ ap (λ b. cond b (max (mark whole q) e.oldest) (mark whole q)) (nat_eq_equiv.symm e.client q ∙ same) ∙ ap (λ c. max (mark whole c) e.oldest) one)
            go false apart = h.marks q ∙ sym (unmarked q apart)

        replies : (q tid : ℕ) → IsReplyPlace (whole ++ e ∷ []) q tid (kept_in next q tid)
        replies q tid = subst (λ (r : Row). IsReplyPlace (whole ++ e ∷ []) q tid (map.get r.kept tid)) (sym (row_next q)) (go (q == e.client) refl)
          where
            go : (b : Bool) → (q == e.client) ≡ b → IsReplyPlace (whole ++ e ∷ []) q tid (map.get (cond b row (row_in table q)).kept tid)
            go true same = subst (λ c. IsReplyPlace (whole ++ e ∷ []) c tid (map.get row.kept tid)) (sym (eqb-true q e.client same)) (kept tid)
            go false apart =
                let grown = unmarked q apart in
                others_kept whole e q tid (other_pair q tid apart) (omega (arith, grown)) (λ low. subst (λ m. m ≤ tid) (sym grown) low) (kept_in table q tid) (h.replies q tid)

    pub aside_next : AreSetAside (whole ++ e ∷ []) [] next
    aside_next = record {
      before = omega (arith, length-append whole (e ∷ []), long);
      aside = λ q tid. subst (λ l. IsAsideFor l (table.forgotten + 1) (kept_in next q tid) (aside_in next q tid)) (sym (append-nil (whole ++ e ∷ [])))
          (subst (λ (r : Row). IsAsideFor (whole ++ e ∷ []) (table.forgotten + 1) (map.get r.kept tid) (map.get r.aside tid)) (sym (row_next q)) (go q tid (q == e.client)));
    }
      where
        go : (q tid : ℕ) (b : Bool) → IsAsideFor (whole ++ e ∷ []) (table.forgotten + 1) (map.get (cond b row (row_in table q)).kept tid) (map.get (cond b row (row_in table q)).aside tid)
        go q tid true = set_aside tid
        go q tid false = aside_up e q tid (kept_in table q tid) (aside_in table q tid) (h.replies q tid) (asides q tid)
