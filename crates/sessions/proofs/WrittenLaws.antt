-- What is stored of the clients, changed ones and others, and what the history keeps.
use Rattle.sessions.proofs.Common.{ArePairsOnce, AreRowsOf, AreSetAside, Bool, Entry, IsStoredBut, IsStoredOf, IsTableOf, IsStoredAnew, List, None, Option, Row, Some, Stored, Table, [], ap, ap₂, cond, eqb-true, false, false≢true, get-empty, get-entries, is_among, is_from, is_pair, kept_replies, kept_reply, mark, mark_in, mark_or_none, mark_stored, max, nat_cmp, option_map, refl, reply_in, reply_or_none, reply_stored, reply_to, row_in, row_or_none, row_stored, stored_of, sym, true, with_changed, ℕ, ◌&&◌, ◌++◌, ◌==◌, ◌||◌, ◌∙◌, ◌∷◌, ◌≡◌}
use Rattle.std.specs.FinMap as map
use Rattle.sessions.proofs.ChangedLaws.{among_more}
use Rattle.sessions.proofs.ReplyLaws.{kept_is, reply_at, reply_found}
use Rattle.sessions.proofs.TableLaws.{mark-push}

-- what is stored of a client that is as the table says is what the history keeps of it
module _ (past history : List Entry) (table : Table) (h : IsTableOf (past ++ history) table) (aside : AreSetAside past history table) (once : ArePairsOnce (past ++ history)) where
  mark_found : (q : ℕ) (o : Option Row) → map.get table.rows q ≡ o → mark_or_none (option_map (λ _. row_stored history table q) o) ≡ mark_in table q
  mark_found q None none = ap (λ o. (row_or_none o).mark) (sym none)
  mark_found q (Some row) there = refl

  reply_kept : (q tid : ℕ) (o : Option Row) → map.get table.rows q ≡ o → reply_or_none (option_map (λ _. row_stored history table q) o) tid ≡ reply_in (kept_replies history table q) tid
  reply_kept q tid None none = sym (
      reply_found history table.forgotten (row_in table q).aside (map.entries (row_in table q).kept) tid
      ∙ ap (reply_at history table.forgotten (row_in table q).aside tid) (sym (get-entries (row_in table q).kept tid) ∙ ap (λ o. map.get (row_or_none o).kept tid) none ∙ get-empty nat_cmp tid))
  reply_kept q tid (Some row) there = refl

  mark_stored_is : (stored : List Stored) (q : ℕ) → stored_of stored q ≡ option_map (λ _. row_stored history table q) (map.get table.rows q) → mark_stored stored q ≡ mark (past ++ history) q
  mark_stored_is stored q is = ap mark_or_none is ∙ mark_found q (map.get table.rows q) refl ∙ h.marks q

  reply_stored_is : (stored : List Stored) (q tid : ℕ) → stored_of stored q ≡ option_map (λ _. row_stored history table q) (map.get table.rows q) → reply_stored stored q tid ≡ kept_reply (past ++ history) q tid
  reply_stored_is stored q tid is = ap (λ o. reply_or_none o tid) is ∙ reply_kept q tid (map.get table.rows q) refl ∙ kept_is past history table q tid h aside once

-- so of each client
pub rows_of : (past history : List Entry) (table : Table) (stored : List Stored) → IsTableOf (past ++ history) table → AreSetAside past history table → ArePairsOnce (past ++ history)
    → AreRowsOf history table stored → IsStoredOf (past ++ history) stored
rows_of past history table stored h aside once is = record {
  marks = λ q. mark_stored_is past history table h aside once stored q (is q);
  replies = λ q tid. reply_stored_is past history table h aside once stored q tid (is q);
}

-- and of the changed ones alone, where it was so of the others
pub written : (past history : List Entry) (table : Table) (changed : List ℕ) (stored new : List Stored) → IsTableOf (past ++ history) table → AreSetAside past history table → ArePairsOnce (past ++ history)
    → IsStoredBut (past ++ history) changed stored → IsStoredAnew history table changed stored new → IsStoredOf (past ++ history) new
written past history table changed stored new h aside once before is = record {
  marks = λ q. marks q (is_among changed q) refl (is q);
  replies = λ q tid. replies q tid (is_among changed q) refl (is q);
}
  where
    marks : (q : ℕ) (b : Bool) → is_among changed q ≡ b → stored_of new q ≡ cond b (option_map (λ _. row_stored history table q) (map.get table.rows q)) (stored_of stored q) → mark_stored new q ≡ mark (past ++ history) q
    marks q true one now = mark_stored_is past history table h aside once new q now
    marks q false other now = ap mark_or_none now ∙ before.marks q other

    replies : (q tid : ℕ) (b : Bool) → is_among changed q ≡ b → stored_of new q ≡ cond b (option_map (λ _. row_stored history table q) (map.get table.rows q)) (stored_of stored q)
        → reply_stored new q tid ≡ kept_reply (past ++ history) q tid
    replies q tid true one now = reply_stored_is past history table h aside once new q tid now
    replies q tid false other now = ap (λ o. reply_or_none o tid) now ∙ before.replies q tid other

-- ---- a request was applied

reply_behind : (l : List Entry) (e : Entry) (q tid : ℕ) → is_pair q tid e ≡ false → reply_to (l ++ e ∷ []) q tid ≡ reply_to l q tid
reply_behind [] e q tid other = ap (λ b. cond b (Some e.reply) None) other
reply_behind (x ∷ l) e q tid other = ap (cond (is_pair q tid x) (Some x.reply)) (reply_behind l e q tid other)

-- what is stored of the others stays what the history keeps
pub still_stored : (history : List Entry) (changed : List ℕ) (stored : List Stored) (e : Entry) → IsStoredBut history changed stored → IsStoredBut (history ++ e ∷ []) (with_changed changed e.client) stored
still_stored history changed stored e h = record {
  marks = λ q still. let its = apart q (is_among changed e.client) refl still in h.marks q its.0 ∙ sym (unmarked q its.1);
  replies = λ q tid still. let its = apart q (is_among changed e.client) refl still in
      h.replies q tid its.0 ∙ sym (ap₂ (λ m o. cond (is_from nat_cmp m tid) o None) (unmarked q its.1) (reply_behind history e q tid (ap (λ b. b && (e.tid == tid)) its.1)));
}
  where
    unmarked : (q : ℕ) → (e.client == q) ≡ false → mark (history ++ e ∷ []) q ≡ mark history q
    unmarked q other = mark-push history e q ∙ ap (λ b. cond b (max (mark history q) e.oldest) (mark history q)) other

    parts : (a b : Bool) → (a || b) ≡ false → (a ≡ false) × (b ≡ false)
    parts true b never = absurd (false≢true (sym never))
    parts false b is = (refl, is)

    apart : (q : ℕ) (b : Bool) → is_among changed e.client ≡ b → is_among (cond b changed (changed ++ e.client ∷ [])) q ≡ false → (is_among changed q ≡ false) × ((e.client == q) ≡ false)
    apart q true there still = (still, go (e.client == q) refl)
      where
        go : (c : Bool) → (e.client == q) ≡ c → c ≡ false
        go true one = absurd (false≢true (sym (ap (is_among changed) (eqb-true e.client q one) ∙ still) ∙ there))
        go false other = refl
    apart q false new still = parts (is_among changed q) (e.client == q) (sym (among_more changed e.client q) ∙ still)
