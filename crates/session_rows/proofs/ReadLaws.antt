-- One row more is read.
use Rattle.session_rows.proofs.Common.{inr, Bool, IsRow, List, None, Option, StoredClient, Some, SpellsRow, Told, [], ap, arith, cond, false, length, none-some, refl, row_bytes, subst, sym, true, ℕ, ◌++◌, ◌<◌, ◌^◌, ◌∙◌, ◌∷◌, ◌≡◌}
use Rattle.std.proofs.Common.{eq-eqb, eqb-true, get_or, is_some, map, set, ◌==◌}
use Rattle.std.proofs.lemmas.Bool.{false≢true}
use Rattle.std.proofs.lemmas.Grind.{get_or-set_at}
use Rattle.std.specs.Prelude.{Err, Ok, OnOk, Result, is_err}
use Rattle.std.proofs.lemmas.List.{get_or-set_other, length-set}
use Rattle.std.specs.FinMap as finmap
use Rattle.mds_types.specs.declared.ids.Ino.{Ino}
use Rattle.mds_types.specs.declared.ids.Rank.{Rank as RankNumber}
use Rattle.sessions.proofs.StoredLaws.{none_of, stored_with}
use Rattle.sessions.specs.Rooms.{HeldSessions, table}
use Rattle.sessions.specs.Stored.{Stored, stored_of}
use Rattle.session_rows.proofs.SessionSteps.{client_set, rank_set}
use Rattle.session_rows.specs.Keys.{client_bytes, rank_bytes}
use Rattle.session_rows.specs.RankRows.{SpellsRank}
use Rattle.session_rows.specs.Restoring.{MayRead, MayTake, ReadsMore, RefusesRow, RestoresRow, stored_from}
use Rattle.session_rows.specs.Sessions.{SpellsSessions, client_value, next_of, row_of, told_entry}
use Rattle.session_rows.specs.declared.restoring.Restored.{Restored}
use Rattle.session_rows.specs.declared.rows_faults.RowsFault.TheVariants.{NoMemory}

-- ---- a rank

number_set : (xs : List ℕ) (at next : ℕ) → at < length xs → (q : ℕ) → get_or (set xs at next) q 0 ≡ cond (q == at) next (get_or xs q 0)
number_set xs at next low q = go (q == at) refl
  where
    go : (b : Bool) → (q == at) ≡ b → get_or (set xs at next) q 0 ≡ cond b next (get_or xs q 0)
    go true e = get_or-set_at xs at q next 0 (eqb-true q at e) low
    go false e = get_or-set_other xs at q next 0 (λ same. false≢true (sym e ∙ eq-eqb q at same))

pub rank_read : (old : Restored) (rank : RankNumber) (value : List ℕ) (next : Ino) (at : ℕ) → rank.0 < 16 → at ≡ rank.0 → SpellsRank rank value next
    → ReadsMore (rank_bytes rank) value old (record { sessions = old.sessions; nexts = set old.nexts at next.0 })
rank_read old rank value next at low same s rows is =
    let nexts = set old.nexts at next.0 in
    let got : (r : RankNumber) → r.0 < 16 → next_of nexts r ≡ cond (r.0 == rank.0) next.0 (next_of old.nexts r) = λ r few.
    number_set old.nexts at next.0 (omega (arith, is.spelled.long, low, same)) r.0 ∙ ap (λ (k : ℕ). cond (r.0 == k) next.0 (next_of old.nexts r)) same in
    let spelled = rank_set rows is.stored old.nexts nexts rank next.0 is.spelled low s.known (length-set old.nexts at next.0 ∙ is.spelled.long) got in
    record {
      stored = is.stored;
      spelled = subst (λ (v : List ℕ). SpellsSessions (finmap.insert rows (rank_bytes rank) v) is.stored nexts) (sym s.spelled) spelled;
      restored = is.restored;
      unchanged = is.unchanged;
    }

-- ---- a client

told_again : (xs : List Told) → map told_entry (map (λ (t : Told). (t.tid, t.reply)) xs) ≡ xs
told_again [] = refl
told_again (x ∷ xs) = ap (λ (l : List Told). x ∷ l) (told_again xs)

row_again : (client : ℕ) (row : StoredClient) → row_of (stored_from client row) ≡ row
row_again client row = λ i. record { mark = row.mark; replies = told_again row.replies i }

none_stored : (o : Option Stored) → client_value o ≡ None → o ≡ None
none_stored None e = refl
none_stored (Some s) e = absurd (none-some (row_bytes (row_of s)) (sym e))

pub may_take : (client : ℕ) (old : Restored) → client < 2 ^ 64 → MayRead (client_bytes client) old → MayTake client (table old.sessions)
may_take client old fits may = record {
  stored = may.known.stored;
  known = may.known.restored;
  absent = none_stored (stored_of may.known.stored client) (sym (may.known.spelled.clients client fits) ∙ may.absent);
}

pub client_read : (client : ℕ) (value : List ℕ) (old : Restored) (new : HeldSessions) (row : StoredClient) → client < 2 ^ 64 → MayRead (client_bytes client) old → SpellsRow value row → RestoresRow client row (table old.sessions) (table new)
    → new.changed ≡ old.sessions.changed → ReadsMore (client_bytes client) value old (record { sessions = new; nexts = old.nexts })
client_read client value old new row fits may s takes changed rows is =
    let m = may_take client old fits may in
    let one = stored_from client row in
    let unknown : stored_of is.stored client ≡ None =
    none_of (stored_of is.stored client) (sym (is.restored.known client) ∙ m.known.known client ∙ ap is_some m.absent) in
    let can : IsRow (row_of one) = subst IsRow (sym (row_again client row)) s.known in
    let spelled = client_set rows is.stored (is.stored ++ one ∷ []) old.nexts client (Some one) is.spelled fits (fits, can) (stored_with is.stored one unknown) in
    let bytes : row_bytes (row_of one) ≡ value = ap row_bytes (row_again client row) ∙ sym s.spelled in
    record {
      stored = is.stored ++ one ∷ [];
      spelled = subst (λ (v : List ℕ). SpellsSessions (finmap.insert rows (client_bytes client) v) (is.stored ++ one ∷ []) old.nexts) bytes spelled;
      restored = takes is.stored is.restored;
      unchanged = changed ∙ is.unchanged;
    }

-- what holds on success, where there is no error
pub ok_of : {A E P : Type 0} (r : Result A E) (b : Bool) → b ≡ is_err r → b ≡ false → OnOk r P → P
ok_of (Ok x) b is never p = p
ok_of (Err e) b is never p = absurd (false≢true (sym never ∙ is))

-- memory is wanting for a row that was read
pub row_wanting : (client : ℕ) (value : List ℕ) (row : StoredClient) → client < 2 ^ 64 → SpellsRow value row → RefusesRow (client_bytes client) value NoMemory
row_wanting client value row fits s = (client, record { known = fits; spelled = refl }, inr (row, s))
