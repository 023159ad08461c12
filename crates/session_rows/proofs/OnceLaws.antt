-- Rows say one thing, and what they say is read again.
use Rattle.session_rows.proofs.Common.{Bool, Err, List, None, Option, Reply, StoredClient, RowFault, Some, Told, [], ap, arith, cond, false, inl, inr, is_ok, little_bytes, none-some, refl, row_bytes, same_Some, sym, true, ℕ, ◌<◌, ◌^◌, ◌∙◌, ◌∷◌, ◌≡◌}
use Rattle.std.proofs.Common.{eqb-true, map, ◌==◌}
use Rattle.std.proofs.lemmas.Bool.{false≢true}
use Rattle.std.proofs.lemmas.List.{ext_get_or}
use Rattle.std.specs.FinMap as finmap
use Rattle.dirfrag_codec.specs.Grammar.{HasOneMeaning}
use Rattle.mds_types.specs.declared.entries.Entry.{Entry}
use Rattle.mds_types.specs.declared.ids.Ino.{Ino}
use Rattle.mds_types.specs.declared.ids.Rank.{Rank as RankNumber}
use Rattle.keeping.specs.Rows.{SessionRows}
use Rattle.sessions.specs.Restored.{IsStoredOf}
use Rattle.sessions.specs.Stored.{Stored, mark_or_none, reply_or_none, stored_of}
use Rattle.session_rows.proofs.RankLaws.{rank_again}
use Rattle.session_rows.proofs.SessionSteps.{stored_next}
use Rattle.session_rows.proofs.Walks.{no_row_spelled, one_row}
use Rattle.session_rows.specs.ClientRows.{IsNoRow}
use Rattle.session_rows.specs.Keys.{SpellsRowKey}
use Rattle.session_rows.specs.RankRows.{ReadsRank, SpellsRank}
use Rattle.session_rows.specs.Restoring.{IsRestoredOf, RefusesRows}
use Rattle.session_rows.specs.Sessions.{IsStorable, IsStoredNext, SpellsSessions, client_value, next_of, rank_value, row_of, told_entry}
use Rattle.session_rows.specs.declared.keys.Key.TheVariants.{Client, Rank}
use Rattle.session_rows.specs.declared.restoring.Restored.{Restored}
use Rattle.session_rows.specs.declared.rows_faults.RowsFault.{RowsFault}
use Rattle.session_rows.specs.declared.rows_faults.RowsFault.TheVariants.{Key, Client as DamagedClient, Rank as DamagedRank, NoMemory}

-- ---- what is stored of a client

untold_again : (rs : List (ℕ × Reply)) → map (λ (t : Told). (t.tid, t.reply)) (map told_entry rs) ≡ rs
untold_again [] = refl
untold_again (r ∷ rs) = ap (λ (l : List (ℕ × Reply)). r ∷ l) (untold_again rs)

same_stored : (a b : Stored) → a.client ≡ b.client → row_of a ≡ row_of b → a ≡ b
same_stored a b clients rows =
    let replies : a.replies ≡ b.replies = sym (untold_again a.replies) ∙ ap (λ (row : StoredClient). map (λ (t : Told). (t.tid, t.reply)) row.replies) rows ∙ untold_again b.replies in
    λ i. record { client = clients i; mark = (rows i).mark; replies = replies i }

of_client : (ss : List Stored) (client : ℕ) (s : Stored) → stored_of ss client ≡ Some s → s.client ≡ client
of_client [] client s e = absurd (none-some s e)
of_client (x ∷ xs) client s e = go (x.client == client) refl e (of_client xs client s)
  where
    go : (b : Bool) → (x.client == client) ≡ b → cond b (Some x) (stored_of xs client) ≡ Some s → (stored_of xs client ≡ Some s → s.client ≡ client) → s.client ≡ client
    go true one is more = ap (λ (t : Stored). t.client) (sym (same_Some x s is)) ∙ eqb-true x.client client one
    go false other is more = more is

one_value : (client : ℕ) (o p : Option Stored) → ((s : Stored) → o ≡ Some s → s.client ≡ client) → ((s : Stored) → p ≡ Some s → s.client ≡ client) → IsStorable client o → IsStorable client p
    → (client < 2 ^ 64 → client_value o ≡ client_value p) → o ≡ p
one_value client None None of_o of_p can could same = refl
one_value client None (Some t) of_o of_p can could same = absurd (none-some (row_bytes (row_of t)) (same could.0))
one_value client (Some s) None of_o of_p can could same = absurd (none-some (row_bytes (row_of s)) (sym (same can.0)))
one_value client (Some s) (Some t) of_o of_p can could same =
    let bytes : row_bytes (row_of s) ≡ row_bytes (row_of t) = same_Some (row_bytes (row_of s)) (row_bytes (row_of t)) (same can.0) in
    let rows = one_row (row_bytes (row_of s)) (row_of s) (row_of t) (record { known = can.1; spelled = refl }) (record { known = could.1; spelled = bytes }) in
    ap (λ (x : Stored). Some x) (same_stored s t (of_o s refl ∙ sym (of_p t refl)) rows)

pub one_content : (rows : SessionRows) (a b : List Stored) (m n : List ℕ) → SpellsSessions rows a m → SpellsSessions rows b n → (client : ℕ) → stored_of a client ≡ stored_of b client
one_content rows a b m n s t client =
    one_value client (stored_of a client) (stored_of b client) (of_client a client) (of_client b client) (s.storable client) (t.storable client) (λ fits. sym (s.clients client fits) ∙ t.clients client fits)

-- ---- the next number of a rank

one_next : (rank : RankNumber) → HasOneMeaning (SpellsRank rank) → (x y : ℕ) → IsStoredNext rank x → IsStoredNext rank y → rank_value x ≡ rank_value y → x ≡ y
one_next rank one x y (inl p) (inl q) same = p ∙ sym q
one_next rank one x y (inl p) (inr can) same = absurd (none-some (little_bytes 8 y) (ap rank_value (sym p) ∙ same ∙ stored_next rank y can))
one_next rank one x y (inr can) (inl q) same = absurd (none-some (little_bytes 8 x) (ap rank_value (sym q) ∙ sym same ∙ stored_next rank x can))
one_next rank one x y (inr can) (inr could) same =
    let bytes : little_bytes 8 x ≡ little_bytes 8 y = same_Some (little_bytes 8 x) (little_bytes 8 y) (sym (stored_next rank x can) ∙ same ∙ stored_next rank y could) in
    ap (λ (n : Ino). n.0) (one (little_bytes 8 x) (record { 0 = x }) (record { 0 = y }) (record { known = can; spelled = refl }) (record { known = could; spelled = bytes }))

pub one_nexts : ((rank : RankNumber) → HasOneMeaning (SpellsRank rank)) → (rows : SessionRows) (a b : List Stored) (m n : List ℕ) → SpellsSessions rows a m → SpellsSessions rows b n → m ≡ n
one_nexts one rows a b m n s t =
    ext_get_or 0 m n (s.long ∙ sym t.long) (λ i low.
    let rank : RankNumber = record { 0 = i } in
    let few : i < 16 = omega (arith, low, s.long) in
    one_next rank (one rank) (next_of m rank) (next_of n rank) (s.ranged rank few) (t.ranged rank few) (sym (s.ranks rank few) ∙ t.ranks rank few))

-- ---- what is written is read again

found_row : (client : ℕ) (o : Option Stored) (value : List ℕ) (fault : RowFault) → IsStorable client o → client_value o ≡ Some value → IsNoRow value fault → ⊥
found_row client None value fault can e why = none-some value e
found_row client (Some s) value fault can e why = no_row_spelled value fault (row_of s) why (record { known = can.1; spelled = sym (same_Some (row_bytes (row_of s)) value e) })

found_next : (rank : RankNumber) → HasOneMeaning (SpellsRank rank) → (x : ℕ) (value : List ℕ) (fault : RowFault) → IsStoredNext rank x → rank_value x ≡ Some value → ReadsRank rank value (Err fault) → ⊥
found_next rank one x value fault (inl p) e why = none-some value (ap rank_value (sym p) ∙ e)
found_next rank one x value fault (inr can) e why =
    let s : SpellsRank rank value (record { 0 = x }) = record { known = can; spelled = sym (same_Some (little_bytes 8 x) value (sym (stored_next rank x can) ∙ e)) } in
    false≢true (ap is_ok (rank_again rank one value (record { 0 = x }) (Err fault) s why))

pub none_refused : ((rank : RankNumber) → HasOneMeaning (SpellsRank rank)) → (rows : SessionRows) (stored : List Stored) (nexts : List ℕ) (fault : RowsFault) → SpellsSessions rows stored nexts → RefusesRows rows fault
    → fault ≡ NoMemory
none_refused one rows stored nexts Key s r = absurd (none-some r.value (sym (s.others r.key r.refused) ∙ r.found))
none_refused one rows stored nexts (DamagedClient client fault) s r =
    let key : SpellsRowKey r.key (Client client) = r.refused.0 in
    absurd (found_row client (stored_of stored client) r.value fault (s.storable client) (sym (s.clients client key.known) ∙ ap (finmap.get rows) (sym key.spelled) ∙ r.found) r.refused.1)
none_refused one rows stored nexts (DamagedRank rank fault) s r =
    let key : SpellsRowKey r.key (Rank rank) = r.refused.0 in
    absurd (found_next rank (one rank) (next_of nexts rank) r.value fault (s.ranged rank key.known) (sym (s.ranks rank key.known) ∙ ap (finmap.get rows) (sym key.spelled) ∙ r.found) r.refused.1)
none_refused one rows stored nexts NoMemory s r = refl

pub still_stored : (history : List Entry) (rows : SessionRows) (stored : List Stored) (nexts : List ℕ) (read : Restored) → SpellsSessions rows stored nexts → IsStoredOf history stored → (r : IsRestoredOf rows read)
    → IsStoredOf history r.stored
still_stored history rows stored nexts read s h r =
    let same : (client : ℕ) → stored_of r.stored client ≡ stored_of stored client = one_content rows r.stored stored read.nexts nexts r.spelled s in
    record {
      marks = λ client. ap mark_or_none (same client) ∙ h.marks client;
      replies = λ client tid. ap (λ (o : Option Stored). reply_or_none o tid) (same client) ∙ h.replies client tid;
    }
