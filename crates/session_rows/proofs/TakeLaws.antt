-- A client that is taken over with the replies of its row, one after the other.
use Rattle.session_rows.proofs.Common.{Ascend, Bool, IsRow, List, None, Option, Reply, StoredClient, Some, Told, [], ap, append-nil, append_assoc, arith, cond, false, next_from, refl, subst, sym, true, ℕ, ◌++◌, ◌+◌, ◌<◌, ◌∙◌, ◌∷◌, ◌≡◌, ◌≤◌}
use Rattle.std.proofs.Common.{eq-eqb, eqb-true, is_some, map, ◌==◌}
use Rattle.std.proofs.lemmas.Bool.{false≢true}
use Rattle.std.proofs.lemmas.List.{map-append}
use Rattle.std.specs.FinMap as finmap
use Rattle.sessions.proofs.RestoredLaws.{kept_stored, restored_client, restored_reply}
use Rattle.sessions.proofs.StoredLaws.{none_of, stored_with}
use Rattle.sessions.specs.Restored.{IsRestored, TakesClient, TakesReply}
use Rattle.sessions.specs.Stored.{Stored, mark_or_none, of_mark, reply_in, reply_or_none, stored_of, with_reply}
use Rattle.sessions.specs.Table.{Table, kept_in, mark_in}
use Rattle.session_rows.specs.Restoring.{MayTake, RestoresRow, stored_from}

abbrev untold : Told → ℕ × Reply
untold t = (t.tid, t.reply)

-- ---- numbers that ascend

ascend_split : (least : ℕ) (xs ys : List Told) → Ascend least (xs ++ ys) → Ascend least xs × Ascend (next_from least xs) ys
ascend_split least [] ys up = (tt, up)
ascend_split least (x ∷ xs) ys (low, up) = let both = ascend_split (x.tid + 1) xs ys up in ((low, both.0), both.1)

grows : (least : ℕ) (xs : List Told) → Ascend least xs → least ≤ next_from least xs
grows least [] up = omega arith
grows least (x ∷ xs) (low, up) = omega (arith, low, grows (x.tid + 1) xs up)

other_number : (a b : ℕ) → a < b → (a == b) ≡ false
other_number a b low = go (a == b) refl
  where
    go : (t : Bool) → (a == b) ≡ t → t ≡ false
    go true e = let same = eqb-true a b e in absurd (omega (arith, low, same))
    go false e = refl

-- a number behind them has no reply among them
none_beyond : (least : ℕ) (xs : List Told) (tid : ℕ) → Ascend least xs → next_from least xs ≤ tid → reply_in (map untold xs) tid ≡ None
none_beyond least [] tid up low = refl
none_beyond least (x ∷ xs) tid (first, up) low =
    let behind : x.tid < tid = omega (arith, grows (x.tid + 1) xs up, low) in
    ap (λ (b : Bool). cond b (Some x.reply) (reply_in (map untold xs) tid)) (other_number x.tid tid behind) ∙ none_beyond (x.tid + 1) xs tid up low

-- ---- the replies so far

abbrev begun : StoredClient → List Told → StoredClient
begun row done = record { mark = row.mark; replies = done }

pub record IsTaken (client : ℕ) (row : StoredClient) (old now : Table) (rest : List Told) : Type 0 where
  pub done : List Told
  pub whole : done ++ rest ≡ row.replies
  pub takes : RestoresRow client (begun row done) old now

pub take_none : (client : ℕ) (row : StoredClient) (old now : Table) (rest : List Told) → TakesClient old now client row.mark → rest ≡ row.replies → IsTaken client row old now rest
take_none client row old now rest t e = record {
  done = [];
  whole = e;
  takes = λ stored h. subst (IsRestored (stored ++ of_mark client row.mark ∷ [])) (sym t.table) (restored_client stored old client row.mark h t.unknown);
}

module _ (client : ℕ) (row : StoredClient) (old now : Table) (rest after : List Told) (told : Told) (is : IsRow row) (may : MayTake client old) (so : IsTaken client row old now rest) (next : rest ≡ told ∷ after) where
  abbrev s : Stored
  s = stored_from client (begun row so.done)

  h : IsRestored (may.stored ++ s ∷ []) now
  h = so.takes may.stored may.known

  up : Ascend row.mark so.done × Ascend (next_from row.mark so.done) (told ∷ after)
  up = ascend_split row.mark so.done (told ∷ after) (subst (Ascend row.mark) (sym so.whole ∙ ap (λ (r : List Told). so.done ++ r) next) is.ascend)

  self_test : (b : Bool) → (client == client) ≡ b → b ≡ true
  self_test true e = refl
  self_test false e = absurd (false≢true (sym e ∙ eq-eqb client client refl))

  found : stored_of (may.stored ++ s ∷ []) client ≡ Some s
  found = stored_with may.stored s may.absent client ∙ ap (λ (b : Bool). cond b (Some s) (stored_of may.stored client)) (self_test (client == client) refl)

  pub next_known : is_some (finmap.get now.rows client) ≡ true
  next_known = h.known client ∙ ap is_some found

  pub next_marked : mark_in now client ≤ told.tid
  next_marked = let its : mark_in now client ≡ row.mark = h.marks client ∙ ap mark_or_none found in omega (arith, its, up.1.0, grows row.mark so.done up.0)

  pub next_absent : kept_in now client told.tid ≡ None
  next_absent =
      none_of (kept_in now client told.tid)
      (kept_stored (may.stored ++ s ∷ []) now client told.tid h ∙ ap (λ (o : Option Stored). is_some (reply_or_none o told.tid)) found ∙ ap is_some (none_beyond row.mark so.done told.tid up.0 up.1.0))

  pub take_one : (new : Table) → TakesReply now new client told.tid told.reply → IsTaken client row old new after
  take_one new t = record {
    done = so.done ++ told ∷ [];
    whole = append_assoc so.done (told ∷ []) after ∙ ap (λ (r : List Told). so.done ++ r) (sym next) ∙ so.whole;
    takes = λ stored known.
        let more : with_reply s told.tid told.reply ≡ stored_from client (begun row (so.done ++ told ∷ [])) = λ i. record { client = client; mark = row.mark; replies = sym (map-append untold so.done (told ∷ [])) i } in
        subst (λ (n : Stored). IsRestored (stored ++ n ∷ []) new) more
        (subst (IsRestored (stored ++ with_reply s told.tid told.reply ∷ [])) (sym t.table) (restored_reply stored s now told.tid told.reply (so.takes stored known) t.marked t.absent));
  }

pub take_all : (client : ℕ) (row : StoredClient) (old now : Table) (rest : List Told) → rest ≡ [] → IsTaken client row old now rest → RestoresRow client row old now
take_all client row old now rest e so =
    let whole : so.done ≡ row.replies = sym (append-nil so.done) ∙ ap (λ (r : List Told). so.done ++ r) (sym e) ∙ so.whole in
    subst (λ (d : List Told). RestoresRow client (begun row d) old now) whole so.takes
