-- A row that gets a reply more, as it is written and as it is read.
use Rattle.session_rows.proofs.Common.{AllByRecursion, Ascend, BelowMark, Err, IfErr, IsErrAnd, IsRow, IsTold, IsTrue, IsNotRead, Length, List, MayKeep, NoMemory, NoReply, Ok, OnOk, OtherRange, OutOfOrder, ReadsRow, ReadsTold, Result, StoredClient, RowFault, Some, SpellsRow, Told, [], ap, append_assoc, arith, cond, counted_bytes, flat_map_more, inr, is_ok, length, length-append, little_bytes, ltb, next_from, next_number, nat_tests, none-some, reply_bytes, row_bytes, same_Some, slice_get, subst, suc, sym, told_bytes, with_next_told, ℕ, ◌++◌, ◌+◌, ◌-◌, ◌<◌, ◌∙◌, ◌∷◌, ◌≡◌, ◌≤◌}

ascend_more : (least : ℕ) (xs : List Told) (told : Told) → Ascend least xs → next_from least xs ≤ told.tid → Ascend least (xs ++ told ∷ [])
ascend_more least [] told up after = (after, tt)
ascend_more least (x ∷ xs) told (low, up) after = (low, ascend_more (x.tid + 1) xs told up after)

all_more : (xs : List Told) (told : Told) → AllByRecursion IsTold xs → IsTold told → AllByRecursion IsTold (xs ++ told ∷ [])
all_more [] told all known = (known, tt)
all_more (x ∷ xs) told (first, all) known = (first, all_more xs told all known)

row_more : (row : StoredClient) (told : Told) → IsRow row → IsTold told → next_number row ≤ told.tid → IsRow (with_next_told row told)
row_more row told is known after =
    record { mark = is.mark; told = all_more row.replies told is.told known; ascend = ascend_more row.mark row.replies told is.ascend after }

bytes_more : (row : StoredClient) (told : Told) → row_bytes row ++ told_bytes told ≡ row_bytes (with_next_told row told)
bytes_more row told = flat_map_more told_bytes (little_bytes 8 row.mark) row.replies told

pub spelled_more : (bytes : List ℕ) (row : StoredClient) (told : Told) → IsTold told → SpellsRow bytes row → next_number row ≤ told.tid → SpellsRow (bytes ++ told_bytes told) (with_next_told row told)
spelled_more bytes row told known s after =
    record { known = row_more row told s.known known after; spelled = ap (λ (t : List ℕ). t ++ told_bytes told) s.spelled ∙ bytes_more row told }

-- what was appended
pub pushed : {A E : Type 0} (r : Result A E) (new old text : List ℕ) (told : Told) → new ≡ cond (is_ok r) (old ++ text) old → text ≡ told_bytes told → IsTold told
    → OnOk r ((row : StoredClient) → SpellsRow old row → next_number row ≤ told.tid → SpellsRow new (with_next_told row told))
pushed (Ok x) new old text told e is known = λ row s after. subst (λ (t : List ℕ). SpellsRow t (with_next_told row told)) (sym (e ∙ ap (λ (t : List ℕ). old ++ t) is)) (spelled_more old row told known s after)
pushed (Err x) new old text told e is known = tt

-- ---- a row that is read

-- the last number tells which may follow
last_next : (least : ℕ) (xs : List Told) (last : Told) → slice_get xs (length xs - 1) ≡ Some last → next_from least xs ≡ last.tid + 1
last_next least [] last is = absurd (none-some last is)
last_next least (x ∷ []) last is = ap (λ (t : Told). t.tid + 1) (same_Some x last is)
last_next least (x ∷ y ∷ xs) last is = last_next (x.tid + 1) (y ∷ xs) last (sym (ap (slice_get (x ∷ y ∷ xs)) (one_back xs)) ∙ is)
  where
    one_back : (xs : List Told) → length (x ∷ y ∷ xs) - 1 ≡ suc (length (y ∷ xs) - 1)
    one_back xs = omega arith

pub may_follow : (least tid : ℕ) (xs : List Told) (last : Told) → slice_get xs (length xs - 1) ≡ Some last → (IsTrue (ltb last.tid tid) → next_from least xs ≤ tid) × (next_from least xs ≤ tid → IsTrue (ltb last.tid tid))
may_follow least tid xs last is = rw (last_next least xs last is) (λ e. grind (arith, nat_tests), λ h. grind (arith, nat_tests))

-- the row so far, and the bytes that are left
pub record IsRead (whole : List ℕ) (row : StoredClient) (rest : List ℕ) : Type 0 where
  pub known : IsRow row
  pub parts : whole ≡ row_bytes row ++ rest

pub read_more : (whole : List ℕ) (row new : StoredClient) (rest after : List ℕ) → IsRead whole row rest → ReadsTold row rest new after → IsRead whole new after
read_more whole row new rest after so r =
    let P : StoredClient → Type 0 = λ n. IsRead whole n after in
    subst P (sym r.read) (record {
      known = row_more row r.told so.known r.known r.ascends;
      parts = so.parts ∙ ap (λ (t : List ℕ). row_bytes row ++ t) r.parts ∙ sym (append_assoc (row_bytes row) (told_bytes r.told) after) ∙ ap (λ (t : List ℕ). t ++ after) (bytes_more row r.told);
    })

-- a reply takes bytes
pub fewer : (row new : StoredClient) (rest after : List ℕ) → ReadsTold row rest new after → length after < length rest
fewer row new rest after r = omega (arith, ap length r.parts, length-append (told_bytes r.told) after, length-append (little_bytes 8 r.told.tid) (counted_bytes 4 (reply_bytes r.told.reply)))

-- memory is wanting for a reply that may be kept
pub wanting : {A : Type 0} (r : Result A RowFault) (row : StoredClient) (bytes : List ℕ) → IsErrAnd r (λ fault. fault ≡ NoMemory) → MayKeep row bytes → IfErr r (IsNotRead row bytes)
wanting (Ok x) row bytes e may = tt
wanting (Err fault) row bytes e may = subst (IsNotRead row bytes) (sym e) may

-- why no further reply is read is why the whole is no row
pub no_row : (whole : List ℕ) (row : StoredClient) (rest : List ℕ) (fault : RowFault) → IsRead whole row rest → (rest ≡ [] → ⊥) → IsNotRead row rest fault → ReadsRow whole (Err fault)
no_row whole row rest Length so more wrong = inr (record { front = row; rest = rest; known = so.known; parts = so.parts; more = more; wrong = wrong })
no_row whole row rest BelowMark so more wrong = inr (record { front = row; rest = rest; known = so.known; parts = so.parts; more = more; wrong = wrong })
no_row whole row rest OutOfOrder so more wrong = inr (record { front = row; rest = rest; known = so.known; parts = so.parts; more = more; wrong = wrong })
no_row whole row rest NoReply so more wrong = inr (record { front = row; rest = rest; known = so.known; parts = so.parts; more = more; wrong = wrong })
no_row whole row rest NoMemory so more wrong = record { front = row; rest = rest; known = so.known; parts = so.parts; next = wrong }
no_row whole row rest OtherRange so more wrong = wrong
