-- A row that is written reply by reply, of replies whose numbers ascend.
use Rattle.session_rows.proofs.Common.{Ascend, List, Reply, StoredClient, SpellsRow, Told, [], ap, append-nil, append_assoc, next_from, next_number, refl, subst, sym, with_next_told, ℕ, ◌++◌, ◌+◌, ◌∙◌, ◌∷◌, ◌≡◌, ◌≤◌}
use Rattle.std.proofs.Common.{map}
use Rattle.session_rows.specs.Sessions.{told_entry}

-- a row with these replies behind its own
abbrev pub with_all : StoredClient → List Told → StoredClient
with_all row told = record { mark = row.mark; replies = row.replies ++ told }

-- the row so far, and the replies to come
pub record IsWritten (mark : ℕ) (all rest : List (ℕ × Reply)) (bytes : List ℕ) : Type 0 where
  pub row : StoredClient
  pub spelled : SpellsRow bytes row
  pub ascend : Ascend (next_number row) (map told_entry rest)
  pub whole : with_all row (map told_entry rest) ≡ record { mark = mark; replies = map told_entry all }

pub write_none : (mark : ℕ) (all rest : List (ℕ × Reply)) (bytes : List ℕ) → SpellsRow bytes (record { mark = mark; replies = [] }) → Ascend mark (map told_entry all) → rest ≡ all → IsWritten mark all rest bytes
write_none mark all rest bytes s up e =
    subst (λ (r : List (ℕ × Reply)). IsWritten mark all r bytes) (sym e) (record { row = record { mark = mark; replies = [] }; spelled = s; ascend = up; whole = refl })

next_more : (least : ℕ) (xs : List Told) (x : Told) → next_from least (xs ++ x ∷ []) ≡ x.tid + 1
next_more least [] x = refl
next_more least (y ∷ ys) x = next_more (y.tid + 1) ys x

pub write_one : (mark : ℕ) (all rest after : List (ℕ × Reply)) (bytes new : List ℕ) (tid : ℕ) (reply : Reply) → rest ≡ (tid, reply) ∷ after
    → ((row : StoredClient) → SpellsRow bytes row → next_number row ≤ tid → SpellsRow new (with_next_told row (record { tid = tid; reply = reply }))) → IsWritten mark all rest bytes → IsWritten mark all after new
write_one mark all rest after bytes new tid reply e push is =
    let told : Told = record { tid = tid; reply = reply } in
    let up : Ascend (next_number is.row) (told ∷ map told_entry after) = subst (λ (r : List (ℕ × Reply)). Ascend (next_number is.row) (map told_entry r)) e is.ascend in
    record {
      row = with_next_told is.row told;
      spelled = push is.row is.spelled up.0;
      ascend = subst (λ (n : ℕ). Ascend n (map told_entry after)) (sym (next_more is.row.mark is.row.replies told)) up.1;
      whole = (λ i. record { mark = is.row.mark; replies = append_assoc is.row.replies (told ∷ []) (map told_entry after) i }) ∙ ap (λ (r : List (ℕ × Reply)). with_all is.row (map told_entry r)) (sym e) ∙ is.whole;
    }

pub write_all : (mark : ℕ) (all rest : List (ℕ × Reply)) (bytes : List ℕ) → rest ≡ [] → IsWritten mark all rest bytes → SpellsRow bytes (record { mark = mark; replies = map told_entry all })
write_all mark all rest bytes e is =
    let whole = (λ i. record { mark = is.row.mark; replies = sym (append-nil is.row.replies) i }) ∙ ap (λ (r : List (ℕ × Reply)). with_all is.row (map told_entry r)) (sym e) ∙ is.whole in
    subst (SpellsRow bytes) whole is.spelled
