-- What is kept of a client can be stored: the numbers of its replies ascend from its mark.
use Rattle.session_rows.proofs.Common.{Ascend, List, Reply, Some, [], ap, arith, refl, subst, ℕ, ◌++◌, ◌+◌, ◌<◌, ◌∙◌, ◌∷◌, ◌≡◌, ◌≤◌}
use Rattle.std.proofs.Common.{map, true}
use Rattle.std.proofs.lemmas.Bool.{and_parts, false≢true}
use Rattle.std.specs.Cmp.{ranks}
use Rattle.std.specs.FinMap as finmap
use Rattle.std.specs.FinMap.{get-entries, is_sorted}
use Rattle.std.specs.FinMap.Entries.{below_all, find}
use Rattle.std.specs.Ordering.{MatchOrdering, is_lt, nat_cmp}
use Rattle.std.specs.declared.cmp.Ordering.{Ordering}
use Rattle.std.specs.declared.cmp.Ordering.TheVariants.{Equal, Greater, Less}
use Rattle.mds_types.proofs.ByteOrderLaws.{equal}
use Rattle.mds_types.specs.declared.entries.Entry.{Entry}
use Rattle.sessions.proofs.ReplyLaws.{sorted_entries, sorted_replies}
use Rattle.sessions.specs.Replies.{kept_replies, replies_at}
use Rattle.sessions.specs.Table.{IsReplyPlace, IsTableOf, Table, kept_in, mark_in, row_in}
use Rattle.session_rows.specs.Sessions.{told_entry}

below : (x y : ℕ) → is_lt (nat_cmp x y) ≡ true → x < y
below x y = go (nat_cmp x y) (ranks x y)
  where
    go : (o : Ordering) → MatchOrdering o (x < y) (x ≡ y) (y < x) → is_lt o ≡ true → x < y
    go Less h e = h
    go Equal h e = absurd (false≢true e)
    go Greater h e = absurd (false≢true e)

-- the first number is no less than a least one
abbrev Starts : ℕ → List (ℕ × Reply) → Type 0
Starts least [] = Unit {0}
Starts least (r ∷ rs) = least ≤ r.0

starts_behind : (x : ℕ) (rs : List (ℕ × Reply)) → below_all nat_cmp x rs ≡ true → Starts (x + 1) rs
starts_behind x [] e = tt
starts_behind x (r ∷ rs) e =
    let low = below x r.0 (and_parts (is_lt (nat_cmp x r.0)) (below_all nat_cmp x rs) e).0 in omega (arith, low)

ascend_sorted : (least : ℕ) (rs : List (ℕ × Reply)) → is_sorted nat_cmp rs ≡ true → Starts least rs → Ascend least (map told_entry rs)
ascend_sorted least [] e low = tt
ascend_sorted least (r ∷ rs) e low =
    let both = and_parts (below_all nat_cmp r.0 rs) (is_sorted nat_cmp rs) e in (low, ascend_sorted (r.0 + 1) rs both.1 (starts_behind r.0 rs both.0))

pub kept_ascend : (past history : List Entry) (table : Table) (client : ℕ) → IsTableOf (past ++ history) table → Ascend (mark_in table client) (map told_entry (kept_replies history table client))
kept_ascend past history table client h =
    ascend_sorted (mark_in table client) (kept_replies history table client) (sorted_replies history table.forgotten aside (finmap.entries kept) ∙ sorted_entries kept) (first (finmap.entries kept) refl)
  where
    kept : finmap.FinMap nat_cmp ℕ
    kept = (row_in table client).kept

    aside : finmap.FinMap nat_cmp Reply
    aside = (row_in table client).aside

    first : (es : List (ℕ × ℕ)) → finmap.entries kept ≡ es → Starts (mark_in table client) (replies_at history table.forgotten aside es)
    first [] e = tt
    first (x ∷ es) e =
        let found : kept_in table client x.0 ≡ Some x.1 = get-entries kept x.0 ∙ ap (find nat_cmp x.0) e ∙ (λ i. cond_first i) in
        let is : IsReplyPlace (past ++ history) client x.0 (Some x.1) = subst (IsReplyPlace (past ++ history) client x.0) found (h.replies client x.0) in
        omega (arith, is.0, h.marks client)
      where
        cond_first : find nat_cmp x.0 (x ∷ es) ≡ Some x.1
        cond_first = rw (equal {x = x.0} {y = x.0} refl) refl
