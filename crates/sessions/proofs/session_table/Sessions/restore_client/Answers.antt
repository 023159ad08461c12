use Rattle.sessions.proofs.Common.{IfSome, None, Option, Session, Some, [], ap, ap₂, arith, contents, length, nat_cmp, no_row, rows, sym, mark_stand_in, ℕ, Rows, ◌+◌, ◌++◌, ◌<◌, ◌∙◌, ◌∷◌, ◌≡◌}
use Rattle.std.specs.FinMap as map
use Rattle.sessions.proofs.ChangedLaws.{listed_still}
use Rattle.sessions.proofs.RestoredLaws.{tells_none, tells_one}
use Rattle.sessions.proofs.RowLaws.{behind, indexed_more, no_row_there, row_there, rows_more}
use Rattle.sessions.proofs.StoredLaws.{none_of}
use Rattle.sessions.proofs.session_table.Sessions.restore_client.Goals as goal

-- there is room for the session that is made ready
still_fits : (spare : Option Session) (P Q : Type 0) → Q → IfSome spare (λ s. (s.row ≡ no_row) × (0 < s.room) × P) → IfSome spare (λ s. (s.row ≡ no_row) × (0 < s.room) × Q)
still_fits None P Q fits h = tt
still_fits (Some s) P Q fits (row, room, _) = (row, room, fits)

pub returns-then-contains-clause-unfit : goal.returns-then-contains-clause-unfit
returns-then-contains-clause-unfit c =
    rw (← c.self.view_is) (row_there (contents nat_cmp c.self.inside.indices) c.self.inside.sessions.items c.args.client ∙ sym c.contains.ensures ∙ c.if-contains.true)

pub invariant_of-self-then-mark-gt0 : goal.invariant_of-self-then-mark-gt0
invariant_of-self-then-mark-gt0 c =
    let m = contents nat_cmp c.self.inside.indices in
    let ss = c.self.inside.sessions.items in
    let none : map.get m c.args.client ≡ None = none_of (map.get m c.args.client) (sym c.contains.ensures ∙ c.if-contains.false) in
    let indices : contents nat_cmp c.add.new.indices ≡ map.insert m c.args.client (length ss) =
    c.add.ensures ∙ ap₂ (λ a n. map.insert a c.args.client n) c.reserve.ensures.same (c.len-i.ensures ∙ c.reserve-2.ensures.len ∙ c.self.inside.sessions.ok.0) in
    let items : c.push_reserved.new.self.items ≡ ss ++ c.marked.result ∷ [] = c.push_reserved.ensures.items ∙ ap (λ l. l ++ c.marked.result ∷ []) c.reserve-2.ensures.items in (
      rw (indices, items) (indexed_more m ss c.args.client c.self.invariant.0 c.marked.result none),
      still_fits c.self.inside.spare _ _ (omega (arith, c.push_reserved.ensures.len, c.push_reserved.ensures.capacity, c.in_ok-reserve-2.ensures.ok)) c.self.invariant.1,
      omega (arith, c.self.invariant.2, c.if-self-eq-MOST_FORGOTTEN.false),
      rw (indices, items) (listed_still m ss c.self.inside.changed.items c.self.invariant.3 c.args.client c.self.invariant.0 c.marked.result none c.marked.ensures.changed),
    )

pub invariant_of-self-else-mark-gt0 : goal.invariant_of-self-else-mark-gt0
invariant_of-self-else-mark-gt0 c =
    let m = contents nat_cmp c.self.inside.indices in
    let ss = c.self.inside.sessions.items in
    let none : map.get m c.args.client ≡ None = none_of (map.get m c.args.client) (sym c.contains.ensures ∙ c.if-contains.false) in
    let indices : contents nat_cmp c.add.new.indices ≡ map.insert m c.args.client (length ss) =
    c.add.ensures ∙ ap₂ (λ a n. map.insert a c.args.client n) c.reserve.ensures.same (c.len-i.ensures ∙ c.reserve-2.ensures.len ∙ c.self.inside.sessions.ok.0) in
    let items : c.push_reserved.new.self.items ≡ ss ++ c.marked.result ∷ [] = c.push_reserved.ensures.items ∙ ap (λ l. l ++ c.marked.result ∷ []) c.reserve-2.ensures.items in (
      rw (indices, items) (indexed_more m ss c.args.client c.self.invariant.0 c.marked.result none),
      still_fits c.self.inside.spare _ _ (omega (arith, c.push_reserved.ensures.len, c.push_reserved.ensures.capacity, c.in_ok-reserve-2.ensures.ok)) c.self.invariant.1,
      c.self.invariant.2,
      rw (indices, items) (listed_still m ss c.self.inside.changed.items c.self.invariant.3 c.args.client c.self.invariant.0 c.marked.result none c.marked.ensures.changed),
    )

pub returns-then-mark-gt0-clause-taken : goal.returns-then-mark-gt0-clause-taken
returns-then-mark-gt0-clause-taken c =
    let m = contents nat_cmp c.self.inside.indices in
    let ss = c.self.inside.sessions.items in
    let none : map.get m c.args.client ≡ None = none_of (map.get m c.args.client) (sym c.contains.ensures ∙ c.if-contains.false) in
    let indices : contents nat_cmp c.add.new.indices ≡ map.insert m c.args.client (length ss) =
    c.add.ensures ∙ ap₂ (λ a n. map.insert a c.args.client n) c.reserve.ensures.same (c.len-i.ensures ∙ c.reserve-2.ensures.len ∙ c.self.inside.sessions.ok.0) in
    let items : c.push_reserved.new.self.items ≡ ss ++ c.marked.result ∷ [] = c.push_reserved.ensures.items ∙ ap (λ l. l ++ c.marked.result ∷ []) c.reserve-2.ensures.items in
    rw (← c.self.view_is) (record {
      unknown = no_row_there m ss c.args.client none;
      table = ap₂ (λ (f : ℕ) (rs : Rows). behind f rs c.self.inside.changed.items) (ap (λ n. c.self.inside.forgotten + n) (sym (tells_one c.args.client c.args.mark c.if-mark-gt0.true)))
          (ap₂ rows indices items ∙ rows_more m ss c.args.client c.self.invariant.0 c.marked.result ∙ ap (map.insert (rows m ss) c.args.client) c.marked.ensures.row);
    })

pub returns-else-mark-gt0-clause-taken : goal.returns-else-mark-gt0-clause-taken
returns-else-mark-gt0-clause-taken c =
    let m = contents nat_cmp c.self.inside.indices in
    let ss = c.self.inside.sessions.items in
    let none : map.get m c.args.client ≡ None = none_of (map.get m c.args.client) (sym c.contains.ensures ∙ c.if-contains.false) in
    let indices : contents nat_cmp c.add.new.indices ≡ map.insert m c.args.client (length ss) =
    c.add.ensures ∙ ap₂ (λ a n. map.insert a c.args.client n) c.reserve.ensures.same (c.len-i.ensures ∙ c.reserve-2.ensures.len ∙ c.self.inside.sessions.ok.0) in
    let items : c.push_reserved.new.self.items ≡ ss ++ c.marked.result ∷ [] = c.push_reserved.ensures.items ∙ ap (λ l. l ++ c.marked.result ∷ []) c.reserve-2.ensures.items in
    let still : c.self.inside.forgotten ≡ c.self.inside.forgotten + length (mark_stand_in c.args.client c.args.mark) = omega (arith, tells_none c.args.client c.args.mark c.if-mark-gt0.false) in
    rw (← c.self.view_is) (record {
      unknown = no_row_there m ss c.args.client none;
      table = ap₂ (λ (f : ℕ) (rs : Rows). behind f rs c.self.inside.changed.items) still
          (ap₂ rows indices items ∙ rows_more m ss c.args.client c.self.invariant.0 c.marked.result ∙ ap (map.insert (rows m ss) c.args.client) c.marked.ensures.row);
    })
