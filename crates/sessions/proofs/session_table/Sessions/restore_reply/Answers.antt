use Rattle.sessions.proofs.Common.{HeldSessions, None, Row, Some, ap, contents, is_some, nat_cmp, rows, subst, sym, ◌+◌, ◌∙◌, ◌≡◌, ◌≤◌}
use Rattle.std.specs.FinMap as map
use Rattle.std.proofs.Common.{Err, IfErr, IsErrAnd, Ok, OnErr, Result}
use Rattle.sessions.proofs.RestoredLaws.{unfit_reply}
use Rattle.sessions.proofs.RowLaws.{behind, no_row_there, read, row_known, row_there, same_behind, same_rows, told_known}
use Rattle.sessions.proofs.session_table.Sessions.restore_reply.Goals as goal

pub returns-in_default-clause-unfit : goal.returns-in_default-clause-unfit
returns-in_default-clause-unfit c =
    let none : map.get (contents nat_cmp c.self.inside.indices) c.args.client ≡ None =
    rw (← c.find.ensures.named) (ap (λ (h : HeldSessions). map.get h.indices c.find.result.client) c.self.view_is ∙ c.find.ensures.found ∙ c.in_default.is) in
    rw (← c.self.view_is) (no_row_there (contents nat_cmp c.self.inside.indices) c.self.inside.sessions.items c.args.client none)

-- what was refused for a reason that the row has
in_either : {A E : Type 0} (r : Result A E) (P : Type 0) → P → OnErr r P
in_either (Ok x) P p = tt
in_either (Err reason) P p = p

for_one : {A E : Type 0} (r : Result A E) (x : E) (P : E → Type 0) → IsErrAnd r (λ y. y ≡ x) → P x → IfErr r P
for_one (Ok a) x P is p = tt
for_one (Err y) x P is p = subst P (sym is) p

pub returns-in_err-restore-clause-same : goal.returns-in_err-restore-clause-same
returns-in_err-restore-clause-same c =
    let m = contents nat_cmp c.self.inside.indices in
    let ss = c.self.inside.sessions.items in
    let its : map.get m c.args.client ≡ Some c.in-Some.i =
    rw (← c.find.ensures.named) (ap (λ (h : HeldSessions). map.get h.indices c.find.result.client) c.self.view_is ∙ c.find.ensures.found ∙ c.in-Some.is) in
    in_either c.from_residual.result _ (rw (← c.self.view_is) (same_behind c.self.inside.forgotten _ _ (same_rows m ss c.args.client c.self.invariant.0 c.in-Some.i its c.restore.new.self c.index_mut.result.now c.index_mut.ensures.value c.in_err-restore.ensures.same)))

pub returns-in_err-restore-clause-unfit : goal.returns-in_err-restore-clause-unfit
returns-in_err-restore-clause-unfit c =
    let m = contents nat_cmp c.self.inside.indices in
    let ss = c.self.inside.sessions.items in
    let its : map.get m c.args.client ≡ Some c.in-Some.i =
    rw (← c.find.ensures.named) (ap (λ (h : HeldSessions). map.get h.indices c.find.result.client) c.self.view_is ∙ c.find.ensures.found ∙ c.in-Some.is) in
    let was = c.index_mut.result.now in
    let known = read m ss c.args.client c.self.invariant.0 c.in-Some.i its was was c.index_mut.ensures.value ∙ sym (row_known m ss c.args.client c.in-Some.i its) in
    for_one c.from_residual.result c.in_err-restore.field-0.0 _ c.from_residual.ensures.1
    (rw (← c.self.view_is) (unfit_reply (behind c.self.inside.forgotten (rows m ss) c.self.inside.changed.items) c.args.client c.args.tid was.row known c.in_err-restore.field-0.0 c.in_err-restore.ensures.unfit))

pub returns-clause-taken : goal.returns-clause-taken
returns-clause-taken c =
    let m = contents nat_cmp c.self.inside.indices in
    let ss = c.self.inside.sessions.items in
    let its : map.get m c.args.client ≡ Some c.in-Some.i =
    rw (← c.find.ensures.named) (ap (λ (h : HeldSessions). map.get h.indices c.find.result.client) c.self.view_is ∙ c.find.ensures.found ∙ c.in-Some.is) in
    let found = c.index_mut.ensures.value in
    let was = c.index_mut.result.now in
    let takes = c.in_ok-restore.ensures.taken in
    let known : was.row ≡ _ = read m ss c.args.client c.self.invariant.0 c.in-Some.i its was was found ∙ sym (row_known m ss c.args.client c.in-Some.i its) in
    rw (← c.self.view_is) (record {
      known = row_there m ss c.args.client ∙ ap is_some its;
      marked = subst (λ (r : Row). r.mark ≤ c.args.tid) known takes.marked;
      absent = ap (λ (r : Row). map.get r.kept c.args.tid) (sym known) ∙ takes.absent;
      table = same_behind (c.self.inside.forgotten + 1) _ _ (told_known m ss c.args.client c.self.invariant.0 c.in-Some.i its c.restore.new.self c.self.inside.forgotten was found c.args.tid c.args.reply takes.row);
    })
