use Rattle.sessions.proofs.Common.{AreSetAside, HeldSessions, IsTableOf, New, None, Row, SeesInRow, Some, ap, arith, contents, get-empty, nat_cmp, rows, subst, sym, table, ◌++◌, ◌∙◌, ◌≡◌}
use Rattle.std.specs.FinMap as map
use Rattle.sessions.proofs.TableLaws.{kept_within, sees}
use Rattle.sessions.proofs.RowLaws.{behind, read, row_known, row_unknown}
use Rattle.sessions.proofs.session_table.Sessions.seen.Goals as goal

pub seen-requires : goal.seen-requires
seen-requires c =
    let its : map.get (contents nat_cmp c.self.inside.indices) c.args.client ≡ Some c.in-Some.i =
    rw (← c.find-at.ensures.named) (ap (λ (h : HeldSessions). map.get h.indices c.find-at.result.client) c.self.view_is ∙ c.find-at.ensures.found ∙ c.in-Some.is) in
    let row = read (contents nat_cmp c.self.inside.indices) c.self.inside.sessions.items c.args.client c.self.invariant.0 c.in-Some.i its c.index.result.now c.index.result.now c.index.ensures in
    let known = row_known _ c.self.inside.sessions.items _ _ its ∙ sym row in
    let past = c.requires.0 in
    let tabled = subst (λ (h : HeldSessions). IsTableOf (past ++ c.args.history.now) (table h)) (sym c.self.view_is) c.requires.1 in
    let aside = subst (λ (h : HeldSessions). AreSetAside past c.args.history.now (table h)) (sym c.self.view_is) c.requires.2 in
    λ place is none. kept_within past c.args.history.now (behind c.self.inside.forgotten (rows (contents nat_cmp c.self.inside.indices) c.self.inside.sessions.items) c.self.inside.changed.items) c.args.client c.args.tid place tabled aside (ap (λ (r : Row). map.get r.kept c.args.tid) known ∙ is) (ap (λ (r : Row). map.get r.aside c.args.tid) known ∙ none)

pub returns-in-Some-clause-seen : goal.returns-in-Some-clause-seen
returns-in-Some-clause-seen c =
    let its : map.get (contents nat_cmp c.self.inside.indices) c.args.client ≡ Some c.in-Some.i =
    rw (← c.find-at.ensures.named) (ap (λ (h : HeldSessions). map.get h.indices c.find-at.result.client) c.self.view_is ∙ c.find-at.ensures.found ∙ c.in-Some.is) in
    let row = read (contents nat_cmp c.self.inside.indices) c.self.inside.sessions.items c.args.client c.self.invariant.0 c.in-Some.i its c.index.result.now c.index.result.now c.index.ensures in
    λ past tabled aside. sees past _ _ _ _ _ _ tabled aside
    (rw (← c.self.view_is) (subst (λ (r : Row). SeesInRow c.args.history.now c.self.inside.forgotten r c.args.tid c.args.oldest c.seen.result) (row ∙ sym (row_known _ c.self.inside.sessions.items _ _ its)) c.seen.ensures.standing))

-- nothing is known of the client
pub returns-in-None-2-clause-seen : goal.returns-in-None-2-clause-seen
returns-in-None-2-clause-seen c =
    let none : map.get (contents nat_cmp c.self.inside.indices) c.args.client ≡ None =
    rw (← c.find-at.ensures.named) (ap (λ (h : HeldSessions). map.get h.indices c.find-at.result.client) c.self.view_is ∙ c.find-at.ensures.found ∙ c.in-None-2.is) in
    λ past tabled aside. sees past _ _ c.args.client c.args.tid c.args.oldest (New c.find-at.result) tabled aside
    (rw (← c.self.view_is, row_unknown _ c.self.inside.sessions.items _ none) (omega arith, c.if-tid-oldest.false, get-empty nat_cmp c.args.tid))
