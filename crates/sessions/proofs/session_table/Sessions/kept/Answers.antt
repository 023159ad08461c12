use Rattle.sessions.proofs.Common.{AllByRecursion, AreSetAside, HeldSessions, IsInReach, IsTableOf, None, Row, Some, ap, contents, is_some, nat_cmp, replies_at, rows, subst, sym, table, ◌++◌, ◌∙◌, ◌≡◌}
use Rattle.std.specs.FinMap as map
use Rattle.sessions.proofs.ReplyLaws.{in_reach}
use Rattle.sessions.proofs.RowLaws.{behind, no_row_there, read, row_known, row_there}
use Rattle.sessions.proofs.session_table.Sessions.kept.Goals as goal

pub kept-requires : goal.kept-requires
kept-requires c =
    let its : map.get (contents nat_cmp c.self.inside.indices) c.args.client ≡ Some c.in-Some.i =
    rw (← c.find.ensures.named) (ap (λ (h : HeldSessions). map.get h.indices c.find.result.client) c.self.view_is ∙ c.find.ensures.found ∙ c.in-Some.is) in
    let row = read (contents nat_cmp c.self.inside.indices) c.self.inside.sessions.items c.args.client c.self.invariant.0 c.in-Some.i its c.index.result.now c.index.result.now c.index.ensures in
    let known = row_known _ c.self.inside.sessions.items _ _ its ∙ sym row in
    let past = c.requires.0 in
    let history = c.args.history.now in
    let tabled = subst (λ (h : HeldSessions). IsTableOf (past ++ history) (table h)) (sym c.self.view_is) c.requires.1 in
    let aside = subst (λ (h : HeldSessions). AreSetAside past history (table h)) (sym c.self.view_is) c.requires.2 in
    subst (λ (r : Row). AllByRecursion (IsInReach history c.self.inside.forgotten r.aside) (map.entries r.kept)) known
    (in_reach past history (behind c.self.inside.forgotten (rows (contents nat_cmp c.self.inside.indices) c.self.inside.sessions.items) c.self.inside.changed.items) c.args.client tabled aside)

pub returns-in-Some : goal.returns-in-Some
returns-in-Some c =
    let its : map.get (contents nat_cmp c.self.inside.indices) c.args.client ≡ Some c.in-Some.i =
    rw (← c.find.ensures.named) (ap (λ (h : HeldSessions). map.get h.indices c.find.result.client) c.self.view_is ∙ c.find.ensures.found ∙ c.in-Some.is) in
    let row = read (contents nat_cmp c.self.inside.indices) c.self.inside.sessions.items c.args.client c.self.invariant.0 c.in-Some.i its c.index.result.now c.index.result.now c.index.ensures in
    let known = row ∙ sym (row_known _ c.self.inside.sessions.items _ _ its) in
    rw (← c.self.view_is) (
      row_there (contents nat_cmp c.self.inside.indices) c.self.inside.sessions.items c.args.client ∙ ap is_some its,
      c.kept.ensures.mark ∙ ap (λ (r : Row). r.mark) known,
      c.kept.ensures.replies ∙ ap (λ (r : Row). replies_at c.args.history.now c.self.inside.forgotten r.aside (map.entries r.kept)) known,
    )

pub returns-in-None : goal.returns-in-None
returns-in-None c =
    let none : map.get (contents nat_cmp c.self.inside.indices) c.args.client ≡ None =
    rw (← c.find.ensures.named) (ap (λ (h : HeldSessions). map.get h.indices c.find.result.client) c.self.view_is ∙ c.find.ensures.found ∙ c.in-None.is) in
    rw (← c.self.view_is) (no_row_there (contents nat_cmp c.self.inside.indices) c.self.inside.sessions.items c.args.client none)
