use Rattle.sessions.proofs.Common.{HeldSessions, None, Session, Some, ap, contents, nat_cmp, refl, rows, sym, ◌∙◌, ◌≡◌}
use Rattle.std.specs.FinMap as map
use Rattle.sessions.proofs.RowLaws.{forgot_known, forgot_unknown, kept_known, same_behind, same_rows}
use Rattle.sessions.proofs.session_table.Sessions.release.Goals as goal

pub returns-in-Some : goal.returns-in-Some
returns-in-Some c =
    let its : map.get (contents nat_cmp c.self.inside.indices) c.args.first.now.client ≡ Some c.in-Some.i =
    rw (← c.find.ensures.named) (ap (λ (h : HeldSessions). map.get h.indices c.find.result.client) c.self.view_is ∙ c.find.ensures.found ∙ c.in-Some.is) in
    let m = contents nat_cmp c.self.inside.indices in
    let ss = c.self.inside.sessions.items in
    let f = c.self.inside.forgotten in
    let e = c.args.first.now in
    let was : Session = c.index_mut.result.now in
    let found = c.index_mut.ensures.value in
    let still : c.forget.new.self ≡ was → rows m _ ≡ rows m ss = λ same. same_rows m ss e.client c.self.invariant.0 c.in-Some.i its c.forget.new.self was found (ap (λ (s : Session). s.row) same) in
    rw (← c.self.view_is) (record {
      gone = λ yes. same_behind f _ _ (forgot_known m ss e.client c.self.invariant.0 c.in-Some.i its c.forget.new.self was found f e refl (c.forget.ensures.gone yes));
      left = λ not. same_behind f _ _ (still (c.forget.ensures.left not));
      entry = c.forget.ensures.entry;
      kept = λ not. sym (kept_known m ss e.client c.self.invariant.0 c.in-Some.i its c.forget.new.self was found f e.tid) ∙ c.forget.ensures.kept not;
      stays = λ not. still (c.forget.ensures.stays not);
      changed = refl;
    })

pub returns-in-None-clause-gone : goal.returns-in-None-clause-gone
returns-in-None-clause-gone c =
    let none : map.get (contents nat_cmp c.self.inside.indices) c.args.first.now.client ≡ None =
    rw (← c.find.ensures.named) (ap (λ (h : HeldSessions). map.get h.indices c.find.result.client) c.self.view_is ∙ c.find.ensures.found ∙ c.in-None.is) in
    λ _. rw (← c.self.view_is) (same_behind c.self.inside.forgotten _ _ (forgot_unknown (contents nat_cmp c.self.inside.indices) c.self.inside.sessions.items c.args.first.now.client none c.self.inside.forgotten c.args.first.now refl))
