use Rattle.sessions.proofs.Common.{HeldSessions, Some, ap, contents, nat_cmp, ◌∙◌, ◌≡◌}
use Rattle.std.specs.FinMap as map
use Rattle.sessions.proofs.RowLaws.{both_behind, same_rows}
use Rattle.sessions.proofs.session_table.Sessions.reserve.Goals as goal

pub returns-in_err-reserve-clause-same : goal.returns-in_err-reserve-clause-same
returns-in_err-reserve-clause-same c =
    let its : map.get (contents nat_cmp c.self.inside.indices) c.args.at.now.client ≡ Some c.in-Some.i = ap (λ (h : HeldSessions). map.get h.indices c.args.at.now.client) c.self.view_is ∙ c.requires ∙ c.in-Some.is in
    rw (← c.self.view_is) (both_behind c.self.inside.forgotten _ _ _ _ (same_rows (contents nat_cmp c.self.inside.indices) c.self.inside.sessions.items c.args.at.now.client c.self.invariant.0 c.in-Some.i its c.reserve.new.self c.index_mut.result.now c.index_mut.ensures.value c.reserve.ensures.same) c.place_for_one.ensures.same)

pub returns-in-Some-clause-same : goal.returns-in-Some-clause-same
returns-in-Some-clause-same c =
    let its : map.get (contents nat_cmp c.self.inside.indices) c.args.at.now.client ≡ Some c.in-Some.i = ap (λ (h : HeldSessions). map.get h.indices c.args.at.now.client) c.self.view_is ∙ c.requires ∙ c.in-Some.is in
    rw (← c.self.view_is) (both_behind c.self.inside.forgotten _ _ _ _ (same_rows (contents nat_cmp c.self.inside.indices) c.self.inside.sessions.items c.args.at.now.client c.self.invariant.0 c.in-Some.i its c.reserve.new.self c.index_mut.result.now c.index_mut.ensures.value c.reserve.ensures.same) c.place_for_one.ensures.same)
