use Rattle.sessions.proofs.Common.{HeldSessions, None, Some, ap, contents, nat_cmp, ◌∙◌, ◌≡◌}
use Rattle.std.specs.FinMap as map
use Rattle.sessions.proofs.RowLaws.{same_behind, trimmed_known, trimmed_unknown}
use Rattle.sessions.proofs.session_table.Sessions.trim.Goals as goal

pub returns-in-Some-clause-trimmed : goal.returns-in-Some-clause-trimmed
returns-in-Some-clause-trimmed c =
    let its : map.get (contents nat_cmp c.self.inside.indices) c.args.at.client ≡ Some c.in-Some.i = ap (λ (h : HeldSessions). map.get h.indices c.args.at.client) c.self.view_is ∙ c.requires ∙ c.in-Some.is in
    rw (← c.self.view_is) (same_behind c.self.inside.forgotten _ _ (trimmed_known (contents nat_cmp c.self.inside.indices) c.self.inside.sessions.items c.args.at.client c.self.invariant.0 c.in-Some.i its c.trim.new.self c.index_mut.result.now c.index_mut.ensures.value c.trim.ensures.row))

pub returns-in_default-clause-trimmed : goal.returns-in_default-clause-trimmed
returns-in_default-clause-trimmed c =
    let none : map.get (contents nat_cmp c.self.inside.indices) c.args.at.client ≡ None = ap (λ (h : HeldSessions). map.get h.indices c.args.at.client) c.self.view_is ∙ c.requires ∙ c.in_default.is in
    rw (← c.self.view_is) (same_behind c.self.inside.forgotten _ _ (trimmed_unknown (contents nat_cmp c.self.inside.indices) c.self.inside.sessions.items c.args.at.client none))
