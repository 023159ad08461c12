use Rattle.asking.proofs.Common.{Err, Grant, GrantsOf, NotAuthority, Ok, Refusal, Result, [], refl, subst, sym, whole_of, ◌≡◌, ◌≢◌}
use Rattle.std.specs.Prelude.{MatchResult, Some}
use Rattle.std.specs.Result.{result_err}
use Rattle.asking.specs.Reached.{LeadsTo}
use Rattle.cluster_core.proofs.NoReplyLaws.{tells_none}
use Rattle.cluster_core.proofs.Forgotten.{behind_one}
use Rattle.asking.proofs.GrantLaws.{foreign, granted, history_left, not_granted}
use Rattle.asking.proofs.ReachedLaws.{leads_by, leads_quietly}
use Rattle.asking.proofs.grants.grant_own.Goals as goal

pub returns-in-Ok-clause-granted : goal.returns-in-Ok-clause-granted
returns-in-Ok-clause-granted g c request waits =
    let known = c.is_sound.ensures in
    let old = whole_of known.0 known.1 c.args.book.now in
    let new = whole_of known.0 known.1 c.step.new.self in
    granted old.core new.core old.history new.history c.args.rank c.args.client c.args.tid request waits c.in-Ok.answer (c.in-Ok.ensures.stepped known.0 known.1 known.2) c.in-Ok.ensures.uses

pub returns-in-Err-clause-granted : goal.returns-in-Err-clause-granted
returns-in-Err-clause-granted g c request waits = go c.unless_foreign.result c.unless_foreign.ensures
  where
    go : (result : Result (Unit {0}) Refusal) → MatchResult result (λ done. c.in-Err.refusal ≡ NotAuthority) (λ reason. (reason ≡ c.in-Err.refusal) × (c.in-Err.refusal ≢ NotAuthority)) → GrantsOf c.args.book.now.core c.step.new.self.core c.args.rank c.args.client c.args.tid request.op result
    go (Ok done) is =
        let known = c.is_sound.ensures in
        let old = whole_of known.0 known.1 c.args.book.now in
        let new = whole_of known.0 known.1 c.step.new.self in
        foreign old.core new.core old.history new.history c.args.rank c.args.client c.args.tid request waits known.0 known.2.behind.sound c.in-Err.refusal is (c.in-Err.ensures.stepped known.0 known.1 known.2) c.in-Err.ensures.uses
    go (Err reason) (is, other) =
        let known = c.is_sound.ensures in
        let old = whole_of known.0 known.1 c.args.book.now in
        let new = whole_of known.0 known.1 c.step.new.self in
        subst (λ (r : Refusal). GrantsOf c.args.book.now.core c.step.new.self.core c.args.rank c.args.client c.args.tid request.op (Err r)) (sym is)
        (not_granted old.core new.core old.history new.history c.args.rank c.args.client c.args.tid request waits c.in-Err.refusal other (c.in-Err.ensures.stepped known.0 known.1 known.2) c.in-Err.ensures.uses)

pub returns-in-Ok-clause-reached : goal.returns-in-Ok-clause-reached
returns-in-Ok-clause-reached g c opening past given =
    let old = whole_of opening past c.args.book.now in
    let new = whole_of opening past c.step.new.self in
    let stepped = c.in-Ok.ensures.stepped opening past given in
    leads_by c.args.client c.args.tid old new (Ok c.in-Ok.answer) (Grant c.args.rank c.args.client c.args.tid) [] [] refl
    (tells_none old.core new.core old.history new.history (Ok c.in-Ok.answer) (Grant c.args.rank c.args.client c.args.tid) stepped.does) (refl, refl) stepped c.in-Ok.ensures.uses refl (c.in-Ok.ensures.goes_on opening past given).behind.sound

pub returns-in-Err-clause-reached : goal.returns-in-Err-clause-reached
returns-in-Err-clause-reached g c opening past given = go c.unless_foreign.result c.unless_foreign.ensures
  where
    one : LeadsTo c.args.client c.args.tid [] 1 [] (Some c.in-Err.refusal) (whole_of opening past c.args.book.now) (whole_of opening past c.step.new.self)
    one =
        leads_by c.args.client c.args.tid (whole_of opening past c.args.book.now) (whole_of opening past c.step.new.self) (Err c.in-Err.refusal) (Grant c.args.rank c.args.client c.args.tid) [] [] refl refl (refl, refl)
        (c.in-Err.ensures.stepped opening past given) c.in-Err.ensures.uses refl (c.in-Err.ensures.goes_on opening past given).behind.sound

    go : (result : Result (Unit {0}) Refusal) → MatchResult result (λ done. c.in-Err.refusal ≡ NotAuthority) (λ reason. (reason ≡ c.in-Err.refusal) × (c.in-Err.refusal ≢ NotAuthority))
        → LeadsTo c.args.client c.args.tid [] 1 [] (result_err result) (whole_of opening past c.args.book.now) (whole_of opening past c.step.new.self)
    go (Ok done) is = leads_quietly c.args.client c.args.tid [] 1 [] (Some c.in-Err.refusal) (whole_of opening past c.args.book.now) (whole_of opening past c.step.new.self) one
    go (Err reason) (is, other) = subst (λ (r : Refusal). LeadsTo c.args.client c.args.tid [] 1 [] (Some r) (whole_of opening past c.args.book.now) (whole_of opening past c.step.new.self)) (sym is) one

pub returns-in-Ok-clause-history : goal.returns-in-Ok-clause-history
returns-in-Ok-clause-history g c =
    let known = c.is_sound.ensures in
    let old = whole_of known.0 known.1 c.args.book.now in
    let new = whole_of known.0 known.1 c.step.new.self in
    behind_one known.1 c.step.new.self.history c.args.book.now.history
    (history_left old.core new.core old.history new.history c.args.rank c.args.client c.args.tid (Ok c.in-Ok.answer) (c.in-Ok.ensures.stepped known.0 known.1 known.2))

pub returns-in-Err-clause-history : goal.returns-in-Err-clause-history
returns-in-Err-clause-history g c =
    let known = c.is_sound.ensures in
    let old = whole_of known.0 known.1 c.args.book.now in
    let new = whole_of known.0 known.1 c.step.new.self in
    behind_one known.1 c.step.new.self.history c.args.book.now.history
    (history_left old.core new.core old.history new.history c.args.rank c.args.client c.args.tid (Err c.in-Err.refusal) (c.in-Err.ensures.stepped known.0 known.1 known.2))
