-- A step leaves a sound book, and what is known of its ranks; and it is one of one thread.
use Rattle.cluster_core.proofs.Common.{BookState, Entry, StandsBehind, InOrder, KeepsSettled, KeptState, List, Steps, UsesStep, ap, length, length-append, places_of, receipt_of, refl, subst, sym, whole_of, ℕ, ◌++◌, ◌∙◌, ◌≡◌}
use Rattle.cluster_core.proofs.Forgotten.{keeps_whole, places_behind}
use Rattle.cluster_core.proofs.LimitStays.{limit_stays}
use Rattle.cluster_core.proofs.OneThreadLaws.{shown_as_one, shows_after}
use Rattle.cluster_core.proofs.SettledLaws.{known_after}
use Rattle.cluster_core.proofs.books.Book.step.Goals as goal

pub step-answer-requires : goal.step-answer-requires
step-answer-requires g c = (c.self.invariant.sound.0, c.self.invariant.sound.1, c.self.invariant.sound.2.behind)

pub invariant_of-self : goal.invariant_of-self
invariant_of-self g c =
    let b = c.self.inside in
    let opening = c.self.invariant.sound.0 in
    let gone = c.self.invariant.sound.1 in
    let goes = c.self.invariant.sound.2 in
    let past : c.len-past.result ≡ length b.history.items = c.len-past.ensures ∙ b.history.ok.0 in
    let now : List Entry = c.step-answer.new.history.items in
    let keeps : KeepsSettled b.settled.ranks.items c.keep_settled.new.settled.ranks.items c.may_unsettle-may.result now (length b.history.items) =
    subst (λ (h : List Entry). KeepsSettled b.settled.ranks.items c.keep_settled.new.settled.ranks.items c.may_unsettle-may.result h (length b.history.items)) c.as_slice.ensures.value
    (subst (λ (n : ℕ). KeepsSettled b.settled.ranks.items c.keep_settled.new.settled.ranks.items c.may_unsettle-may.result c.as_slice.result.now n) past c.keep_settled.ensures) in
    let whole : KeepsSettled b.settled.ranks.items c.keep_settled.new.settled.ranks.items c.may_unsettle-may.result (gone ++ now) (length (gone ++ b.history.items)) =
    subst (λ (n : ℕ). KeepsSettled b.settled.ranks.items c.keep_settled.new.settled.ranks.items c.may_unsettle-may.result (gone ++ now) n) (sym (length-append gone b.history.items))
    (keeps_whole b.settled.ranks.items c.keep_settled.new.settled.ranks.items c.may_unsettle-may.result gone now (length b.history.items) keeps) in
    let still = c.step-answer.ensures.sound opening gone goes.behind in
    record {
      sound = (opening, gone, record { opened = goes.opened; behind = still });
      settled = known_after opening (gone ++ b.history.items) (gone ++ now) b.cluster c.step-answer.new.self goes.behind.sound still.sound
          c.step-answer.result c.args.event b.settled.ranks.items c.keep_settled.new.settled.ranks.items c.may_unsettle-may.result (c.step-answer.ensures.stepped opening gone goes.behind) c.may_unsettle-may.ensures.calm whole c.self.invariant.settled;
    }

pub returns-clause-one_thread : goal.returns-clause-one_thread
returns-clause-one_thread g c = λ opening past given.
    let b = c.self.inside in
    let goes = subst (StandsBehind opening past) (sym c.self.view_is) given in
    let stepped = c.step-answer.ensures.stepped opening past goes.behind in
    let still = c.step-answer.ensures.sound opening past goes.behind in
    let end : BookState = record { opening = opening; history = past ++ c.step-answer.new.history.items; core = c.step-answer.new.self } in
    let its = shown_as_one (whole_of opening past c.args.self.now) _ end (ap (whole_of opening past) c.self.view_is) c.step-answer.result c.args.event stepped refl still.sound in its.one

pub returns-clause-in_order : goal.returns-clause-in_order
returns-clause-in_order g c =
    let known = c.self.invariant.sound in
    let opening = known.0 in
    let past = known.1 in
    let given = subst (StandsBehind opening past) c.self.view_is known.2 in
    let b = c.self.inside in
    let goes = subst (StandsBehind opening past) (sym c.self.view_is) given in
    let stepped = c.step-answer.ensures.stepped opening past goes.behind in
    let still = c.step-answer.ensures.sound opening past goes.behind in
    let end : BookState = record { opening = opening; history = past ++ c.step-answer.new.history.items; core = c.step-answer.new.self } in
    let its = shown_as_one (whole_of opening past c.args.self.now) _ end (ap (whole_of opening past) c.self.view_is) c.step-answer.result c.args.event stepped refl still.sound in
    let after : StandsBehind opening past (record { opening = b.opening; history = c.step-answer.new.history.items; core = c.step-answer.new.self }) = record { opened = goes.opened; behind = still } in
    subst (λ (n : ℕ). InOrder n (receipt_of c.step-answer.result) (places_of (record { opening = b.opening; history = c.step-answer.new.history.items; core = c.step-answer.new.self }))) (places_behind opening past c.args.self.now given)
    (subst (λ (n : ℕ). InOrder (length (past ++ c.args.self.now.history)) (receipt_of c.step-answer.result) n) (places_behind opening past _ after) its.in_order)

pub returns-clause-waits : goal.returns-clause-waits
returns-clause-waits g c =
    let known = c.self.invariant.sound in
    let opening = known.0 in
    let past = known.1 in
    let given = subst (StandsBehind opening past) c.self.view_is known.2 in
    let b = c.self.inside in
    let goes = subst (StandsBehind opening past) (sym c.self.view_is) given in
    let stepped = c.step-answer.ensures.stepped opening past goes.behind in
    let still = c.step-answer.ensures.sound opening past goes.behind in
    let end : BookState = record { opening = opening; history = past ++ c.step-answer.new.history.items; core = c.step-answer.new.self } in
    let its = shown_as_one (whole_of opening past c.args.self.now) _ end (ap (whole_of opening past) c.self.view_is) c.step-answer.result c.args.event stepped refl still.sound in its.waits

pub returns-clause-shows : goal.returns-clause-shows
returns-clause-shows g c = λ opening past given.
    let b = c.self.inside in
    let goes = subst (StandsBehind opening past) (sym c.self.view_is) given in
    let stepped = c.step-answer.ensures.stepped opening past goes.behind in
    let still = c.step-answer.ensures.sound opening past goes.behind in
    let end : BookState = record { opening = opening; history = past ++ c.step-answer.new.history.items; core = c.step-answer.new.self } in
    shows_after (whole_of opening past c.args.self.now) _ end (ap (whole_of opening past) c.self.view_is) c.step-answer.result c.args.event stepped refl still.sound

pub returns-clause-stepped : goal.returns-clause-stepped
returns-clause-stepped g c = λ opening past given.
    let goes = subst (StandsBehind opening past) (sym c.self.view_is) given in
    subst (λ (k : KeptState). Steps k.core c.step-answer.new.self (past ++ k.history) (past ++ c.step-answer.new.history.items) c.step-answer.result c.args.event) c.self.view_is
    (c.step-answer.ensures.stepped opening past goes.behind)

pub returns-clause-goes_on : goal.returns-clause-goes_on
returns-clause-goes_on g c = λ opening past given.
    let goes = subst (StandsBehind opening past) (sym c.self.view_is) given in
    record { opened = goes.opened; behind = c.step-answer.ensures.sound opening past goes.behind }

pub returns-clause-uses : goal.returns-clause-uses
returns-clause-uses g c =
    subst (λ (k : KeptState). UsesStep k.core c.step-answer.new.self c.step-answer.result c.args.event) c.self.view_is c.step-answer.ensures.uses

pub returns-clause-limit : goal.returns-clause-limit
returns-clause-limit g c =
    let known = c.self.invariant.sound in
    subst (λ (k : KeptState). c.step-answer.new.self.state.tree.limit ≡ k.core.state.tree.limit) c.self.view_is
    (limit_stays _ _ _ _ c.step-answer.result c.args.event (c.step-answer.ensures.stepped known.0 known.1 known.2.behind).does)

pub returns-clause-sound : goal.returns-clause-sound
returns-clause-sound g c = (invariant_of-self g c).sound
