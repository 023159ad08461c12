use Rattle.asking.proofs.Common.{BookState, Entry, Err, Goes, HasComeBehind, IsNewAtMaster, KeptState, List, None, Nothing, Ok, Receipt, Replied, Serve, Some, StandsBehind, Steps, UsesStep, Waits, [], ℕ, arith, receipt_in, refl, subst, sym, whole_of, ◌++◌, ◌≡◌, ◌∷◌}
use Rattle.std.specs.Result.{result_err}
use Rattle.cluster_core.specs.declared.events.Answer.{Answer}
use Rattle.mds_types.specs.declared.ids.Rank.{Rank}
use Rattle.asking.specs.Ask.{HasCome, Question}
use Rattle.asking.specs.Serves.{IsOfServe, ServesTo, told_of}
use Rattle.asking.specs.declared.serves.Served.{Served}
use Rattle.asking.proofs.AnswerLaws.{front, goes_on, here, refused, replied, stays, there}
use Rattle.asking.proofs.ReachedLaws.{leads_by, leads_then, leads_within}
use Rattle.asking.proofs.ServeLaws.{is_of_serve, refused as not_served, served, told_so}
use Rattle.asking.proofs.asks.serve_first.Goals as goal

-- what the answer of the step is to the request that came
its : (q : Question) (mid : BookState) (at : Rank) (client tid : ℕ) → HasCome q mid at client tid → (new : BookState) (answer : Answer) (so : Served) → told_of so ≡ answer
    → Steps mid.core new.core mid.history new.history (Ok answer) (Serve at) → UsesStep mid.core new.core (Ok answer) (Serve at) → ServesTo mid.core new.core mid.history new.history at q.request [] (Ok so)
its q mid at client tid come new answer so is stepped uses = served mid.core new.core mid.history new.history at q.request [] (front q mid at client tid come) answer so is stepped uses

module _ (q : Question) (past : List Entry) (old : KeptState) (at : Rank) (client tid : ℕ) (has : HasComeBehind q past old at client tid) (new : KeptState) (on : StandsBehind q.opening past new) (answer : Answer)
    (stepped : Steps old.core new.core (past ++ old.history) (past ++ new.history) (Ok answer) (Serve at)) (uses : UsesStep old.core new.core (Ok answer) (Serve at)) where
  -- it goes to its master
  forwarded : (master : Rank) → told_of (Goes master) ≡ answer → HasComeBehind q past new master client tid × IsNewAtMaster q master
  forwarded master is =
      let mid = whole_of q.opening past old in
      let end = whole_of q.opening past new in
      let its = its q mid at client tid has.come end answer (Goes master) is stepped uses in (
        record { behind = on; come = goes_on q mid at client tid has.come end master its.0 its.1 (omega (arith, stepped.counted)) },
        there q mid at client tid has.come end master its.0,
      )

  -- it waits on at its master
  deferred : told_of Waits ≡ answer → HasComeBehind q past new at client tid × IsNewAtMaster q at
  deferred is =
      let mid = whole_of q.opening past old in
      let end = whole_of q.opening past new in
      let its = its q mid at client tid has.come end answer Waits is stepped uses in (
        record { behind = on; come = stays q mid at client tid has.come end its.0 its.1 (omega (arith, stepped.counted)) },
        here q mid at client tid has.come end its.0,
      )

  -- serving gives no other answer
  never : (other : Answer) → answer ≡ other → IsOfServe other
  never other is = subst IsOfServe is (is_of_serve old.core new.core (past ++ old.history) (past ++ new.history) at q.request [] (front q (whole_of q.opening past old) at client tid has.come) answer stepped)

pub serve_there-requires : goal.serve_there-requires
serve_there-requires g c =
    let q = c.requires.0 in
    let past = c.requires.1 in
    let has = c.requires.2 in
    let its = forwarded q past c.args.book.now c.args.rank c.args.client c.args.tid has c.step.new.self (c.in-Ok-Forwarded.ensures.goes_on q.opening past has.behind) c.in-Ok-Forwarded.field-0 (c.in-Ok-Forwarded.ensures.stepped q.opening past has.behind) c.in-Ok-Forwarded.ensures.uses c.in-Ok-Forwarded.master (sym c.in-Ok-Forwarded.field-0-is) in
    (q, past, its.0, its.1)

pub serve_granted-requires : goal.serve_granted-requires
serve_granted-requires g c =
    let q = c.requires.0 in
    let past = c.requires.1 in
    let has = c.requires.2 in
    let its = deferred q past c.args.book.now c.args.rank c.args.client c.args.tid has c.step.new.self (c.in-Ok-Deferred.ensures.goes_on q.opening past has.behind) c.in-Ok-Deferred.field-0 (c.in-Ok-Deferred.ensures.stepped q.opening past has.behind) c.in-Ok-Deferred.ensures.uses (sym c.in-Ok-Deferred.field-0-is) in
    (q, past, its.0, its.1)

pub returns-in-Ok-Reply-clause-asked : goal.returns-in-Ok-Reply-clause-asked
returns-in-Ok-Reply-clause-asked g c q past has =
    let old = whole_of q.opening past c.args.book.now in
    let mid = whole_of q.opening past c.step.new.self in
    let receipt : Receipt = record { client = c.in-Ok-Reply.whose; tid = c.in-Ok-Reply.number; place = c.in-Ok-Reply.place; first = c.in-Ok-Reply.first; reply = c.in-Ok-Reply.reply } in
    replied q old c.args.rank c.args.client c.args.tid has.come mid receipt
    (its q old c.args.rank c.args.client c.args.tid has.come mid c.in-Ok-Reply.field-0 (Replied receipt) (sym c.in-Ok-Reply.field-0-is) (c.in-Ok-Reply.ensures.stepped q.opening past has.behind) c.in-Ok-Reply.ensures.uses)

pub returns-in-Ok-Forwarded-clause-asked : goal.returns-in-Ok-Forwarded-clause-asked
returns-in-Ok-Forwarded-clause-asked g c q past has =
    let its = forwarded q past c.args.book.now c.args.rank c.args.client c.args.tid has c.step.new.self (c.in-Ok-Forwarded.ensures.goes_on q.opening past has.behind) c.in-Ok-Forwarded.field-0 (c.in-Ok-Forwarded.ensures.stepped q.opening past has.behind) c.in-Ok-Forwarded.ensures.uses c.in-Ok-Forwarded.master (sym c.in-Ok-Forwarded.field-0-is) in
    c.serve_there.ensures.asked q past its.0 its.1

pub returns-in-Ok-Deferred-clause-asked : goal.returns-in-Ok-Deferred-clause-asked
returns-in-Ok-Deferred-clause-asked g c q past has =
    let its = deferred q past c.args.book.now c.args.rank c.args.client c.args.tid has c.step.new.self (c.in-Ok-Deferred.ensures.goes_on q.opening past has.behind) c.in-Ok-Deferred.field-0 (c.in-Ok-Deferred.ensures.stepped q.opening past has.behind) c.in-Ok-Deferred.ensures.uses (sym c.in-Ok-Deferred.field-0-is) in
    c.serve_granted.ensures.asked q past its.0 its.1

pub returns-in-Err-clause-asked : goal.returns-in-Err-clause-asked
returns-in-Err-clause-asked g c q past has =
    let old = whole_of q.opening past c.args.book.now in
    let mid = whole_of q.opening past c.step.new.self in
    refused q old c.args.rank c.args.client c.args.tid has.come mid c.in-Err.refusal
    (not_served old.core mid.core old.history mid.history c.args.rank q.request [] (front q old c.args.rank c.args.client c.args.tid has.come) c.in-Err.refusal (c.in-Err.ensures.stepped q.opening past has.behind))

pub returns-in-Ok-Reply-clause-reached : goal.returns-in-Ok-Reply-clause-reached
returns-in-Ok-Reply-clause-reached g c opening past given =
    let old = whole_of opening past c.args.book.now in
    let mid = whole_of opening past c.step.new.self in
    let receipt : Receipt = record { client = c.in-Ok-Reply.whose; tid = c.in-Ok-Reply.number; place = c.in-Ok-Reply.place; first = c.in-Ok-Reply.first; reply = c.in-Ok-Reply.reply } in
    leads_within c.args.client c.args.tid [] 1 19 (receipt ∷ []) None old mid (omega arith)
    (leads_by c.args.client c.args.tid old mid (Ok c.in-Ok-Reply.field-0) (Serve c.args.rank) [] (receipt ∷ []) refl (told_so c.in-Ok-Reply.field-0 (Replied receipt) (sym c.in-Ok-Reply.field-0-is)) tt
    (c.in-Ok-Reply.ensures.stepped opening past given) c.in-Ok-Reply.ensures.uses refl (c.in-Ok-Reply.ensures.goes_on opening past given).behind.sound)

pub returns-in-Ok-Forwarded-clause-reached : goal.returns-in-Ok-Forwarded-clause-reached
returns-in-Ok-Forwarded-clause-reached g c opening past given =
    let old = whole_of opening past c.args.book.now in
    let mid = whole_of opening past c.step.new.self in
    let on = c.in-Ok-Forwarded.ensures.goes_on opening past given in
    leads_then c.args.client c.args.tid [] [] 1 18 19 [] (receipt_in c.serve_there.result) None (result_err c.serve_there.result) old mid (whole_of opening past c.serve_there.new.book) (omega arith)
    (leads_by c.args.client c.args.tid old mid (Ok c.in-Ok-Forwarded.field-0) (Serve c.args.rank) [] [] refl (told_so c.in-Ok-Forwarded.field-0 (Goes c.in-Ok-Forwarded.master) (sym c.in-Ok-Forwarded.field-0-is)) tt
    (c.in-Ok-Forwarded.ensures.stepped opening past given) c.in-Ok-Forwarded.ensures.uses refl on.behind.sound)
    (c.serve_there.ensures.reached opening past on)

pub returns-in-Ok-Deferred-clause-reached : goal.returns-in-Ok-Deferred-clause-reached
returns-in-Ok-Deferred-clause-reached g c opening past given =
    let old = whole_of opening past c.args.book.now in
    let mid = whole_of opening past c.step.new.self in
    let on = c.in-Ok-Deferred.ensures.goes_on opening past given in
    leads_then c.args.client c.args.tid [] [] 1 17 19 [] (receipt_in c.serve_granted.result) None (result_err c.serve_granted.result) old mid (whole_of opening past c.serve_granted.new.book) (omega arith)
    (leads_by c.args.client c.args.tid old mid (Ok c.in-Ok-Deferred.field-0) (Serve c.args.rank) [] [] refl (told_so c.in-Ok-Deferred.field-0 Waits (sym c.in-Ok-Deferred.field-0-is)) tt (c.in-Ok-Deferred.ensures.stepped opening past given) c.in-Ok-Deferred.ensures.uses refl on.behind.sound)
    (c.serve_granted.ensures.reached opening past on)

pub returns-in-Err-clause-reached : goal.returns-in-Err-clause-reached
returns-in-Err-clause-reached g c opening past given =
    let old = whole_of opening past c.args.book.now in
    let mid = whole_of opening past c.step.new.self in
    leads_within c.args.client c.args.tid [] 1 19 [] (Some c.in-Err.refusal) old mid (omega arith)
    (leads_by c.args.client c.args.tid old mid (Err c.in-Err.refusal) (Serve c.args.rank) [] [] refl refl tt (c.in-Err.ensures.stepped opening past given) c.in-Err.ensures.uses refl (c.in-Err.ensures.goes_on opening past given).behind.sound)

pub unreachable-requires : goal.unreachable-requires
unreachable-requires g c =
    let q = c.requires.0 in
    let past = c.requires.1 in
    let has = c.requires.2 in
    never q past c.args.book.now c.args.rank c.args.client c.args.tid has c.step.new.self (c.in-Ok-Nothing.ensures.goes_on q.opening past has.behind) c.in-Ok-Nothing.field-0 (c.in-Ok-Nothing.ensures.stepped q.opening past has.behind) c.in-Ok-Nothing.ensures.uses Nothing c.in-Ok-Nothing.field-0-is

pub unreachable-requires-in-Ok-Job : goal.unreachable-requires-in-Ok-Job
unreachable-requires-in-Ok-Job g c =
    let q = c.requires.0 in
    let past = c.requires.1 in
    let has = c.requires.2 in
    never q past c.args.book.now c.args.rank c.args.client c.args.tid has c.step.new.self (c.in-Ok-Job.ensures.goes_on q.opening past has.behind) c.in-Ok-Job.field-0 (c.in-Ok-Job.ensures.stepped q.opening past has.behind) c.in-Ok-Job.ensures.uses _ c.in-Ok-Job.field-0-is

pub unreachable-requires-in-Ok-Sent : goal.unreachable-requires-in-Ok-Sent
unreachable-requires-in-Ok-Sent g c =
    let q = c.requires.0 in
    let past = c.requires.1 in
    let has = c.requires.2 in
    never q past c.args.book.now c.args.rank c.args.client c.args.tid has c.step.new.self (c.in-Ok-Sent.ensures.goes_on q.opening past has.behind) c.in-Ok-Sent.field-0 (c.in-Ok-Sent.ensures.stepped q.opening past has.behind) c.in-Ok-Sent.ensures.uses _ c.in-Ok-Sent.field-0-is
