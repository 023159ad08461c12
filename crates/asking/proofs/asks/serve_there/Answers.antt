use Rattle.asking.proofs.Common.{Goes, HasComeBehind, None, Replied, Some, Waits, [], arith, receipt_in, whole_of, ◌∷◌}
use Rattle.std.specs.Result.{result_err}
use Rattle.asking.proofs.AnswerLaws.{front, never_again, refused, replied, stays, told_so}
use Rattle.asking.proofs.ReachedLaws.{leads_served, leads_then, leads_within}
use Rattle.asking.proofs.asks.serve_there.Goals as goal

pub serve-requires : goal.serve-requires
serve-requires g c =
    let q = c.requires.0 in
    (q.request, [], front q (whole_of q.opening c.requires.1 c.args.book.now) c.args.rank c.args.client c.args.tid c.requires.2.come)

pub unreachable-requires : goal.unreachable-requires
unreachable-requires g c =
    let q = c.requires.0 in
    let past = c.requires.1 in
    let has = c.requires.2 in
    let old = whole_of q.opening past c.args.book.now in
    let new = whole_of q.opening past c.serve.new.book in
    let its = told_so q old c.args.rank c.args.client c.args.tid has.come new c.in-Ok-Goes.field-0 (Goes c.in-Ok-Goes.field-0-0) c.in-Ok-Goes.field-0-is (c.in-Ok-Goes.ensures.served q.opening past has.behind) in
    never_again q old c.args.rank c.args.client c.args.tid has.come new c.in-Ok-Goes.field-0-0 its.0 c.requires.3

pub serve_granted-requires : goal.serve_granted-requires
serve_granted-requires g c =
    let q = c.requires.0 in
    let past = c.requires.1 in
    let has = c.requires.2 in
    let old = whole_of q.opening past c.args.book.now in
    let new = whole_of q.opening past c.serve.new.book in
    let its = told_so q old c.args.rank c.args.client c.args.tid has.come new c.in-Ok-Waits.field-0 Waits c.in-Ok-Waits.field-0-is (c.in-Ok-Waits.ensures.served q.opening past has.behind) in (
      q,
      past,
      record { behind = c.in-Ok-Waits.ensures.goes_on q.opening past has.behind; come = stays q old c.args.rank c.args.client c.args.tid has.come new its.0 its.1 (omega (arith, c.in-Ok-Waits.ensures.counted)) },
      c.requires.3,
    )

pub returns-in-Ok-Replied-clause-asked : goal.returns-in-Ok-Replied-clause-asked
returns-in-Ok-Replied-clause-asked g c q past has master =
    let old = whole_of q.opening past c.args.book.now in
    let new = whole_of q.opening past c.serve.new.book in
    replied q old c.args.rank c.args.client c.args.tid has.come new c.in-Ok-Replied.receipt
    (told_so q old c.args.rank c.args.client c.args.tid has.come new c.in-Ok-Replied.field-0 (Replied c.in-Ok-Replied.receipt) c.in-Ok-Replied.field-0-is (c.in-Ok-Replied.ensures.served q.opening past has.behind))

pub returns-in-Ok-Waits-clause-asked : goal.returns-in-Ok-Waits-clause-asked
returns-in-Ok-Waits-clause-asked g c q past has master =
    let old = whole_of q.opening past c.args.book.now in
    let new = whole_of q.opening past c.serve.new.book in
    let its = told_so q old c.args.rank c.args.client c.args.tid has.come new c.in-Ok-Waits.field-0 Waits c.in-Ok-Waits.field-0-is (c.in-Ok-Waits.ensures.served q.opening past has.behind) in
    let waits : HasComeBehind q past c.serve.new.book c.args.rank c.args.client c.args.tid =
    record { behind = c.in-Ok-Waits.ensures.goes_on q.opening past has.behind; come = stays q old c.args.rank c.args.client c.args.tid has.come new its.0 its.1 (omega (arith, c.in-Ok-Waits.ensures.counted)) } in
    c.serve_granted.ensures.asked q past waits master

pub returns-in-Err-clause-asked : goal.returns-in-Err-clause-asked
returns-in-Err-clause-asked g c q past has master =
    let old = whole_of q.opening past c.args.book.now in
    let new = whole_of q.opening past c.serve.new.book in
    refused q old c.args.rank c.args.client c.args.tid has.come new c.in-Err.refusal (c.in-Err.ensures.served q.opening past has.behind q.request [] (front q old c.args.rank c.args.client c.args.tid has.come))

pub returns-in-Ok-Replied-clause-reached : goal.returns-in-Ok-Replied-clause-reached
returns-in-Ok-Replied-clause-reached g c opening past given =
    let old = whole_of opening past c.args.book.now in
    let new = whole_of opening past c.serve.new.book in
    leads_within c.args.client c.args.tid [] 1 18 (c.in-Ok-Replied.receipt ∷ []) None old new (omega arith)
    (leads_served c.args.client c.args.tid c.in-Ok-Replied.field-0 (Replied c.in-Ok-Replied.receipt) c.in-Ok-Replied.field-0-is old new (c.in-Ok-Replied.ensures.reached opening past given c.args.client c.args.tid))

pub returns-in-Ok-Waits-clause-reached : goal.returns-in-Ok-Waits-clause-reached
returns-in-Ok-Waits-clause-reached g c opening past given =
    let old = whole_of opening past c.args.book.now in
    let mid = whole_of opening past c.serve.new.book in
    leads_then c.args.client c.args.tid [] [] 1 17 18 [] (receipt_in c.serve_granted.result) None (result_err c.serve_granted.result) old mid (whole_of opening past c.serve_granted.new.book) (omega arith)
    (leads_served c.args.client c.args.tid c.in-Ok-Waits.field-0 Waits c.in-Ok-Waits.field-0-is old mid (c.in-Ok-Waits.ensures.reached opening past given c.args.client c.args.tid))
    (c.serve_granted.ensures.reached opening past (c.in-Ok-Waits.ensures.goes_on opening past given))

pub returns-in-Err-clause-reached : goal.returns-in-Err-clause-reached
returns-in-Err-clause-reached g c opening past given =
    leads_within c.args.client c.args.tid [] 1 18 [] (Some c.in-Err.refusal) (whole_of opening past c.args.book.now) (whole_of opening past c.serve.new.book) (omega arith) (c.in-Err.ensures.reached opening past given c.args.client c.args.tid)
