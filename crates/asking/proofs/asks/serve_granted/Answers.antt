use Rattle.asking.proofs.Common.{Entry, Goes, GrantsThem, HasCome, HasComeBehind, KeptState, List, None, Question, Replied, Some, Waits, [], ap, arith, whole_of, ◌++◌, ◌≡◌, ◌∷◌}
use Rattle.mds_types.specs.declared.ids.Rank.{Rank}
use Rattle.asking.proofs.AnswerLaws.{front, granted, is_waiting, needs_no_wait, never_again, not_granted, refused, replied, told_so}
use Rattle.asking.proofs.ReachedLaws.{leads_served, leads_then, leads_within}
use Rattle.asking.proofs.asks.serve_granted.Goals as goal

-- with the grants of all ranks it waits on
ready : (q : Question) (past : List Entry) (old mid : KeptState) (at : Rank) (client tid : _) → HasComeBehind q past old at client tid → GrantsThem old.core mid.core client tid q.request.op → mid.history ≡ old.history → mid.core.faults ≡ old.core.faults
    → HasCome q (whole_of q.opening past mid) at client tid
ready q past old mid at client tid has grants same faults = granted q (whole_of q.opening past old) at client tid has.come (whole_of q.opening past mid) grants (ap (λ (l : List Entry). past ++ l) same) faults

pub returns-in-Err-clause-asked : goal.returns-in-Err-clause-asked
returns-in-Err-clause-asked g c q past has master =
    let old = whole_of q.opening past c.args.book.now in
    not_granted q old c.args.rank c.args.client c.args.tid has.come (whole_of q.opening past c.grant_all.new.book) master c.in-Err.refusal
    (c.in-Err.ensures.granted q.request (is_waiting q old c.args.rank c.args.client c.args.tid has.come)) (ap (λ (l : List Entry). past ++ l) c.in-Err.ensures.history)

pub serve-requires : goal.serve-requires
serve-requires g c =
    let q = c.requires.0 in
    let past = c.requires.1 in
    let has = c.requires.2 in
    let old = whole_of q.opening past c.args.book.now in
    let mid = whole_of q.opening past c.grant_all.new.book in
    let grants = c.in_default.ensures.granted q.request (is_waiting q old c.args.rank c.args.client c.args.tid has.come) in
    let come = ready q past c.args.book.now c.grant_all.new.book c.args.rank c.args.client c.args.tid has grants c.in_default.ensures.history (omega (arith, c.in_default.ensures.counted)) in
    (q.request, [], front q mid c.args.rank c.args.client c.args.tid come)

pub unreachable-requires : goal.unreachable-requires
unreachable-requires g c =
    let q = c.requires.0 in
    let past = c.requires.1 in
    let has = c.requires.2 in
    let old = whole_of q.opening past c.args.book.now in
    let mid = whole_of q.opening past c.grant_all.new.book in
    let new = whole_of q.opening past c.serve.new.book in
    let grants = c.in_default.ensures.granted q.request (is_waiting q old c.args.rank c.args.client c.args.tid has.come) in
    let come = ready q past c.args.book.now c.grant_all.new.book c.args.rank c.args.client c.args.tid has grants c.in_default.ensures.history (omega (arith, c.in_default.ensures.counted)) in
    let on = c.in_default.ensures.goes_on q.opening past has.behind in
    let its = told_so q mid c.args.rank c.args.client c.args.tid come new c.in-Ok-Goes.field-0 (Goes c.in-Ok-Goes.field-0-0) c.in-Ok-Goes.field-0-is (c.in-Ok-Goes.ensures.served q.opening past on) in
    never_again q mid c.args.rank c.args.client c.args.tid come new c.in-Ok-Goes.field-0-0 its.0 c.requires.3

pub unreachable-requires-in-Ok-Waits : goal.unreachable-requires-in-Ok-Waits
unreachable-requires-in-Ok-Waits g c =
    let q = c.requires.0 in
    let past = c.requires.1 in
    let has = c.requires.2 in
    let old = whole_of q.opening past c.args.book.now in
    let mid = whole_of q.opening past c.grant_all.new.book in
    let new = whole_of q.opening past c.serve.new.book in
    let grants = c.in_default.ensures.granted q.request (is_waiting q old c.args.rank c.args.client c.args.tid has.come) in
    let come = ready q past c.args.book.now c.grant_all.new.book c.args.rank c.args.client c.args.tid has grants c.in_default.ensures.history (omega (arith, c.in_default.ensures.counted)) in
    let on = c.in_default.ensures.goes_on q.opening past has.behind in
    let its = told_so q mid c.args.rank c.args.client c.args.tid come new c.in-Ok-Waits.field-0 Waits c.in-Ok-Waits.field-0-is (c.in-Ok-Waits.ensures.served q.opening past on) in
    needs_no_wait q old c.args.rank c.args.client c.args.tid has.come mid grants new.core.state mid.history new.history its.0

pub returns-in-Ok-Replied-clause-asked : goal.returns-in-Ok-Replied-clause-asked
returns-in-Ok-Replied-clause-asked g c q past has master =
    let old = whole_of q.opening past c.args.book.now in
    let mid = whole_of q.opening past c.grant_all.new.book in
    let new = whole_of q.opening past c.serve.new.book in
    let grants = c.in_default.ensures.granted q.request (is_waiting q old c.args.rank c.args.client c.args.tid has.come) in
    let come = ready q past c.args.book.now c.grant_all.new.book c.args.rank c.args.client c.args.tid has grants c.in_default.ensures.history (omega (arith, c.in_default.ensures.counted)) in
    let on = c.in_default.ensures.goes_on q.opening past has.behind in
    replied q mid c.args.rank c.args.client c.args.tid come new c.in-Ok-Replied.receipt
    (told_so q mid c.args.rank c.args.client c.args.tid come new c.in-Ok-Replied.field-0 (Replied c.in-Ok-Replied.receipt) c.in-Ok-Replied.field-0-is (c.in-Ok-Replied.ensures.served q.opening past on))

pub returns-in-Err-serve-clause-asked : goal.returns-in-Err-serve-clause-asked
returns-in-Err-serve-clause-asked g c q past has master =
    let old = whole_of q.opening past c.args.book.now in
    let mid = whole_of q.opening past c.grant_all.new.book in
    let new = whole_of q.opening past c.serve.new.book in
    let grants = c.in_default.ensures.granted q.request (is_waiting q old c.args.rank c.args.client c.args.tid has.come) in
    let come = ready q past c.args.book.now c.grant_all.new.book c.args.rank c.args.client c.args.tid has grants c.in_default.ensures.history (omega (arith, c.in_default.ensures.counted)) in
    let on = c.in_default.ensures.goes_on q.opening past has.behind in
    refused q mid c.args.rank c.args.client c.args.tid come new c.in-Err-serve.refusal (c.in-Err-serve.ensures.served q.opening past on q.request [] (front q mid c.args.rank c.args.client c.args.tid come))

pub returns-in-Ok-Replied-clause-reached : goal.returns-in-Ok-Replied-clause-reached
returns-in-Ok-Replied-clause-reached g c opening past given =
    let old = whole_of opening past c.args.book.now in
    let mid = whole_of opening past c.grant_all.new.book in
    let new = whole_of opening past c.serve.new.book in
    let on = c.in_default.ensures.goes_on opening past given in
    leads_then c.args.client c.args.tid [] [] 16 1 17 [] (c.in-Ok-Replied.receipt ∷ []) None None old mid new (omega arith) (c.in_default.ensures.reached opening past given)
    (leads_served c.args.client c.args.tid c.in-Ok-Replied.field-0 (Replied c.in-Ok-Replied.receipt) c.in-Ok-Replied.field-0-is mid new (c.in-Ok-Replied.ensures.reached opening past on c.args.client c.args.tid))

pub returns-in-Err-serve-clause-reached : goal.returns-in-Err-serve-clause-reached
returns-in-Err-serve-clause-reached g c opening past given =
    let on = c.in_default.ensures.goes_on opening past given in
    leads_then c.args.client c.args.tid [] [] 16 1 17 [] [] None (Some c.in-Err-serve.refusal) (whole_of opening past c.args.book.now) (whole_of opening past c.grant_all.new.book) (whole_of opening past c.serve.new.book) (omega arith)
    (c.in_default.ensures.reached opening past given) (c.in-Err-serve.ensures.reached opening past on c.args.client c.args.tid)

pub returns-in-Err-clause-reached : goal.returns-in-Err-clause-reached
returns-in-Err-clause-reached g c opening past given =
    leads_within c.args.client c.args.tid [] 16 17 [] (Some c.in-Err.refusal) (whole_of opening past c.args.book.now) (whole_of opening past c.grant_all.new.book) (omega arith) (c.in-Err.ensures.reached opening past given)
