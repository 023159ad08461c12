use Rattle.asking.proofs.Common.{None, Some, [], arith, whole_of, ◌+◌, ◌∙◌}
use Rattle.asking.proofs.GrantLaws.{all_granted, one_more, one_refused, waits_still}
use Rattle.asking.proofs.ReachedLaws.{leads_then, leads_within}
use Rattle.asking.proofs.grants.grant_all.Goals as goal

pub loop-rank-preserved : goal.loop-rank-preserved
loop-rank-preserved g c = record {
  so = λ request waits.
      let so = c.loop-rank.invariant.so request waits in
      one_more c.args.book.now.core c.loop-rank.book.core c.grant_own.new.book.core c.args.client c.args.tid c.loop-rank.rank request.op so
      (c.in_default.ensures.granted request (waits_still c.args.book.now.core c.loop-rank.book.core c.args.client c.args.tid request so.kept waits));
  reached = λ opening past given.
      leads_then c.args.client c.args.tid [] [] c.loop-rank.rank 1 (c.loop-rank.rank + 1) [] [] None None (whole_of opening past c.args.book.now) (whole_of opening past c.loop-rank.book) (whole_of opening past c.grant_own.new.book) (omega arith)
      (c.loop-rank.invariant.reached opening past given) (c.in_default.ensures.reached opening past (c.loop-rank.invariant.goes_on opening past given));
  goes_on = λ opening past given. c.grant_own.ensures.goes_on opening past (c.loop-rank.invariant.goes_on opening past given);
  history = c.grant_own.ensures.history ∙ c.loop-rank.invariant.history;
  same_opening = c.grant_own.ensures.opening ∙ c.loop-rank.invariant.same_opening;
  sound = c.grant_own.ensures.sound;
  faults = omega (arith, c.in_default.ensures.counted, c.loop-rank.invariant.faults);
}

pub returns-clause-granted : goal.returns-clause-granted
returns-clause-granted g c request waits =
    let known = c.is_sound.ensures in
    let old = whole_of known.0 known.1 c.args.book.now in
    all_granted old.opening old.history old.core c.loop-rank.book.core c.args.client c.args.tid c.loop-rank.rank request.op known.2.behind.sound (omega (arith, c.loop-rank-test.false, c.loop-rank.auto.rank-end)) (c.loop-rank.invariant.so request waits)

pub returns-clause-reached : goal.returns-clause-reached
returns-clause-reached g c opening past given =
    leads_within c.args.client c.args.tid [] c.loop-rank.rank 16 [] None (whole_of opening past c.args.book.now) (whole_of opening past c.loop-rank.book) (omega (arith, c.loop-rank-test.false, c.loop-rank.auto.rank-end))
    (c.loop-rank.invariant.reached opening past given)

pub returns-in-Err-clause-reached : goal.returns-in-Err-clause-reached
returns-in-Err-clause-reached g c opening past given =
    leads_then c.args.client c.args.tid [] [] c.loop-rank.rank 1 16 [] [] None (Some c.in-Err.refusal) (whole_of opening past c.args.book.now) (whole_of opening past c.loop-rank.book) (whole_of opening past c.grant_own.new.book)
    (omega (arith, c.loop-rank-test.true, c.loop-rank.auto.rank-end)) (c.loop-rank.invariant.reached opening past given) (c.in-Err.ensures.reached opening past (c.loop-rank.invariant.goes_on opening past given))

pub returns-in-Err-clause-granted : goal.returns-in-Err-clause-granted
returns-in-Err-clause-granted g c request waits =
    let so = c.loop-rank.invariant.so request waits in
    one_refused c.args.book.now.core c.loop-rank.book.core c.grant_own.new.book.core c.args.client c.args.tid c.loop-rank.rank (record { 0 = c.loop-rank.rank }) request.op c.in-Err.refusal c.loop-rank.invariant.faults so
    (c.in-Err.ensures.granted request (waits_still c.args.book.now.core c.loop-rank.book.core c.args.client c.args.tid request so.kept waits))
