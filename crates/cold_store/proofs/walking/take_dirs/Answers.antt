use Rattle.cold_store.proofs.Common.{Ino, IsBadIn, IsGoodDir, None, Option, Refusal, Some, arith, cover_in, get_or, refl, rows_in, subst, with_cover, with_rows, ◌∙◌, ◌≡◌}
use Rattle.dentry_cache.proofs.CallLaws.{some_not}
use Rattle.cold_store.specs.Calls.{AreDirCalls}
use Rattle.cold_store.proofs.CallSteps.{all_read, dir_ends, dir_goes_on}
use Rattle.cold_store.proofs.Refusals.{widened}
use Rattle.cold_store.proofs.Steps.{faulty, next_dir, ready_here, taken, walked_first, walked_last, walked_more}
use Rattle.cold_store.proofs.walking.take_dirs.Goals as goal

abbrev none : Ino
none = record { 0 = 0 }

pub loop-next-init : goal.loop-next-init
loop-next-init g c = record { same = refl; counted = refl; called = refl; walked = walked_first (g.S.Store.objects c.args.store.now) c.args.found.now c.requires }

pub take_dir-requires : goal.take_dir-requires
take_dir-requires g c =
    let less = rw c.queue.ensures at c.loop-next-test.true in
    ready_here (g.S.Store.objects c.args.store.now) c.loop-next.found c.loop-next.next c.loop-next.invariant.walked (get_or c.queue-in-loop-next.result.now c.loop-next.next none) less
    (next_dir c.queue-in-loop-next.result.now c.loop-next.found.shape.queue c.loop-next.next none c.queue-in-loop-next.ensures less)

pub returns-in-Err-clause-refused : goal.returns-in-Err-clause-refused
returns-in-Err-clause-refused g c =
    let inv = c.loop-next.invariant in
    let d = get_or c.queue-in-loop-next.result.now c.loop-next.next none in
    let less = rw c.queue.ensures at c.loop-next-test.true in
    let at = next_dir c.queue-in-loop-next.result.now c.loop-next.found.shape.queue c.loop-next.next none c.queue-in-loop-next.ensures less in
    let before = inv.counted in
    widened (g.S.Store.faults c.loop-next.store) (g.S.Store.faults c.take_dir.new.store) (g.S.Store.faults c.args.store.now) (g.S.Store.faults c.take_dir.new.store) c.in-Err.refusal
    (λ rose. omega (arith, rose, before))
    (λ name bad. faulty (g.S.Store.objects c.args.store.now) c.loop-next.found c.loop-next.next inv.walked d less at name (subst (λ o. IsBadIn o c.loop-next.found.shape d name) inv.same bad))
    c.in-Err.ensures.refused

pub loop-next-preserved : goal.loop-next-preserved
loop-next-preserved g c =
    let inv = c.loop-next.invariant in
    let d = get_or c.queue-in-loop-next.result.now c.loop-next.next none in
    let less = rw c.queue.ensures at c.loop-next-test.true in
    let at = next_dir c.queue-in-loop-next.result.now c.loop-next.found.shape.queue c.loop-next.next none c.queue-in-loop-next.ensures less in
    let before = inv.counted in
    let count = c.in_default.ensures.counted in
    record {
      same = c.in_default.ensures.same ∙ inv.same;
      counted = omega (arith, count, before);
      called = dir_goes_on g.S.Store.IsCall (g.S.Store.objects c.args.store.now) c.loop-next.found c.loop-next.next inv.walked c.args.store.now c.loop-next.store inv.called d less at c.take_dir.new.found
          (taken (g.S.Store.objects c.args.store.now) c.loop-next.found c.loop-next.next inv.walked d less at c.take_dir.new.found
          (subst (λ o. IsGoodDir o c.loop-next.found.shape d) inv.same c.in_default.ensures.good)
          (subst (λ o. c.take_dir.new.found.shape ≡ with_rows c.loop-next.found.shape (rows_in o d)) inv.same c.in_default.ensures.added)
          (subst (λ o. c.take_dir.new.found.covers ≡ with_cover c.loop-next.found.covers d (cover_in o d)) inv.same c.in_default.ensures.covers))
          (subst (λ o. IsGoodDir o c.loop-next.found.shape d) inv.same c.in_default.ensures.good) c.take_dir.new.store
          (subst (λ o. AreDirCalls g.S.Store.IsCall o c.loop-next.found.shape d c.loop-next.store None c.take_dir.new.store) inv.same c.in_default.ensures.called);
      walked = walked_more (g.S.Store.objects c.args.store.now) c.loop-next.found c.loop-next.next inv.walked d less at c.take_dir.new.found
          (subst (λ o. IsGoodDir o c.loop-next.found.shape d) inv.same c.in_default.ensures.good)
          (subst (λ o. c.take_dir.new.found.shape ≡ with_rows c.loop-next.found.shape (rows_in o d)) inv.same c.in_default.ensures.added)
          (subst (λ o. c.take_dir.new.found.covers ≡ with_cover c.loop-next.found.covers d (cover_in o d)) inv.same c.in_default.ensures.covers);
    }

pub returns-clause-found : goal.returns-clause-found
returns-clause-found g c =
    walked_last (g.S.Store.objects c.args.store.now) c.loop-next.found c.loop-next.next c.loop-next.invariant.walked (rw c.queue.ensures at c.loop-next-test.false)

pub returns-in-Err-clause-ended : goal.returns-in-Err-clause-ended
returns-in-Err-clause-ended g c =
    let inv = c.loop-next.invariant in
    let d = get_or c.queue-in-loop-next.result.now c.loop-next.next none in
    let less = rw c.queue.ensures at c.loop-next-test.true in
    let at = next_dir c.queue-in-loop-next.result.now c.loop-next.found.shape.queue c.loop-next.next none c.queue-in-loop-next.ensures less in
    let told : Option Refusal = Some c.in-Err.refusal in
    dir_ends g.S.Store.IsCall (g.S.Store.objects c.args.store.now) c.loop-next.found c.loop-next.next inv.walked c.args.store.now c.loop-next.store inv.called d less at told c.take_dir.new.store (some_not c.in-Err.refusal)
    (subst (λ o. AreDirCalls g.S.Store.IsCall o c.loop-next.found.shape d c.loop-next.store told c.take_dir.new.store) inv.same c.in-Err.ensures.called)

pub returns-clause-called : goal.returns-clause-called
returns-clause-called g c =
    let inv = c.loop-next.invariant in
    all_read g.S.Store.IsCall (g.S.Store.objects c.args.store.now) c.loop-next.found c.loop-next.next inv.walked c.args.store.now c.loop-next.store inv.called (rw c.queue.ensures at c.loop-next-test.false)
