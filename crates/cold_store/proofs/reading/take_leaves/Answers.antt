use Rattle.cold_store.proofs.Common.{Fragment, IsBadLeaf, IsGoodLeaf, List, None, Option, Refusal, Some, arith, object_of, refl, records_at, subst, sym, with_rows, ◌∙◌, ◌≡◌}
use Rattle.std.proofs.lemmas.List.{drop_all}
use Rattle.dentry_cache.specs.Calls.{AreCalls, calls_to_load}
use Rattle.dentry_cache.proofs.CallLaws.{some_not}
use Rattle.cold_store.specs.Calls.{AreLeafCalls}
use Rattle.cold_store.proofs.CallSteps.{bad_here, leaf_ends, leaf_goes_on, tells_no_other}
use Rattle.cold_store.proofs.Refusals.{widened}
use Rattle.mds_types.specs.declared.object_names.ObjName.TheVariants.{Frag as FragOf}
use Rattle.cold_store.proofs.Steps.{bad_step, good_step, whole_step}
use Rattle.cold_store.proofs.reading.take_leaves.Goals as goal

pub loop-leaf-preserved : goal.loop-leaf-preserved
loop-leaf-preserved g c =
    let inv = c.loop-leaf.invariant in
    let objects = g.S.Store.objects c.args.store.now in
    let f = c.leaf-item.result in
    let s = c.loop-leaf.found.shape in
    let t = c.take_leaf.new.found.shape in
    let good = subst (λ o. IsGoodLeaf o s (c.args.dir, f)) inv.same c.in_default.ensures.good in
    let added = subst (λ o. t ≡ with_rows s (records_at o (c.args.dir, f))) inv.same c.in_default.ensures.added in
    let count = c.in_default.ensures.counted in
    record {
      same = c.in_default.ensures.same ∙ inv.same;
      counted = omega (arith, count, inv.counted);
      ready = c.in_default.ensures.ready;
      covers = c.in_default.ensures.covers ∙ inv.covers;
      good = λ rest. inv.good (good_step objects c.args.dir c.loop-leaf.leaf-index c.args.leaves.now f c.loop-leaf-test.true c.leaf-item.is s t added good rest);
      bad = λ name rest. inv.bad name (bad_step objects c.args.dir c.loop-leaf.leaf-index c.args.leaves.now f c.loop-leaf-test.true c.leaf-item.is s t added name rest);
      called = λ told end rest. inv.called told end (leaf_goes_on g.S.Store.IsCall objects c.args.dir c.loop-leaf.leaf-index c.args.leaves.now f c.loop-leaf-test.true c.leaf-item.is s c.loop-leaf.store t added good c.take_leaf.new.store
          (subst (λ o. AreCalls g.S.Store.IsCall (calls_to_load f (object_of o c.args.dir f)) c.loop-leaf.store None c.take_leaf.new.store) inv.same c.in_default.ensures.called) told end rest);
      whole = whole_step objects c.args.dir c.loop-leaf.leaf-index c.args.leaves.now f c.loop-leaf-test.true c.leaf-item.is s t added ∙ inv.whole;
    }

pub returns-in-Err-clause-refused : goal.returns-in-Err-clause-refused
returns-in-Err-clause-refused g c =
    let inv = c.loop-leaf.invariant in
    let f = c.leaf-item.result in
    let before = inv.counted in
    widened (g.S.Store.faults c.loop-leaf.store) (g.S.Store.faults c.take_leaf.new.store) (g.S.Store.faults c.args.store.now) (g.S.Store.faults c.take_leaf.new.store) c.in-Err.refusal (λ rose. omega (arith, rose, before))
    (λ name bad. inv.bad name (bad_here g.S.Store.IsCall (g.S.Store.objects c.args.store.now) c.args.dir c.loop-leaf.leaf-index c.args.leaves.now f c.loop-leaf-test.true c.leaf-item.is c.loop-leaf.found.shape c.loop-leaf.store name
    (bad.0, subst (λ o. IsBadLeaf o c.loop-leaf.found.shape (c.args.dir, f)) inv.same bad.1))) c.in-Err.ensures.refused

pub returns-in-Err-clause-called : goal.returns-in-Err-clause-called
returns-in-Err-clause-called g c =
    let inv = c.loop-leaf.invariant in
    let f = c.leaf-item.result in
    let told : Option Refusal = Some c.in-Err.refusal in
    inv.called told c.take_leaf.new.store (leaf_ends g.S.Store.IsCall (g.S.Store.objects c.args.store.now) c.args.dir c.loop-leaf.leaf-index c.args.leaves.now f c.loop-leaf-test.true c.leaf-item.is c.loop-leaf.found.shape c.loop-leaf.store told c.take_leaf.new.store (some_not c.in-Err.refusal)
    (tells_no_other _ (FragOf c.args.dir f) _ _ c.in-Err.refusal c.in-Err.ensures.refused)
    (subst (λ o. AreCalls g.S.Store.IsCall (calls_to_load f (object_of o c.args.dir f)) c.loop-leaf.store told c.take_leaf.new.store) inv.same c.in-Err.ensures.called))

pub returns-clause-called : goal.returns-clause-called
returns-clause-called g c =
    let inv = c.loop-leaf.invariant in
    inv.called None c.loop-leaf.store (subst (λ (fs : List Fragment). AreLeafCalls g.S.Store.IsCall (g.S.Store.objects c.args.store.now) c.loop-leaf.found.shape c.args.dir fs c.loop-leaf.store None c.loop-leaf.store)
    (sym (drop_all c.loop-leaf.leaf-index c.args.leaves.now (omega (arith, c.loop-leaf-test.false)))) (refl, refl))
