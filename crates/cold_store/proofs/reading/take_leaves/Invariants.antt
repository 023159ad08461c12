-- The leaves to come are as good or as bad as all of them, and add what all of them add; with the calls
-- for them those so far are the calls for all.
use Rattle.cold_store.proofs.Common.{AreGoodLeaves, IsBadAmong, IsMetDir, ObjName, Option, Refusal, drop, rows_under, with_rows, ◌≡◌}
use Rattle.cold_store.specs.Calls.{AreLeafCalls}
use Rattle.cold_store.proofs.reading.take_leaves.Given as goal

abbrev pub invariant-loop-leaf : goal.invariant-loop-leaf
invariant-loop-leaf g l = record {
  same : g.S.Store.objects l.store ≡ g.S.Store.objects l.fn.store;
  counted : g.S.Store.faults l.store ≡ g.S.Store.faults l.fn.store;
  ready : IsMetDir l.found.shape l.dir.0;
  covers : l.found.covers ≡ l.fn.found.covers;
  good : AreGoodLeaves (g.S.Store.objects l.fn.store) l.found.shape l.dir (drop l.leaf-index l.leaves) → AreGoodLeaves (g.S.Store.objects l.fn.store) l.fn.found.shape l.dir l.fn.leaves;
  bad : (name : ObjName) → IsBadAmong (g.S.Store.objects l.fn.store) l.found.shape l.dir (drop l.leaf-index l.leaves) name → IsBadAmong (g.S.Store.objects l.fn.store) l.fn.found.shape l.dir l.fn.leaves name;
  called : (told : Option Refusal) (end : g.row.S.Denot) → AreLeafCalls g.S.Store.IsCall (g.S.Store.objects l.fn.store) l.found.shape l.dir (drop l.leaf-index l.leaves) l.store told end
      → AreLeafCalls g.S.Store.IsCall (g.S.Store.objects l.fn.store) l.fn.found.shape l.dir l.fn.leaves l.fn.store told end;
  whole : with_rows l.found.shape (rows_under (g.S.Store.objects l.fn.store) l.dir (drop l.leaf-index l.leaves)) ≡ with_rows l.fn.found.shape (rows_under (g.S.Store.objects l.fn.store) l.dir l.fn.leaves);
}
