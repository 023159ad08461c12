-- The directories before `next` are walked, and none of them is bad; each that is found is reached;
-- and these are the calls so far.
use Rattle.cold_store.proofs.Common.{IsWalkedTo, root_alone, take, ◌-◌, ◌^◌, ◌≡◌}
use Rattle.cold_store.specs.Calls.{AreDirsCalls}
use Rattle.cold_store.proofs.walking.take_dirs.Given as goal

abbrev pub invariant-loop-next : goal.invariant-loop-next
invariant-loop-next g l = record {
  same : g.S.Store.objects l.store ≡ g.S.Store.objects l.fn.store;
  counted : g.S.Store.faults l.store ≡ g.S.Store.faults l.fn.store;
  called : AreDirsCalls g.S.Store.IsCall (g.S.Store.objects l.fn.store) root_alone (take l.next l.found.shape.queue) l.fn.store l.store;
  walked : IsWalkedTo (g.S.Store.objects l.fn.store) l.found l.next;
}

abbrev pub decreases-loop-next : goal.decreases-loop-next
decreases-loop-next g l = 2 ^ 64 - l.next
