-- The names so far, with those to come, are all; and so are the calls.
use Rattle.cold_store.proofs.Common.{None, Option, Refusal, contents, key_cmp, length, object_names_after, with_keys, ◌≡◌}
use Rattle.std.specs.FinMap as map
use Rattle.dentry_cache.specs.Calls.{AreCalls}
use Rattle.cold_store.specs.Calls.{name_pages}
use Rattle.cold_store.proofs.remaining.all_names.Given as goal

abbrev pub invariant-loop-after : goal.invariant-loop-after
invariant-loop-after g l = record {
  same : g.S.Store.objects l.store ≡ g.S.Store.objects l.fn.store;
  counted : g.S.Store.faults l.store ≡ g.S.Store.faults l.fn.store;
  called : (told : Option Refusal) (end : g.row.S.Denot) → AreCalls g.S.Store.IsCall (name_pages (g.S.Store.objects l.fn.store) l.after) l.store told end → AreCalls g.S.Store.IsCall (name_pages (g.S.Store.objects l.fn.store) None) l.fn.store told end;
  whole : with_keys (contents key_cmp l.names) (object_names_after (g.S.Store.objects l.fn.store) l.after) ≡ with_keys map.empty (object_names_after (g.S.Store.objects l.fn.store) None);
}

abbrev pub decreases-loop-after : goal.decreases-loop-after
decreases-loop-after g l = length (object_names_after (g.S.Store.objects l.fn.store) l.after)
