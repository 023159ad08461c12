-- What is to come of the pairs is as good as all of them, and adds what all of them add; with the
-- calls for it those so far are the calls for all.
use Rattle.dentry_cache.proofs.Common.{None, Option, added, are_good, contents, key_cmp, length, pairs_left, ◌≡◌}
use Rattle.std.specs.FinMap as map
use Rattle.mds_types.specs.declared.refusals.Refusal.{Refusal}
use Rattle.dentry_cache.specs.Calls.{AreCalls, pages_read}
use Rattle.dentry_cache.proofs.loading.read_names.Given as goal

abbrev pub invariant-loop-after : goal.invariant-loop-after
invariant-loop-after g l = record {
  same : g.S.Store.objects l.store ≡ g.S.Store.objects l.fn.store;
  counted : g.S.Store.faults l.store ≡ g.S.Store.faults l.fn.store;
  good : are_good l.frag (pairs_left (map.get (g.S.Store.objects l.fn.store) l.fn.text) l.after) ≡ are_good l.fn.frag (pairs_left (map.get (g.S.Store.objects l.fn.store) l.fn.text) None);
  called : (told : Option Refusal) (end : g.row.S.Denot) → AreCalls g.S.Store.IsCall (pages_read l.frag (pairs_left (map.get (g.S.Store.objects l.fn.store) l.fn.text) l.after)) l.store told end
      → AreCalls g.S.Store.IsCall (pages_read l.fn.frag (pairs_left (map.get (g.S.Store.objects l.fn.store) l.fn.text) None)) l.fn.store told end;
  whole : added (contents key_cmp l.names) (pairs_left (map.get (g.S.Store.objects l.fn.store) l.fn.text) l.after) ≡ added map.empty (pairs_left (map.get (g.S.Store.objects l.fn.store) l.fn.text) None);
}

abbrev pub decreases-loop-after : goal.decreases-loop-after
decreases-loop-after g l = length (pairs_left (map.get (g.S.Store.objects l.fn.store) l.fn.text) l.after)
