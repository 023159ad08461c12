-- What is to come of the names makes clean what all of them would; what is shown stays.
use Rattle.cached_frag.proofs.Common.{AreDirtyNames, AreEntries, contents, key_cmp, length, patched, settled_in, ◌≡◌, ◌≤◌}
use Rattle.std.specs.FinMap as map
use Rattle.cached_frag.proofs.named.settling.settle_each.Given as goal

abbrev pub invariant-loop-name : goal.invariant-loop-name
invariant-loop-name l = record {
  dirty : settled_in (contents key_cmp l.dirty) l.name-iterator ≡ settled_in (contents key_cmp l.fn.dirty) (map.entries l.fn.names);
  shown : patched (contents key_cmp l.clean) (contents key_cmp l.dirty) ≡ patched (contents key_cmp l.fn.clean) (contents key_cmp l.fn.dirty);
  entries : AreEntries (contents key_cmp l.clean);
  marks : AreDirtyNames (contents key_cmp l.dirty);
  room : length l.name-iterator ≤ l.clean.room;
}
