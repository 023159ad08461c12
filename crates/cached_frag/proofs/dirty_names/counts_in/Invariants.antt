-- The counts so far, with those of the names to come, are those of all names, and no more than there are names.
use Rattle.cached_frag.proofs.Common.{contents, dirs_among, files_among, key_cmp, length, ◌+◌, ◌≡◌, ◌≤◌}
use Rattle.std.specs.FinMap as map
use Rattle.cached_frag.proofs.dirty_names.counts_in.Given as goal

abbrev pub invariant-loop-mark : goal.invariant-loop-mark
invariant-loop-mark l = record {
  files : l.files + files_among l.mark-iterator ≡ files_among (map.entries (contents key_cmp l.fn.names));
  dirs : l.dirs + dirs_among l.mark-iterator ≡ dirs_among (map.entries (contents key_cmp l.fn.names));
  few : l.files + l.dirs + length l.mark-iterator ≤ map.len (contents key_cmp l.fn.names);
}
