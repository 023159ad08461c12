-- The counts so far, with those of the names to come, are those of all names.
use Rattle.cached_frag.proofs.Common.{contents, dirs_in, files_in, key_cmp, length, ◌+◌, ◌≡◌}
use Rattle.std.specs.FinMap as map
use Rattle.cached_frag.proofs.CountedLaws.{dirs_among, files_among}
use Rattle.cached_frag.proofs.named.loading.counts_in.Given as goal

abbrev pub invariant-loop-inode : goal.invariant-loop-inode
invariant-loop-inode l = record {
  files : l.files + files_among l.inode-iterator ≡ files_in (contents key_cmp l.fn.names);
  dirs : l.dirs + dirs_among l.inode-iterator ≡ dirs_in (contents key_cmp l.fn.names);
  total : l.files + l.dirs + length l.inode-iterator ≡ map.len (contents key_cmp l.fn.names);
}
