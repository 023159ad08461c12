use Rattle.cached_frag.proofs.Common.{contents, key_cmp}
use Rattle.cached_frag.proofs.CountedLaws.{at_first}
use Rattle.cached_frag.proofs.named.loading.counts_in.Goals as goal

pub loop-inode-init : goal.loop-inode-init
loop-inode-init c =
    let w = at_first (contents key_cmp c.args.names.now) c.into_iter-inode-iterator.result c.into_iter-inode-iterator.ensures.into_iter_gives in
    record { files = w.0; dirs = w.1; total = w.2 }
