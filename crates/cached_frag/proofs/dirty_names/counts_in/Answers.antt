-- Nothing is counted at first, and nothing is left at the end.
use Rattle.cached_frag.proofs.Common.{contents, key_cmp}
use Rattle.cached_frag.proofs.CountLaws.{at_first, counted, dirs_at_last, files_at_last}
use Rattle.cached_frag.proofs.dirty_names.counts_in.Goals as goal

pub loop-mark-init : goal.loop-mark-init
loop-mark-init c =
    let w = at_first (contents key_cmp c.args.names.now) c.into_iter-mark-iterator.result c.into_iter-mark-iterator.ensures.into_iter_gives in
    record { files = w.0; dirs = w.1; few = w.2 }

pub returns : goal.returns
returns c =
    counted (contents key_cmp c.args.names.now) (record { files = c.loop-mark.files; dirs = c.loop-mark.dirs })
    (files_at_last c.loop-mark.files _ _ c.in-None.ensures.steps.0 c.loop-mark.invariant.files) (dirs_at_last c.loop-mark.dirs _ _ c.in-None.ensures.steps.0 c.loop-mark.invariant.dirs)
