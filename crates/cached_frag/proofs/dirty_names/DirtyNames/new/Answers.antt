use Rattle.cached_frag.proofs.Common.{contents, key_cmp}
use Rattle.cached_frag.proofs.MarkLaws.{none_dirty}
use Rattle.cached_frag.proofs.dirty_names.DirtyNames.new.Goals as goal

pub invariant_of-result : goal.invariant_of-result
invariant_of-result c = none_dirty (contents key_cmp c.new.result) c.new.ensures.empty
