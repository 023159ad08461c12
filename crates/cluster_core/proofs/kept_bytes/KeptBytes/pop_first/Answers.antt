use Rattle.sorted_map.specs.SortedMap.{contents}
use Rattle.mds_types.specs.Leaf.{leaf_cmp}
use Rattle.cluster_core.proofs.ToldBytes.{popped_first}
use Rattle.cluster_core.proofs.kept_bytes.KeptBytes.pop_first.Goals as goal

pub returns : goal.returns
returns c =
    rw (← c.self.view_is) (popped_first (contents leaf_cmp) _ c.pop_first.new.self c.pop_first.result c.pop_first.ensures.value c.pop_first.ensures.rest c.pop_first.ensures.removed c.pop_first.ensures.empty)
