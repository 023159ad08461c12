use Rattle.ranked_tree.proofs.Common.{◌∙◌}
use Rattle.ranked_tree.proofs.MountedRoots.{are_top}
use Rattle.ranked_tree.proofs.mounting.top_roots.Goals as goal

pub returns : goal.returns
returns c = are_top c.args.dirs.now.trees _ c.fill.new.self.roots (c.reserve.ensures.roots ∙ c.in_ok-roots.ensures.roots) c.fill.ensures.filled
