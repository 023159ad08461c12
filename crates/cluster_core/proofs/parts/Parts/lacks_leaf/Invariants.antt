-- The leaves that begin before the hash may be changed.
use Rattle.cluster_core.proofs.Common.{MayTouch, cluster_of, in_directory, leaves_of, ◌-◌, ◌^◌}
use Rattle.cluster_core.proofs.GrantLaws.{Done}
use Rattle.cluster_core.proofs.parts.Parts.lacks_leaf.Given as goal

abbrev pub invariant-loop-hash : goal.invariant-loop-hash
invariant-loop-hash g l = Done (leaves_of l.self.tree.tree.covers l.dir.0) (λ f. MayTouch (cluster_of l.self).state l.rank l.request (in_directory l.dir.0 f)) l.hash

abbrev pub decreases-loop-hash : goal.decreases-loop-hash
decreases-loop-hash g l = 2 ^ 24 - l.hash
