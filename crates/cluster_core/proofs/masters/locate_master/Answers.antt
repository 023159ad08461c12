use Rattle.cluster_core.proofs.Common.{HoldsAt, destination_of, held_roots, main_hash, shown_tree}
use Rattle.mdcache.specs.Core.{state_of as tree_state}
use Rattle.cluster_core.proofs.MasterLaws.{master_located, where_found}
use Rattle.cluster_core.proofs.masters.locate_master.Goals as goal

pub master_of-requires : goal.master_of-requires
master_of-requires g c =
    where_found (shown_tree (tree_state c.args.tree.now.tree)) c.args.tree.now.tree.covers (HoldsAt (tree_state c.args.tree.now.tree) (held_roots c.args.tree.now)) (destination_of c.args.op.now) (main_hash c.args.op.now) c.locate-places.result.main c.locate-places.ensures.main

pub returns-clause-master : goal.returns-clause-master
returns-clause-master g c =
    master_located (tree_state c.args.tree.now.tree) c.args.tree.now.subtrees.roots (held_roots c.args.tree.now) c.args.rank c.args.op.now c.locate-places.result.main c.master_of.result c.locate-places.ensures.main c.master_of.ensures
