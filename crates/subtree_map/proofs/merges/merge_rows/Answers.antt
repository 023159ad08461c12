use Rattle.subtree_map.proofs.TakenOut.{merged_rows}
use Rattle.subtree_map.proofs.merges.merge_rows.Goals as goal

pub returns-in-Some-clause-roots : goal.returns-in-Some-clause-roots
returns-in-Some-clause-roots c = merged_rows c.args.roots.now.roots _ _ c.args.dir.0 c.args.frag c.in-Some.rank c.in-Some.ensures.taken c.insert.ensures.roots
