use Rattle.ranked_tree.proofs.FragsLaws.{found_live}
use Rattle.ranked_tree.proofs.ranked_tree.RankedTree.authority_at.Goals as goal

pub authority_at-requires-clause-live : goal.authority_at-requires-clause-live
authority_at-requires-clause-live g c = found_live c.self.inside.tree c.self.inside.regions c.args.self.now c.self.view_is c.self.invariant.owned.sound.sound c.args.at.now c.requires.at
