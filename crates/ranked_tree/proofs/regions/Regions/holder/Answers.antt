use Rattle.ranked_tree.proofs.Common.{holder_is, valid_so}
use Rattle.ranked_tree.proofs.regions.Regions.holder.Goals as goal

pub holder-requires-clause-valid : goal.holder-requires-clause-valid
holder-requires-clause-valid c = (valid_so c.args.self.now.exports c.args.self.now.roots.roots c.args.dirs.now.homes c.args.dirs.now.trees).1 c.requires.valid

pub returns : goal.returns
returns c = (holder_is c.args.self.now.exports c.args.self.now.roots.roots c.args.dirs.now.homes c.args.dirs.now.trees (c.args.dir, c.args.frag) c.holder.result).0 c.holder.ensures
