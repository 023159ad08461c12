use Rattle.mdcache.proofs.Common.{ap, is_some, state_of}
use Rattle.mdcache.specs.Commits.{leaf_of_job}
use Rattle.mdcache.proofs.BatchLaws.{ends_keeps}
use Rattle.mdcache.proofs.CommittedLaws.{ends_whole}
use Rattle.mdcache.proofs.mdcache.MdCache.end_one.Goals as goal

pub returns-clause-tree : goal.returns-clause-tree
returns-clause-tree g c =
    ends_keeps c.args.self.now c.end.new.self c.args.rank (leaf_of_job c.args.encoded.now.job) c.requires.holds (ap is_some c.requires.begun.beside) c.end.ensures.came c.args.self.now.faults c.end.new.self.faults c.args.encoded.now.job c.end.result c.end.ensures.ended

pub returns-clause-whole : goal.returns-clause-whole
returns-clause-whole g c = ends_whole (state_of c.args.self.now) (state_of c.end.new.self) c.args.self.now.faults c.end.new.self.faults c.args.encoded.now.job c.requires.sound.sound c.requires.begun c.end.result c.end.ensures.ended
