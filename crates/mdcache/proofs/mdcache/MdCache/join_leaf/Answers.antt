use Rattle.mdcache.proofs.Common.{IsThat, NoneEnds, leaf_of}
use Rattle.mdcache.proofs.CoreLaws.{reads_sound, that_live}
use Rattle.mdcache.proofs.JoinSteps.{join_told}
use Rattle.mdcache.proofs.mdcache.MdCache.join_leaf.Goals as goal

pub returns-in-Err-clause-sound : goal.returns-in-Err-clause-sound
returns-in-Err-clause-sound g c = reads_sound (IsThat c.args.at.now.rank.0 (leaf_of c.args.at.now)) NoneEnds c.args.self.now c.fetch.new.self c.fetch.ensures.reads c.requires.sound (that_live c.args.self.now c.args.at.now.rank.0 (leaf_of c.args.at.now) c.requires.live) c.fetch.ensures.none

pub returns-clause-joined : goal.returns-clause-joined
returns-clause-joined g c = join_told c.args.self.now c.fetch.new.self _ c.self.view_is c.args.at.now c.fetch.ensures.reads (reads_sound (IsThat c.args.at.now.rank.0 (leaf_of c.args.at.now)) NoneEnds c.args.self.now c.fetch.new.self c.fetch.ensures.reads c.requires.sound (that_live c.args.self.now c.args.at.now.rank.0 (leaf_of c.args.at.now) c.requires.live) c.fetch.ensures.none) c.args.joined.now c.copy_names.new.into c.in_ok-copy_names.ensures.copied

pub returns-clause-sound : goal.returns-clause-sound
returns-clause-sound g c = reads_sound (IsThat c.args.at.now.rank.0 (leaf_of c.args.at.now)) NoneEnds c.args.self.now c.fetch.new.self c.fetch.ensures.reads c.requires.sound (that_live c.args.self.now c.args.at.now.rank.0 (leaf_of c.args.at.now) c.requires.live) c.fetch.ensures.none

pub returns-in_err-copy_names-clause-sound : goal.returns-in_err-copy_names-clause-sound
returns-in_err-copy_names-clause-sound g c = reads_sound (IsThat c.args.at.now.rank.0 (leaf_of c.args.at.now)) NoneEnds c.args.self.now c.fetch.new.self c.fetch.ensures.reads c.requires.sound (that_live c.args.self.now c.args.at.now.rank.0 (leaf_of c.args.at.now) c.requires.live) c.fetch.ensures.none
