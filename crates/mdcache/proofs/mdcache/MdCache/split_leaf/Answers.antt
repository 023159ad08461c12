use Rattle.mdcache.proofs.Common.{reads_came, rules}
use Rattle.mdcache.proofs.CoreLaws.{reads_sound_so, reads_state, there_after}
use Rattle.mdcache.proofs.JoinSteps.{family_live}
use Rattle.mdcache.proofs.RegroupReady.{given_up}
use Rattle.mdcache.proofs.SplitSteps.{split_right}
use Rattle.mdcache.proofs.mdcache.MdCache.split_leaf.Goals as goal

pub returns-in-Err-clause-came : goal.returns-in-Err-clause-came
returns-in-Err-clause-came g c = reads_came _ _ c.args.self.now.objects c.args.self.now.caches c.prepare_split.new.self.caches c.in-Err.ensures.reads.caches

pub returns-in-Err-commit_split : goal.returns-in-Err-commit_split
returns-in-Err-commit_split g c =
    let its = given_up c.args.self.now c.prepare_split.new.self c.args.at.now c.args.nb c.in-Ok.ensures.reads c.requires.holds.there c.in-Ok.ensures.distinct c.in-Ok.ensures.ready.kept c.in-Ok.ensures.only c.commit_split.new.self c.in-Err-commit_split.ensures.left in
    let undone = reads_state _ _ c.args.self.now c.commit_split.new.self its.reads in
    let came = reads_came _ _ c.args.self.now.objects c.args.self.now.caches c.commit_split.new.self.caches its.reads.caches in
    let sound = reads_sound_so _ _ c.args.self.now c.commit_split.new.self its.reads c.requires.sound (family_live c.args.self.now c.args.at.now c.args.nb c.requires.known c.requires.can c.commit_split.new.self.caches its.absent) its.none in
    search (rules, undone, came, sound)

pub returns : goal.returns
returns g c =
    let its = split_right c.args.self.now c.prepare_split.new.self c.requires.sound c.args.at.now c.args.nb c.in-Ok.split c.requires.holds c.requires.known c.requires.can c.in-Ok.ensures.reads c.in-Ok.ensures.distinct c.in-Ok.ensures.only c.in-Ok.ensures.ready c.commit_split.new.self c.in_default.ensures.divided c.in_default.ensures.whole c.in_default.ensures.places c.in_default.ensures.split in
    record { split = its.split; tree = its.tree; undone = tt; came = its.came; refused = tt; counted = search rules; sound = its.sound }

pub commit_split-requires-clause-there : goal.commit_split-requires-clause-there
commit_split-requires-clause-there g c = there_after _ _ c.args.self.now c.prepare_split.new.self c.args.at.now.rank.0 c.in-Ok.ensures.reads c.requires.holds.there
