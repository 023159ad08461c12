use Rattle.mdcache.proofs.Common.{IsThat, NoneEnds, arith, leaf_of, rules, ◌<◌}
use Rattle.mdcache.proofs.CoreLaws.{if_err, not_ready, read_sound, reads_itself, that_live}
use Rattle.mdcache.proofs.mdcache.MdCache.ready_name.Goals as goal

pub returns-in-Err-clause-reads : goal.returns-in-Err-clause-reads
returns-in-Err-clause-reads g c = reads_itself (IsThat c.args.at.now.rank.0 (leaf_of c.args.at.now)) NoneEnds c.args.self.now

pub returns-clause-sound : goal.returns-clause-sound
returns-clause-sound g c =
    read_sound (IsThat c.args.at.now.rank.0 (leaf_of c.args.at.now)) c.args.self.now c.ready_names.new.self c.ready_names.ensures.reads c.requires.sound c.ready_names.ensures.none
    (that_live c.args.self.now c.args.at.now.rank.0 (leaf_of c.args.at.now) c.requires.live)

pub returns-clause-refused : goal.returns-clause-refused
returns-clause-refused g c =
    let left : c.args.self.now.next_version < 18446744073709551615 = search rules in
    if_err _ _ c.ready_names.result (λ reason is. not_ready _ _ c.args.self.now.faults c.ready_names.new.self.faults reason (λ lacks. omega (arith, left, lacks)) is) c.ready_names.ensures.refused
