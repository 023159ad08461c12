use Rattle.mdcache.proofs.Common.{Core, IsThat, Leaf, NoneEnds, ap, arith, leaf_of, rules, ℕ, ◌<◌}
use Rattle.mdcache.proofs.CoreLaws.{grown_refused, grown_sound, not_ready, purge_grown, reads_core_on, reads_itself, reads_sound, that_live}
use Rattle.mdcache.proofs.mdcache.MdCache.ready_removal.Goals as goal

pub returns-in-Err-clause-reads : goal.returns-in-Err-clause-reads
returns-in-Err-clause-reads g c = reads_itself (IsThat c.args.at.now.rank.0 (leaf_of c.args.at.now)) NoneEnds c.args.self.now

pub returns-in-Err-ready_list : goal.returns-in-Err-ready_list
returns-in-Err-ready_list g c =
    let room = (λ (Uses Ends : ℕ → Leaf → Type 0). purge_grown Uses Ends c.args.self.now _ c.self.view_is c.ready_list.new.purge.names c.ready_list.new.purge.room c.ready_list.ensures.same c.ready_list.ensures.grows) in
    let reads = room (IsThat c.args.at.now.rank.0 (leaf_of c.args.at.now)) NoneEnds in
    let sound = grown_sound c.args.self.now _ room c.requires.sound (ap (λ (k : Core). k.caches) c.self.view_is) in
    record { ready = tt; list = tt; reads = reads; sound = sound; counted = search rules; refused = search rules }

pub returns-in-Ok : goal.returns-in-Ok
returns-in-Ok g c =
    let Uses = IsThat c.args.at.now.rank.0 (leaf_of c.args.at.now) in
    let room = purge_grown Uses NoneEnds c.args.self.now _ c.self.view_is c.ready_list.new.purge.names c.ready_list.new.purge.room c.ready_list.ensures.same c.ready_list.ensures.grows in
    let reads = reads_core_on Uses NoneEnds c.args.self.now _ c.ready_names.new.self room c.ready_names.ensures.reads in
    let sound = reads_sound Uses NoneEnds c.args.self.now c.ready_names.new.self reads c.requires.sound (that_live c.args.self.now c.args.at.now.rank.0 (leaf_of c.args.at.now) c.requires.live) c.ready_names.ensures.none in
    record { ready = search rules; list = search rules; reads = reads; sound = sound; counted = search rules; refused = search rules }

pub returns-in-Err-ready_names : goal.returns-in-Err-ready_names
returns-in-Err-ready_names g c =
    let Uses = IsThat c.args.at.now.rank.0 (leaf_of c.args.at.now) in
    let left : c.args.self.now.next_version < 18446744073709551615 = search rules in
    let room = (λ (Uses Ends : ℕ → Leaf → Type 0). purge_grown Uses Ends c.args.self.now _ c.self.view_is c.ready_list.new.purge.names c.ready_list.new.purge.room c.ready_list.ensures.same c.ready_list.ensures.grows) in
    let reads = reads_core_on Uses NoneEnds c.args.self.now _ c.ready_names.new.self (room Uses NoneEnds) c.ready_names.ensures.reads in
    let sound = reads_sound Uses NoneEnds c.args.self.now c.ready_names.new.self reads c.requires.sound (that_live c.args.self.now c.args.at.now.rank.0 (leaf_of c.args.at.now) c.requires.live) c.ready_names.ensures.none in
    let refused = not_ready _ _ c.args.self.now.faults c.ready_names.new.self.faults c.in-Err-ready_names.refusal (λ lacks. omega (arith, left, lacks))
    (grown_refused c.args.self.now _ room c.requires.sound 1 c.args.at.now.rank.0 c.ready_names.new.self.faults c.in-Err-ready_names.refusal (ap (λ (k : Core). k.faults) c.self.view_is) c.in-Err-ready_names.ensures.refused) in
    record { ready = tt; list = tt; reads = reads; sound = sound; counted = search rules; refused = refused }
