use Rattle.mdcache.proofs.Common.{Core, NoneEnds, ap, child_of, rules, state_of, ◌+◌, ◌^◌}
use Rattle.mdcache.proofs.CoreLaws.{grown_refused, grown_sound, reads_core_on, reads_sound_so, reads_state, still_absent}
use Rattle.mdcache.proofs.JoinSteps.{family_live}
use Rattle.mdcache.proofs.RegroupReady.{room_reads}
use Rattle.mdcache.proofs.SplitSteps.{no_child_cached}
use Rattle.mdcache.proofs.mdcache.MdCache.prepare_split.Goals as goal

pub returns-in-Err : goal.returns-in-Err
returns-in-Err g c =
    let room = room_reads c.args.self.now c.plan_split.new.self c.plan_split.ensures.left c.plan_split.ensures.room in
    let sound = grown_sound c.args.self.now c.plan_split.new.self room c.requires.sound (ap (λ (k : Core). k.caches) c.plan_split.ensures.left) in
    record { ready = tt; only = tt; distinct = tt; reads = room _ _; sound = sound; undone = ap state_of c.plan_split.ensures.left; refused = search rules; counted = search rules }

pub ready_children-requires-clause-absent : goal.ready_children-requires-clause-absent
ready_children-requires-clause-absent g c = λ i below.
    still_absent NoneEnds NoneEnds c.args.self.now c.plan_split.new.self (c.args.at.now.dir, child_of c.args.at.now.frag i c.args.nb) (room_reads c.args.self.now c.plan_split.new.self c.plan_split.ensures.left c.plan_split.ensures.room _ _)
    (λ r no_use. no_use) (no_child_cached c.args.self.now c.requires.sound c.args.at.now.dir c.args.at.now.frag c.args.nb c.requires.can i below)

pub returns-in-Ok-ready_children-clause-reads : goal.returns-in-Ok-ready_children-clause-reads
returns-in-Ok-ready_children-clause-reads g c =
    reads_core_on _ _ c.args.self.now c.plan_split.new.self c.ready_children.new.self (room_reads c.args.self.now c.plan_split.new.self c.plan_split.ensures.left c.plan_split.ensures.room _ _) c.ready_children.ensures.reads

pub returns-in-Err-ready_children : goal.returns-in-Err-ready_children
returns-in-Err-ready_children g c =
    let room = room_reads c.args.self.now c.plan_split.new.self c.plan_split.ensures.left c.plan_split.ensures.room in
    let reads = reads_core_on _ _ c.args.self.now c.plan_split.new.self c.ready_children.new.self (room _ _) c.ready_children.ensures.reads in
    let sound = reads_sound_so _ _ c.args.self.now c.ready_children.new.self reads c.requires.sound (family_live c.args.self.now c.args.at.now c.args.nb c.requires.known c.requires.can c.ready_children.new.self.caches c.in-Err-ready_children.ensures.absent) c.in-Err-ready_children.ensures.none in
    let undone = reads_state _ _ c.args.self.now c.ready_children.new.self reads in
    let refused = grown_refused c.args.self.now c.plan_split.new.self room c.requires.sound (2 ^ c.args.nb + 1) c.args.at.now.rank.0 c.ready_children.new.self.faults c.in-Err-ready_children.refusal (ap (λ (k : Core). k.faults) c.plan_split.ensures.left) c.in-Err-ready_children.ensures.refused in
    search (rules, reads, sound, undone, refused)
