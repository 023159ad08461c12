use Rattle.mdcache.proofs.Common.{Core, IsThat, Leaf, NoneEnds, ap, arith, leaf_of, rules, ℕ, ◌<◌, ◌⊎◌}
use Rattle.mdcache.proofs.CoreLaws.{grown_may, grown_sound, not_found_pair, not_ready, purge_grown, reads_core_on, reads_itself, reads_sound, two_live}
use Rattle.mdcache.proofs.mdcache.MdCache.ready_move.Goals as goal

pub returns-in-Err-clause-reads : goal.returns-in-Err-clause-reads
returns-in-Err-clause-reads g c = reads_itself (λ (r : ℕ) (q : Leaf). IsThat c.args.from.now.at.rank.0 (leaf_of c.args.from.now.at) r q ⊎ IsThat c.args.to.now.at.rank.0 (leaf_of c.args.to.now.at) r q) NoneEnds c.args.self.now

pub returns-in-Err-ready_list : goal.returns-in-Err-ready_list
returns-in-Err-ready_list g c =
    let room = (λ (Uses Ends : ℕ → Leaf → Type 0). purge_grown Uses Ends c.args.self.now _ c.self.view_is c.ready_list.new.purge.names c.ready_list.new.purge.room c.ready_list.ensures.same c.ready_list.ensures.grows) in
    let reads = room (λ (r : ℕ) (q : Leaf). IsThat c.args.from.now.at.rank.0 (leaf_of c.args.from.now.at) r q ⊎ IsThat c.args.to.now.at.rank.0 (leaf_of c.args.to.now.at) r q) NoneEnds in
    let sound = grown_sound c.args.self.now _ room c.requires.sound (ap (λ (k : Core). k.caches) c.self.view_is) in
    record { source = tt; target = tt; number = tt; named = tt; list = tt; reads = reads; sound = sound; counted = search rules; refused = search rules }

pub returns-in_err-name : goal.returns-in_err-name
returns-in_err-name g c =
    let room = (λ (Uses Ends : ℕ → Leaf → Type 0). purge_grown Uses Ends c.args.self.now _ c.self.view_is c.ready_list.new.purge.names c.ready_list.new.purge.room c.ready_list.ensures.same c.ready_list.ensures.grows) in
    let reads = room (λ (r : ℕ) (q : Leaf). IsThat c.args.from.now.at.rank.0 (leaf_of c.args.from.now.at) r q ⊎ IsThat c.args.to.now.at.rank.0 (leaf_of c.args.to.now.at) r q) NoneEnds in
    let sound = grown_sound c.args.self.now _ room c.requires.sound (ap (λ (k : Core). k.caches) c.self.view_is) in
    record { source = search rules; target = search rules; number = search rules; named = search rules; list = search rules; reads = reads; sound = sound; counted = search rules; refused = search rules }

pub ready_pair-requires-clause-from : goal.ready_pair-requires-clause-from
ready_pair-requires-clause-from g c =
    let room = (λ (Uses Ends : ℕ → Leaf → Type 0). purge_grown Uses Ends c.args.self.now _ c.self.view_is c.ready_list.new.purge.names c.ready_list.new.purge.room c.ready_list.ensures.same c.ready_list.ensures.grows) in
    grown_may c.args.self.now _ room c.requires.sound c.args.from.now.at c.requires.from_holds c.requires.from_live

pub ready_pair-requires-clause-to : goal.ready_pair-requires-clause-to
ready_pair-requires-clause-to g c =
    let room = (λ (Uses Ends : ℕ → Leaf → Type 0). purge_grown Uses Ends c.args.self.now _ c.self.view_is c.ready_list.new.purge.names c.ready_list.new.purge.room c.ready_list.ensures.same c.ready_list.ensures.grows) in
    grown_may c.args.self.now _ room c.requires.sound c.args.to.now.at c.requires.to_holds c.requires.to_live

pub returns-in-Ok : goal.returns-in-Ok
returns-in-Ok g c =
    let Uses = (λ (r : ℕ) (q : Leaf). IsThat c.args.from.now.at.rank.0 (leaf_of c.args.from.now.at) r q ⊎ IsThat c.args.to.now.at.rank.0 (leaf_of c.args.to.now.at) r q) in
    let room = (λ (Uses Ends : ℕ → Leaf → Type 0). purge_grown Uses Ends c.args.self.now _ c.self.view_is c.ready_list.new.purge.names c.ready_list.new.purge.room c.ready_list.ensures.same c.ready_list.ensures.grows) in
    let reads = reads_core_on Uses NoneEnds c.args.self.now _ c.ready_pair.new.self (room Uses NoneEnds) c.ready_pair.ensures.reads in
    let live = two_live c.args.self.now c.args.from.now.at.rank.0 c.args.to.now.at.rank.0 (leaf_of c.args.from.now.at) (leaf_of c.args.to.now.at) c.requires.from_live c.requires.to_live in
    let sound = reads_sound Uses NoneEnds c.args.self.now c.ready_pair.new.self reads c.requires.sound live c.ready_pair.ensures.none in
    record { source = search rules; target = search rules; number = search rules; named = search rules; list = search rules; reads = reads; sound = sound; counted = search rules; refused = tt }

pub returns-in-Err-ready_pair : goal.returns-in-Err-ready_pair
returns-in-Err-ready_pair g c =
    let left : c.args.self.now.next_version < 18446744073709551614 = search rules in
    let Uses = (λ (r : ℕ) (q : Leaf). IsThat c.args.from.now.at.rank.0 (leaf_of c.args.from.now.at) r q ⊎ IsThat c.args.to.now.at.rank.0 (leaf_of c.args.to.now.at) r q) in
    let room = (λ (Uses Ends : ℕ → Leaf → Type 0). purge_grown Uses Ends c.args.self.now _ c.self.view_is c.ready_list.new.purge.names c.ready_list.new.purge.room c.ready_list.ensures.same c.ready_list.ensures.grows) in
    let reads = reads_core_on Uses NoneEnds c.args.self.now _ c.ready_pair.new.self (room Uses NoneEnds) c.ready_pair.ensures.reads in
    let live = two_live c.args.self.now c.args.from.now.at.rank.0 c.args.to.now.at.rank.0 (leaf_of c.args.from.now.at) (leaf_of c.args.to.now.at) c.requires.from_live c.requires.to_live in
    let sound = reads_sound Uses NoneEnds c.args.self.now c.ready_pair.new.self reads c.requires.sound live c.ready_pair.ensures.none in
    let refused = not_ready _ _ c.args.self.now.faults c.ready_pair.new.self.faults c.in-Err-ready_pair.refusal (λ lacks. omega (arith, left, lacks))
    (not_found_pair NoneEnds NoneEnds c.args.self.now _ (room NoneEnds NoneEnds) 2 c.args.from.now.at.rank.0 c.args.to.now.at.rank.0 c.ready_pair.new.self.faults c.in-Err-ready_pair.refusal (ap (λ (k : Core). k.faults) c.self.view_is) c.in-Err-ready_pair.ensures.refused) in
    record { source = tt; target = tt; number = tt; named = tt; list = tt; reads = reads; sound = sound; counted = search rules; refused = refused }
