use Rattle.mdcache.proofs.Common.{Core, IsThat, Leaf, NoneEnds, DirTable, ap, arith, first_leaf, leaf_of, rules, ℕ, ⊎_elim, ◌<◌, ◌⊎◌}
use Rattle.mdcache.proofs.CoreLaws.{dirs_grown, grown_refused, grown_sound, grows_by, not_ready, on_err_so, reads_cached_so, reads_core_on, reads_itself, reads_sound_so, still_absent}
use Rattle.mdcache.proofs.PrepareLaws.{first_live_so, first_nowhere}
use Rattle.mdcache.proofs.mdcache.MdCache.ready_directory.Goals as goal

pub returns-in-Err-clause-reads : goal.returns-in-Err-clause-reads
returns-in-Err-clause-reads g c = reads_itself (λ (r : ℕ) (q : Leaf). IsThat c.args.spot.now.at.rank.0 (leaf_of c.args.spot.now.at) r q ⊎ IsThat c.args.spot.now.at.rank.0 (first_leaf c.args.dir) r q) NoneEnds c.args.self.now

pub returns-in-Err-check_left-clause-reads : goal.returns-in-Err-check_left-clause-reads
returns-in-Err-check_left-clause-reads g c = reads_itself (λ (r : ℕ) (q : Leaf). IsThat c.args.spot.now.at.rank.0 (leaf_of c.args.spot.now.at) r q ⊎ IsThat c.args.spot.now.at.rank.0 (first_leaf c.args.dir) r q) NoneEnds c.args.self.now

pub returns-in-Err-reserve : goal.returns-in-Err-reserve
returns-in-Err-reserve g c =
    let room = (λ (Uses Ends : ℕ → Leaf → Type 0). dirs_grown Uses Ends c.args.self.now _ c.self.view_is c.reserve.new.self.homes c.reserve.new.self.trees c.reserve.new.self.counts c.reserve.new.self.pins c.reserve.new.self.room c.reserve.ensures.homes c.reserve.ensures.trees c.reserve.ensures.counts c.reserve.ensures.pins (grows_by c.self.inside.dirs.room c.reserve.new.self.room (λ some. ap (λ (d : DirTable). d.room) (c.reserve.ensures.ready some).1))) in
    let reads = room (λ (r : ℕ) (q : Leaf). IsThat c.args.spot.now.at.rank.0 (leaf_of c.args.spot.now.at) r q ⊎ IsThat c.args.spot.now.at.rank.0 (first_leaf c.args.dir) r q) NoneEnds in
    let sound = grown_sound c.args.self.now _ room c.requires.sound (ap (λ (k : Core). k.caches) c.self.view_is) in
    record { ready = tt; place = tt; named = tt; only = tt; cached = tt; reads = reads; sound = sound; counted = search rules; refused = search rules }

pub returns-in_err-name : goal.returns-in_err-name
returns-in_err-name g c =
    let room = (λ (Uses Ends : ℕ → Leaf → Type 0). dirs_grown Uses Ends c.args.self.now _ c.self.view_is c.reserve.new.self.homes c.reserve.new.self.trees c.reserve.new.self.counts c.reserve.new.self.pins c.reserve.new.self.room c.reserve.ensures.homes c.reserve.ensures.trees c.reserve.ensures.counts c.reserve.ensures.pins (grows_by c.self.inside.dirs.room c.reserve.new.self.room (λ some. ap (λ (d : DirTable). d.room) (c.reserve.ensures.ready some).1))) in
    let reads = room (λ (r : ℕ) (q : Leaf). IsThat c.args.spot.now.at.rank.0 (leaf_of c.args.spot.now.at) r q ⊎ IsThat c.args.spot.now.at.rank.0 (first_leaf c.args.dir) r q) NoneEnds in
    let sound = on_err_so c.from_residual.result (grown_sound c.args.self.now _ room c.requires.sound (ap (λ (k : Core). k.caches) c.self.view_is)) in
    record { ready = search rules; place = search rules; named = search rules; only = search rules; cached = search rules; reads = reads; sound = sound; counted = search rules; refused = search rules }

pub ready_first-requires-clause-absent : goal.ready_first-requires-clause-absent
ready_first-requires-clause-absent g c =
    let room = (λ (Uses Ends : ℕ → Leaf → Type 0). dirs_grown Uses Ends c.args.self.now _ c.self.view_is c.reserve.new.self.homes c.reserve.new.self.trees c.reserve.new.self.counts c.reserve.new.self.pins c.reserve.new.self.room c.reserve.ensures.homes c.reserve.ensures.trees c.reserve.ensures.counts c.reserve.ensures.pins (grows_by c.self.inside.dirs.room c.reserve.new.self.room (λ some. ap (λ (d : DirTable). d.room) (c.reserve.ensures.ready some).1))) in
    still_absent NoneEnds NoneEnds c.args.self.now _ (first_leaf c.args.dir) (room NoneEnds NoneEnds) (λ r no_use. no_use) (first_nowhere c.args.self.now c.requires.sound c.args.dir c.requires.unused)

pub returns-in-Ok : goal.returns-in-Ok
returns-in-Ok g c =
    let Uses = (λ (r : ℕ) (q : Leaf). IsThat c.args.spot.now.at.rank.0 (leaf_of c.args.spot.now.at) r q ⊎ IsThat c.args.spot.now.at.rank.0 (first_leaf c.args.dir) r q) in
    let room = (λ (Uses Ends : ℕ → Leaf → Type 0). dirs_grown Uses Ends c.args.self.now _ c.self.view_is c.reserve.new.self.homes c.reserve.new.self.trees c.reserve.new.self.counts c.reserve.new.self.pins c.reserve.new.self.room c.reserve.ensures.homes c.reserve.ensures.trees c.reserve.ensures.counts c.reserve.ensures.pins (grows_by c.self.inside.dirs.room c.reserve.new.self.room (λ some. ap (λ (d : DirTable). d.room) (c.reserve.ensures.ready some).1))) in
    let reads = reads_core_on Uses NoneEnds c.args.self.now _ c.ready_first.new.self (room Uses NoneEnds) c.ready_first.ensures.reads in
    let live = first_live_so c.args.self.now c.args.spot.now.at.rank.0 (leaf_of c.args.spot.now.at) (first_leaf c.args.dir) c.ready_first.new.self.caches c.requires.live c.ready_first.ensures.absent in
    let cached = reads_cached_so Uses NoneEnds c.args.self.now c.ready_first.new.self reads c.requires.sound live in
    record {
      ready = search rules;
      place = record {
        place = c.in-Ok.ensures.place;
        home = search rules;
        generation = search rules;
      };
      named = c.in_ok-name.ensures;
      only = search rules;
      cached = cached;
      reads = reads;
      sound = tt;
      counted = search rules;
      refused = tt;
    }

pub returns-in-Err-ready_first : goal.returns-in-Err-ready_first
returns-in-Err-ready_first g c =
    let version : c.args.self.now.next_version < 18446744073709551615 = search rules in
    let generation : c.args.self.now.next_generation < 18446744073709551615 = search rules in
    let Uses = (λ (r : ℕ) (q : Leaf). IsThat c.args.spot.now.at.rank.0 (leaf_of c.args.spot.now.at) r q ⊎ IsThat c.args.spot.now.at.rank.0 (first_leaf c.args.dir) r q) in
    let room = (λ (Uses Ends : ℕ → Leaf → Type 0). dirs_grown Uses Ends c.args.self.now _ c.self.view_is c.reserve.new.self.homes c.reserve.new.self.trees c.reserve.new.self.counts c.reserve.new.self.pins c.reserve.new.self.room c.reserve.ensures.homes c.reserve.ensures.trees c.reserve.ensures.counts c.reserve.ensures.pins (grows_by c.self.inside.dirs.room c.reserve.new.self.room (λ some. ap (λ (d : DirTable). d.room) (c.reserve.ensures.ready some).1))) in
    let reads = reads_core_on Uses NoneEnds c.args.self.now _ c.ready_first.new.self (room Uses NoneEnds) c.ready_first.ensures.reads in
    let live = first_live_so c.args.self.now c.args.spot.now.at.rank.0 (leaf_of c.args.spot.now.at) (first_leaf c.args.dir) c.ready_first.new.self.caches c.requires.live c.ready_first.ensures.absent in
    let sound = reads_sound_so Uses NoneEnds c.args.self.now c.ready_first.new.self reads c.requires.sound live c.in-Err-ready_first.ensures.none in
    let refused = not_ready _ _ c.args.self.now.faults c.ready_first.new.self.faults c.in-Err-ready_first.refusal (⊎_elim (λ lacks. omega (arith, version, lacks)) (λ lacks. omega (arith, generation, lacks)))
    (grown_refused c.args.self.now _ room c.requires.sound 2 c.args.spot.now.at.rank.0 c.ready_first.new.self.faults c.in-Err-ready_first.refusal (ap (λ (k : Core). k.faults) c.self.view_is) c.in-Err-ready_first.ensures.refused) in
    record { ready = tt; place = tt; named = tt; only = tt; cached = tt; reads = reads; sound = sound; counted = search rules; refused = refused }
