use Rattle.mdcache.proofs.Common.{Core, HasRoom, IfErr, IsThat, KeepsNone, LacksPlacesIn, Leaf, MayNotFind, None, NoneEnds, Rank, Some, here, inl, inr, leaf_of, length, refl, rules, subst, sym, ℕ, ◌<◌, ◌≡◌, ◌⊎◌}
use Rattle.std.specs.FinMap as map
use Rattle.mdcache.proofs.CoreLaws.{reads_core_wider, still_absent, there_after}
use Rattle.mdcache.proofs.KeepSteps.{keep_refused, keep_so, keep_stays}
use Rattle.mdcache.proofs.NoneLaws.{none_absent}
use Rattle.mdcache.proofs.RoomLaws.{has_room}
use Rattle.mdcache.proofs.mdcache.MdCache.ready_first.Goals as goal

pub returns-in-Err-clause-reads : goal.returns-in-Err-clause-reads
returns-in-Err-clause-reads g c = reads_core_wider _ _ NoneEnds NoneEnds c.args.self.now c.ready_names.new.self (λ r q is. inl is) (λ r q is. is) c.ready_names.ensures.reads

pub returns-in-Err-clause-absent : goal.returns-in-Err-clause-absent
returns-in-Err-clause-absent g c = still_absent _ NoneEnds c.args.self.now c.ready_names.new.self (leaf_of c.args.first.now) c.ready_names.ensures.reads (λ r is. c.requires.apart is.1) c.requires.absent

pub keep-requires : goal.keep-requires
keep-requires g c = record {
  there = subst (λ (k : Core). c.args.first.now.rank.0 < length k.caches.used) (sym c.self.view_is)
      (subst (λ (k : Rank). k.0 < length c.ready_names.new.self.caches.used) (sym c.requires.rank) (there_after _ _ _ _ _ c.ready_names.ensures.reads c.requires.may.there));
  absent = none_absent c.self.inside.caches c.args.first.now.rank.0 (leaf_of c.args.first.now) (subst (λ (k : Core). KeepsNone k.caches) (sym c.self.view_is) c.ready_names.ensures.none)
      (subst (λ (k : Core). map.get k.caches.held (leaf_of c.args.first.now) ≡ None) (sym c.self.view_is) (still_absent _ NoneEnds _ _ (leaf_of c.args.first.now) c.ready_names.ensures.reads (λ r is. c.requires.apart is.1) c.requires.absent));
}

pub returns : goal.returns
returns g c =
    let old = c.args.self.now in
    let mid = c.ready_names.new.self in
    let new = c.keep.new.self in
    let first = leaf_of c.args.first.now in
    let e = c.keep.ensures in
    let same : mid.faults ≡ old.faults = search rules in
    let Uses = λ (r : ℕ) (q : Leaf). IsThat c.args.at.now.rank.0 (leaf_of c.args.at.now) r q ⊎ IsThat c.args.first.now.rank.0 (leaf_of c.args.first.now) r q in
    let reads = reads_core_wider _ Uses NoneEnds NoneEnds old mid (λ r q is. inl is) (λ r q is. is) c.ready_names.ensures.reads in
    let none = c.ready_names.ensures.none in
    let there = subst (λ (k : Rank). k.0 < length mid.caches.used) (sym c.requires.rank) (there_after _ _ _ _ _ c.ready_names.ensures.reads c.requires.may.there) in
    let absent = still_absent _ NoneEnds old mid first c.ready_names.ensures.reads (λ r is. c.requires.apart is.1) c.requires.absent in
    let roomy = has_room (here mid.caches c.args.at.now.rank.0 (leaf_of c.args.at.now)) c.in_default.ensures.room in
    let its = keep_so Uses old mid _ c.self.view_is reads none c.args.first.now.rank first (Some (leaf_of c.args.at.now)) there absent (inr (refl, refl)) (c.args.at.now.rank.0, inl (refl, refl)) c.keep.result new e.valid e.kept e.left in
    let room = keep_stays Uses old mid _ c.self.view_is reads none c.args.first.now.rank first (Some (leaf_of c.args.at.now)) there absent (inr (refl, refl)) (c.args.at.now.rank.0, inl (refl, refl)) c.keep.result new e.valid e.kept e.left HasRoom (leaf_of c.args.at.now) c.args.at.now.rank.0 refl roomy in
    let refused = subst (λ (k : Rank). IfErr c.keep.result (MayNotFind (LacksPlacesIn 2 old.caches k.0) old.faults (g.S.Store.faults c.self.inside.store))) c.requires.rank
    (keep_refused Uses old mid _ c.self.view_is reads none c.args.first.now.rank first (Some (leaf_of c.args.at.now)) there absent (inr (refl, refl)) (c.args.at.now.rank.0, inl (refl, refl)) c.keep.result new e.valid e.kept e.left e.refused same) in
    search (rules, its, room, refused)
