use Rattle.mdcache.proofs.Common.{Cached, Core, IsThat, KeepsNone, NoneEnds, Rewrites, leaf_of, length, none_rewrites, refl, rules, subst, sym, ◌<◌, ◌≤◌}
use Rattle.mdcache.proofs.CoreLaws.{room_step, there_after}
use Rattle.mdcache.proofs.RoomLaws.{has_rooms, other_room}
use Rattle.mdcache.proofs.mdcache.MdCache.ready_names.Goals as goal

pub returns-in_err-reserve : goal.returns-in_err-reserve
returns-in_err-reserve g c =
    let reads = room_step (IsThat c.args.at.now.rank.0 (leaf_of c.args.at.now)) NoneEnds c.args.self.now c.bring.new.self _ c.self.view_is c.bring.ensures.reads c.args.at.now.rank.0 (leaf_of c.args.at.now) (refl, refl) c.reserve.new.self _ other_room c.reserve.ensures.same in
    let none = none_rewrites c.self.inside.caches c.reserve.new.self c.args.at.now.rank.0 (leaf_of c.args.at.now) _ (subst (λ (k : Core). KeepsNone k.caches) (sym c.self.view_is) c.bring.ensures.none) c.reserve.ensures.same in
    record { room = search rules; reads = reads; none = none; refused = search rules; counted = search rules }

pub returns : goal.returns
returns g c =
    let roomy : Rewrites (λ (f now : Cached). c.args.changes ≤ now.room) c.args.at.now.rank.0 (leaf_of c.args.at.now) c.self.inside.caches c.reserve.new.self = search rules in
    let room = has_rooms c.args.changes c.args.at.now.rank.0 (leaf_of c.args.at.now) c.self.inside.caches c.reserve.new.self roomy in
    let reads = room_step (IsThat c.args.at.now.rank.0 (leaf_of c.args.at.now)) NoneEnds c.args.self.now c.bring.new.self _ c.self.view_is c.bring.ensures.reads c.args.at.now.rank.0 (leaf_of c.args.at.now) (refl, refl) c.reserve.new.self _ other_room c.reserve.ensures.same in
    let none = none_rewrites c.self.inside.caches c.reserve.new.self c.args.at.now.rank.0 (leaf_of c.args.at.now) _ (subst (λ (k : Core). KeepsNone k.caches) (sym c.self.view_is) c.bring.ensures.none) c.reserve.ensures.same in
    record { room = room; reads = reads; none = none; refused = tt; counted = search rules }

pub reserve-requires-clause-there : goal.reserve-requires-clause-there
reserve-requires-clause-there g c =
    subst (λ (k : Core). c.args.at.now.rank.0 < length k.caches.used) (sym c.self.view_is) (there_after (IsThat c.args.at.now.rank.0 (leaf_of c.args.at.now)) NoneEnds c.args.self.now c.bring.new.self c.args.at.now.rank.0 c.bring.ensures.reads c.requires.may.there)
