use Rattle.mdcache.proofs.Common.{Cached, Core, HasCached, IsThat, KeepsNone, Leaf, NoneEnds, Rewrites, here, inr, leaf_of, length, none_rewrites, refl, rules, subst, sym, ℕ, ◌<◌, ◌≤◌, ◌⊎◌}
use Rattle.mdcache.proofs.CoreLaws.{room_step, there_after}
use Rattle.mdcache.proofs.RoomLaws.{has_room, has_rooms, other_room, stays_roomy}
use Rattle.mdcache.proofs.mdcache.MdCache.ready_beside.Goals as goal

pub returns-in_err-reserve : goal.returns-in_err-reserve
returns-in_err-reserve g c =
    let reads = room_step (λ (r : ℕ) (q : Leaf). IsThat c.args.first.now.rank.0 (leaf_of c.args.first.now) r q ⊎ IsThat c.args.at.now.rank.0 (leaf_of c.args.at.now) r q) NoneEnds c.args.self.now c.bring_beside.new.self _ c.self.view_is c.bring_beside.ensures.reads c.args.at.now.rank.0 (leaf_of c.args.at.now) (inr (refl, refl)) c.reserve.new.self _ other_room c.reserve.ensures.same in
    let none = none_rewrites c.self.inside.caches c.reserve.new.self c.args.at.now.rank.0 (leaf_of c.args.at.now) _ (subst (λ (k : Core). KeepsNone k.caches) (sym c.self.view_is) c.bring_beside.ensures.none) c.reserve.ensures.same in
    record { room = search rules; stays = search rules; reads = reads; none = none; refused = search rules; counted = search rules }

pub returns : goal.returns
returns g c =
    let roomy : Rewrites (λ (f now : Cached). 1 ≤ now.room) c.args.at.now.rank.0 (leaf_of c.args.at.now) c.self.inside.caches c.reserve.new.self = search rules in
    let room = has_room (here c.reserve.new.self c.args.at.now.rank.0 (leaf_of c.args.at.now)) (has_rooms 1 c.args.at.now.rank.0 (leaf_of c.args.at.now) c.self.inside.caches c.reserve.new.self roomy) in
    let stays = stays_roomy c.args.at.now.rank.0 c.args.first.now.rank.0 (leaf_of c.args.at.now) (leaf_of c.args.first.now) c.self.inside.caches c.reserve.new.self c.reserve.ensures.same
    (subst (λ (k : Core). HasCached (here k.caches c.args.first.now.rank.0 (leaf_of c.args.first.now)) (λ (f : Cached). 1 < f.room)) (sym c.self.view_is)
    (subst (λ o. HasCached o (λ (f : Cached). 1 < f.room)) (sym c.bring_beside.ensures.stays) c.requires.first)) in
    let reads = room_step (λ (r : ℕ) (q : Leaf). IsThat c.args.first.now.rank.0 (leaf_of c.args.first.now) r q ⊎ IsThat c.args.at.now.rank.0 (leaf_of c.args.at.now) r q) NoneEnds c.args.self.now c.bring_beside.new.self _ c.self.view_is c.bring_beside.ensures.reads c.args.at.now.rank.0 (leaf_of c.args.at.now) (inr (refl, refl)) c.reserve.new.self _ other_room c.reserve.ensures.same in
    let none = none_rewrites c.self.inside.caches c.reserve.new.self c.args.at.now.rank.0 (leaf_of c.args.at.now) _ (subst (λ (k : Core). KeepsNone k.caches) (sym c.self.view_is) c.bring_beside.ensures.none) c.reserve.ensures.same in
    record { room = room; stays = stays; reads = reads; none = none; refused = tt; counted = search rules }

pub reserve-requires-clause-there : goal.reserve-requires-clause-there
reserve-requires-clause-there g c =
    subst (λ (k : Core). c.args.at.now.rank.0 < length k.caches.used) (sym c.self.view_is) (there_after (λ (r : ℕ) (q : Leaf). IsThat c.args.first.now.rank.0 (leaf_of c.args.first.now) r q ⊎ IsThat c.args.at.now.rank.0 (leaf_of c.args.at.now) r q) NoneEnds c.args.self.now c.bring_beside.new.self c.args.at.now.rank.0 c.bring_beside.ensures.reads c.requires.may.there)
