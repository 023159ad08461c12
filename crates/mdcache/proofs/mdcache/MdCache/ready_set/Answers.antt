use Rattle.mdcache.proofs.Common.{Cached, Core, HasCached, IfSome, IsRecordable, IsThat, List, Names, NoneEnds, State, here, leaf_of, length, names_of, shown_names, subst, sym, ℕ, ◌<◌}
use Rattle.std.specs.FinMap as map
use Rattle.mdcache.proofs.CoreLaws.{of_names, reads_state, there_after}
use Rattle.mdcache.proofs.mdcache.MdCache.ready_set.Goals as goal

pub returns-clause-recorded : goal.returns-clause-recorded
returns-clause-recorded g c =
    subst (λ (s : State). IfSome (map.get (names_of s.unsaved s.objects (leaf_of c.args.spot.now.at)) c.args.spot.now.name) IsRecordable) (reads_state (IsThat c.args.spot.now.at.rank.0 (leaf_of c.args.spot.now.at)) NoneEnds c.args.self.now c.ready_name.new.self c.ready_name.ensures.reads)
    (of_names c.ready_name.new.self c.ready_name.ensures.sound (λ (names : Names). (name : List ℕ) → IfSome (map.get names name) IsRecordable) c.args.spot.now.at.rank.0 (leaf_of c.args.spot.now.at)
    (subst (λ (k : Core). HasCached (here k.caches c.args.spot.now.at.rank.0 (leaf_of c.args.spot.now.at)) (λ (f : Cached). (name : List ℕ) → IfSome (map.get (shown_names f) name) IsRecordable)) c.self.view_is c.has_records.ensures) c.args.spot.now.name)

pub has_records-requires-clause-there : goal.has_records-requires-clause-there
has_records-requires-clause-there g c =
    subst (λ (k : Core). c.args.spot.now.at.rank.0 < length k.caches.used) (sym c.self.view_is) (there_after (IsThat c.args.spot.now.at.rank.0 (leaf_of c.args.spot.now.at)) NoneEnds c.args.self.now c.ready_name.new.self c.args.spot.now.at.rank.0 c.ready_name.ensures.reads c.requires.holds.there)
