use Rattle.mdcache.proofs.Common.{IsThat, hash_of}
use Rattle.mdcache.proofs.CoreLaws.{read_found, may_fetch, read_sound, if_ok, pick_live, that_live}
use Rattle.mdcache.proofs.mdcache.MdCache.look.Goals as goal

pub returns : goal.returns
returns g c =
    let at = c.args.at.now in
    let old = c.args.self.now in
    let e = c.find.ensures in
    let live = that_live old at.rank.0 (at.dir, at.frag) (pick_live old c.requires.sound at.dir (hash_of c.args.name.now) at.frag c.requires.known c.requires.leaf) in
    let found = if_ok _ _ c.find.result (λ found has. read_found (IsThat at.rank.0 (at.dir, at.frag)) old c.find.new.self e.reads c.requires.sound e.none live at.rank.0 (record { dir = at.dir; name = c.args.name.now }) at.frag found c.requires.known c.requires.leaf has) e.found in
    let sound = read_sound (IsThat at.rank.0 (at.dir, at.frag)) old c.find.new.self e.reads c.requires.sound e.none live in
    record { found = found; newest = e.newest; reads = e.reads; sound = sound; counted = e.counted; refused = e.refused }

pub find-requires-clause-may : goal.find-requires-clause-may
find-requires-clause-may g c =
    may_fetch c.args.self.now c.requires.sound _ c.requires.holds
    (pick_live c.args.self.now c.requires.sound c.args.at.now.dir (hash_of c.args.name.now) c.args.at.now.frag c.requires.known c.requires.leaf)
