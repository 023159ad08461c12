use Rattle.mdcache.proofs.Common.{Core, HaveNoPlace, rules, subst, sym}
use Rattle.mdcache.proofs.GivenLaws.{called, no_places}
use Rattle.mdcache.proofs.mdcache.MdCache.hand_over.Goals as goal

pub hand_over-requires-clause-absent : goal.hand_over-requires-clause-absent
hand_over-requires-clause-absent g c =
    let r = c.requires in
    subst (λ (k : Core). HaveNoPlace k.caches c.args.to.0 c.args.unclean.now) (sym c.self.view_is) (no_places c.args.self.now r.sound c.args.from.0 c.args.to.0 r.apart r.there r.other c.args.unclean.now c.args.clean.now r.cached)

pub returns : goal.returns
returns g c =
    let r = c.requires in
    let e = c.hand_over.ensures in
    let its = called c.args.self.now _ c.self.view_is r.sound c.args.from.0 c.args.to.0 r.apart r.there r.other c.args.unclean.now c.args.clean.now r.cached r.saved r.jobless c.hand_over.new.self e.valid c.hand_over.result e.handed e.refused e.unsaved e.left in
    record { handed = its.handed; given = its.given; shown = its.shown; refused = search rules; left = its.left; beside = its.beside; count = its.count; cap = its.cap; sound = its.sound }
