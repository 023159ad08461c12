use Rattle.mdcache.proofs.Common.{on_err_weaker, refl, rules}
use Rattle.mdcache.proofs.CoreLaws.{if_err, ok_so}
use Rattle.mdcache.proofs.RegroupReady.{children, children_free, children_refused, fetched}
use Rattle.mdcache.proofs.mdcache.MdCache.ready_children.Goals as goal

pub returns-in-Err : goal.returns-in-Err
returns-in-Err g c = search (rules, fetched c.args.self.now c.bring.new.self c.bring.new.self refl c.args.at.now c.args.nb c.requires.some c.bring.ensures.reads c.bring.ensures.none c.requires.may.there c.requires.absent c.bring.ensures.valid c.requires.none)

pub ready_split-requires : goal.ready_split-requires
ready_split-requires g c = search (rules, children_free c.args.self.now c.bring.new.self _ c.self.view_is c.args.at.now c.args.nb c.requires.some c.bring.ensures.reads c.bring.ensures.none c.requires.may.there c.requires.absent c.bring.ensures.valid c.requires.none)

pub returns : goal.returns
returns g c =
    let its = children c.args.self.now c.bring.new.self _ c.self.view_is c.args.at.now c.args.nb c.requires.some c.bring.ensures.reads c.bring.ensures.none c.requires.may.there c.requires.absent c.bring.ensures.valid c.requires.none
    c.ready_split.new.self c.ready_split.ensures.reads c.ready_split.ensures.stays in
    let refused = if_err _ _ c.ready_split.result
    (children_refused c.args.self.now c.bring.new.self _ c.self.view_is c.args.at.now c.args.nb c.requires.some c.bring.ensures.reads c.bring.ensures.none
    c.requires.may.there c.requires.absent c.bring.ensures.valid c.requires.none (search rules)) c.ready_split.ensures.refused in
    let only = ok_so c.ready_split.result its.2 in
    let none = on_err_weaker c.ready_split.result its.3 c.ready_split.ensures.left in
    record { ready = search rules; numbered = search rules; kept = search rules; only = only; none = none; reads = its.0; absent = search rules; distinct = its.1; refused = refused; counted = search rules }
