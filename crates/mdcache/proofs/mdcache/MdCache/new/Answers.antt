use Rattle.mdcache.proofs.Common.{Listed, JobTable, ap, refl}
use Rattle.mdcache.proofs.NewLaws.{new_core}
use Rattle.mdcache.proofs.mdcache.MdCache.new.Goals as goal

pub returns-in-Ok : goal.returns-in-Ok
returns-in-Ok g c =
    let e = c.new.ensures in
    let its = new_core c.args.ranks c.args.places _ e.homes e.trees e.counts e.pins c.in-Ok.ensures.ok c.requires.empty (ap (λ (s : JobTable). s.jobs) c.new-in-Ok.ensures) (ap (λ (l : Listed). l.names) c.new-in-Ok-2.ensures) refl refl refl in
    record { state = its.0; caches = c.in-Ok.ensures.ok; sound = its.1; left = tt; faults = refl }
