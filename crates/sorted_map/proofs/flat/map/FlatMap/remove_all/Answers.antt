use Rattle.sorted_map.proofs.Common.{contents, filter_same, not, rules}
use Rattle.std.specs.FinMap as map
use Rattle.sorted_map.proofs.OverlayLaws.{taken_out}
use Rattle.sorted_map.proofs.flat.map.FlatMap.remove_all.Goals as goal

pub invariant_of-self : goal.invariant_of-self
invariant_of-self g c =
    let gone = contents g.K.Ord.cmp c.args.keys.now in
    (taken_out g.met.K.Ord.total g.met.K.ExactOrd.exact gone _ _ c.self.invariant (filter_same _ (λ e. not (map.contains_key gone e.0)) _ (λ x b f called. search rules) _ _ c.retain.ensures.filtered)).0

pub returns : goal.returns
returns g c =
    let gone = contents g.K.Ord.cmp c.args.keys.now in
    record { kept = rw (← c.self.view_is) (taken_out g.met.K.Ord.total g.met.K.ExactOrd.exact gone _ _ c.self.invariant (filter_same _ (λ e. not (map.contains_key gone e.0)) _ (λ x b f called. search rules) _ _ c.retain.ensures.filtered)).1 }
