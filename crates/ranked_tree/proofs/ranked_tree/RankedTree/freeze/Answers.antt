use Rattle.ranked_tree.proofs.Common.{KeepsAuthorities, Ranked, state_of, subst, sym}
use Rattle.ranked_tree.proofs.StepLaws.{MayFreeze, freeze_authorities, freeze_divided, freeze_holders}
use Rattle.ranked_tree.proofs.ranked_tree.RankedTree.freeze.Goals as goal

pub invariant_of-self-2 : goal.invariant_of-self-2
invariant_of-self-2 g c =
    freeze_divided c.self.inside.tree c.end_region.new.tree c.self.inside.regions (record { roots = c.freeze.new.subtrees; exports = c.freeze.new.self }) (c.args.dir, c.args.frag) c.self.invariant
    (subst (λ (r : Ranked). MayFreeze r (c.args.dir, c.args.frag)) (sym c.self.view_is) (record { live = c.requires.live; thawed = c.requires.thawed; mine = c.requires.mine })) c.in_ok-freeze.ensures.outcome c.end_region.ensures.ended
    c.end_region.ensures.caches c.end_region.ensures.sound (c.in_ok-freeze.ensures.placed c.self.invariant.stand.placed)

pub returns-clause-authorities : goal.returns-clause-authorities
returns-clause-authorities g c = subst (λ (r : Ranked). KeepsAuthorities (state_of r.tree) (state_of c.end_region.new.tree) r.subtrees.roots c.freeze.new.subtrees.roots) c.self.view_is
    (freeze_authorities c.self.inside.tree c.end_region.new.tree c.self.inside.regions (record { roots = c.freeze.new.subtrees; exports = c.freeze.new.self }) (c.args.dir, c.args.frag) c.self.invariant
    (subst (λ (r : Ranked). MayFreeze r (c.args.dir, c.args.frag)) (sym c.self.view_is) (record { live = c.requires.live; thawed = c.requires.thawed; mine = c.requires.mine })) c.in_ok-freeze.ensures.outcome c.end_region.ensures.ended)

pub returns-clause-holders : goal.returns-clause-holders
returns-clause-holders g c leaf rank stood stands = rw (← c.self.view_is) (freeze_holders c.self.inside.tree c.end_region.new.tree c.self.inside.regions (record { roots = c.freeze.new.subtrees; exports = c.freeze.new.self }) _ c.self.invariant
    (subst (λ (r : Ranked). MayFreeze r (c.args.dir, c.args.frag)) (sym c.self.view_is) (record { live = c.requires.live; thawed = c.requires.thawed; mine = c.requires.mine })) c.in_ok-freeze.ensures.outcome c.end_region.ensures.ended leaf rank)

pub returns-clause-valid : goal.returns-clause-valid
returns-clause-valid g c = (invariant_of-self-2 g c).stand.valid
