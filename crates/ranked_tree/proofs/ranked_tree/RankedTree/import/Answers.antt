use Rattle.ranked_tree.proofs.Common.{inr, refl}
use Rattle.ranked_tree.proofs.ImportLaws.{imported_divided, imported_others, imports}
use Rattle.ranked_tree.proofs.ranked_tree.RankedTree.import.Goals as goal

pub returns-in-Err-clause-refused : goal.returns-in-Err-clause-refused
returns-in-Err-clause-refused g c = rw (← c.self.view_is) (inr (c.in-Some.export, c.in-Some.ensures.export.0, c.in-Some.ensures.export.1, c.in-Err.ensures.refused))

pub returns-in-Err-clause-caches : goal.returns-in-Err-clause-caches
returns-in-Err-clause-caches g c = rw (← c.self.view_is) (inr (c.in-Some.export, c.in-Some.ensures.export.0, c.in-Err.ensures.caches))

pub invariant_of-self-2 : goal.invariant_of-self-2
invariant_of-self-2 g c =
    imported_divided c.self.inside.tree c.take_region.new.tree c.self.inside.regions c.import.new.self (c.args.dir, c.args.frag) c.in-Some.export c.self.invariant c.in-Some.ensures.export.0 c.import.ensures.outcome c.args.bytes.now c.in_default-take_region.ensures.taken c.take_region.ensures.sound c.take_region.ensures.count (c.import.ensures.placed c.self.inside.regions.roots c.self.invariant.stand.placed)

pub returns-clause-imported : goal.returns-clause-imported
returns-clause-imported g c =
    rw (← c.self.view_is) (imports c.self.inside.tree c.take_region.new.tree c.self.inside.regions c.import.new.self (c.args.dir, c.args.frag) c.in-Some.export c.self.invariant c.in-Some.ensures.export.0 c.import.ensures.outcome c.args.bytes.now c.in_default-take_region.ensures.taken c.self.inside.regions.roots refl)

pub returns-clause-others : goal.returns-clause-others
returns-clause-others g c = rw (← c.self.view_is) (imported_others c.self.inside.tree c.take_region.new.tree c.self.inside.regions c.import.new.self (c.args.dir, c.args.frag) c.in-Some.export c.self.invariant c.in-Some.ensures.export.0 c.import.ensures.outcome c.args.bytes.now c.in_default-take_region.ensures.taken)
