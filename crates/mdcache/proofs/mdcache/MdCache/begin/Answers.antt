use Rattle.std.specs.FinMap as map
use Rattle.mds_types.specs.Leaf.{leaf_of as leaf_at}
use Rattle.mdcache.proofs.Common.{Core, ap, here, rules, stays, sym, told_of_commit, ◌∙◌}
use Rattle.mdcache.proofs.BeginSteps.{begins_none, none_found}
use Rattle.mdcache.proofs.mdcache.MdCache.begin.Goals as goal

pub returns-then-is_some-clause-came : goal.returns-then-is_some-clause-came
returns-then-is_some-clause-came g c = stays

pub returns-in_default : goal.returns-in_default
returns-in_default g c =
    let its = begins_none c.args.self.now _ c.self.view_is c.requires.sound c.args.at.now c.requires.holds.alone c.requires.live (none_found c.get.result _ c.is_some.result c.get.ensures c.is_some.ensures c.if-is_some.false) (sym c.in_default.is ∙ c.unsaved.ensures) in
    record { begun = its.begun; came = its.came; faults = search rules; sound = its.sound }

pub begin_unsaved-requires-clause-free : goal.begin_unsaved-requires-clause-free
begin_unsaved-requires-clause-free g c =
    ap (λ (k : Core). map.get k.jobs (leaf_at c.args.at.now)) (sym c.self.view_is) ∙ none_found c.get.result _ c.is_some.result c.get.ensures c.is_some.ensures c.if-is_some.false

pub begin_unsaved-requires-clause-told : goal.begin_unsaved-requires-clause-told
begin_unsaved-requires-clause-told g c =
    sym c.in-Some.is ∙ c.unsaved.ensures ∙ ap (λ (k : Core). told_of_commit (here k.caches c.args.at.now.rank.0 (leaf_at c.args.at.now))) c.self.view_is
