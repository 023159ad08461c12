use Rattle.std.specs.FinMap as map
use Rattle.mds_types.specs.Leaf.{leaf_of as leaf_at}
use Rattle.mdcache.proofs.Common.{Core, ap, here, rules, sym, told_of_commit, ◌∙◌}
use Rattle.mdcache.proofs.BeginSteps.{begins_not, begun_or_not, can_begin}
use Rattle.mdcache.proofs.mdcache.MdCache.begin_unsaved.Goals as goal

pub returns-in-Err : goal.returns-in-Err
returns-in-Err g c =
    let free = ap (λ (k : Core). map.get k.jobs (leaf_at c.args.at.now)) c.self.view_is ∙ c.requires.free in
    let told = c.requires.told ∙ ap (λ (k : Core). told_of_commit (here k.caches c.args.at.now.rank.0 (leaf_at c.args.at.now))) (sym c.self.view_is) in
    let its = begins_not c.args.self.now _ c.self.view_is c.requires.sound c.args.at.now c.requires.holds.alone c.requires.live free c.args.base c.args.generation told c.in-Err.refusal c.in-Err.ensures.err in
    record { begun = its.begun; refused = its.refused; came = its.came; faults = search rules; sound = its.sound }

pub begin_at-requires-clause-begins : goal.begin_at-requires-clause-begins
begin_at-requires-clause-begins g c =
    let free = ap (λ (k : Core). map.get k.jobs (leaf_at c.args.at.now)) c.self.view_is ∙ c.requires.free in
    let told = c.requires.told ∙ ap (λ (k : Core). told_of_commit (here k.caches c.args.at.now.rank.0 (leaf_at c.args.at.now))) (sym c.self.view_is) in
    can_begin c.args.self.now _ c.self.view_is c.requires.sound c.args.at.now c.requires.holds.alone c.requires.live free c.args.base c.args.generation told c.in_default.ensures.ok.2

pub returns : goal.returns
returns g c =
    let free = ap (λ (k : Core). map.get k.jobs (leaf_at c.args.at.now)) c.self.view_is ∙ c.requires.free in
    let told = c.requires.told ∙ ap (λ (k : Core). told_of_commit (here k.caches c.args.at.now.rank.0 (leaf_at c.args.at.now))) (sym c.self.view_is) in
    let e = c.begin_at.ensures in
    let its = begun_or_not c.args.self.now _ c.self.view_is c.requires.sound c.args.at.now c.requires.holds.alone c.requires.live free c.args.base c.args.generation told c.begin_at.new.self.room c.in_default.ensures.ok.0 c.begin_at.new.self c.begin_at.result e.taken e.stands e.valid e.err e.left in
    record { begun = its.begun; refused = its.refused; came = its.came; faults = search rules; sound = its.sound }
