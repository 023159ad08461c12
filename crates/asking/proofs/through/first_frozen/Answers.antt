use Rattle.asking.proofs.Common.{Core, ap, arith, subst, whole_of, ◌∙◌}
use Rattle.export_steps.specs.Standing.{Standing}
use Rattle.asking.specs.Ending.{NoneFreezingOf}
use Rattle.asking.proofs.ThroughLaws.{none_at_all, none_more}
use Rattle.asking.proofs.through.first_frozen.Goals as goal

pub loop-rank-preserved : goal.loop-rank-preserved
loop-rank-preserved g c =
    none_more c.args.book.now.core.state.exports c.loop-rank.rank c.loop-rank.invariant
    (subst (λ (m : Standing). NoneFreezingOf m (record { 0 = c.loop-rank.rank })) (c.exports.ensures ∙ ap (λ (k : Core). k.state.exports) c.cluster.ensures.cluster) c.in_default.ensures)

pub returns : goal.returns
returns g c =
    let known = c.is_sound.ensures in
    none_at_all (whole_of known.0 known.1 c.args.book.now) known.2.behind.sound c.loop-rank.rank (omega (arith, c.loop-rank-test.false)) c.loop-rank.invariant
