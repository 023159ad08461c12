use Rattle.asking.proofs.Common.{arith, ◌++◌}
use Rattle.asking.proofs.LoopLaws.{found_at, none_at_16, none_more}
use Rattle.asking.proofs.drains.lowest.Goals as goal

pub returns-in-Some : goal.returns-in-Some
returns-in-Some g c = found_at c.args.book.now.core c.cluster.result.now c.cluster.ensures.cluster (record { 0 = c.loop-rank.rank }) c.in-Some.request.now c.in-Some.ensures c.loop-rank.invariant

pub loop-rank-preserved : goal.loop-rank-preserved
loop-rank-preserved g c = none_more c.args.book.now.core c.cluster.result.now c.cluster.ensures.cluster c.loop-rank.rank c.in_default.ensures c.loop-rank.invariant

pub returns : goal.returns
returns g c =
    let known = c.is_sound.ensures in
    none_at_16 known.0 (known.1 ++ c.args.book.now.history) c.args.book.now.core known.2.behind.sound c.loop-rank.rank (omega (arith, c.loop-rank-test.false)) c.loop-rank.invariant
