-- One rank more.
use Rattle.session_rows.proofs.Common.{arith, refl}
use Rattle.sessions.specs.Rooms.{table}
use Rattle.session_rows.proofs.StoreLaws.{all_ranks, next_rank}
use Rattle.session_rows.proofs.storing.edits_of.Goals as goal

pub loop-rank-preserved : goal.loop-rank-preserved
loop-rank-preserved c =
    next_rank c.args.history.now (table c.args.sessions.now) c.args.sessions.now.changed c.args.nexts.now c.loop-rank.rank c.loop-rank.edits.items c.push.new.self.items _ _ c.in_ok-rank_edit.field-0
    c.requires.numbers c.loop-rank-test.true refl refl c.in_ok-rank_edit.ensures.key c.in_ok-rank_edit.ensures.value c.in_ok-push.ensures.items c.loop-rank.invariant

pub returns : goal.returns
returns c =
    all_ranks c.args.history.now (table c.args.sessions.now) c.args.sessions.now.changed c.args.nexts.now c.loop-rank.rank c.loop-rank.edits.items (omega (arith, c.loop-rank-test.false)) c.loop-rank.invariant
