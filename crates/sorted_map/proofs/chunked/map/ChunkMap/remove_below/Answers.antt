use Rattle.sorted_map.proofs.Common.{ap, arith, contents, len-entries, length, length-drop, sym, ◌∙◌}
use Rattle.std.specs.FinMap as map
use Rattle.sorted_map.proofs.OverlayLaws.{kept_all, one_goes, below_some}
use Rattle.sorted_map.proofs.chunked.map.ChunkMap.remove_below.Goals as goal

pub loop-self-smaller : goal.loop-self-smaller
loop-self-smaller g c =
    let old = contents g.K.Ord.cmp c.loop-self.self in
    let new = contents g.K.Ord.cmp c.pop_first.new.self in
    let some = below_some g.met.K.Ord.total (g.Q.Probe.key c.args.q.now) (map.entries old) (sym c.starts_below.ensures ∙ c.loop-self-test.true) in
    omega (arith, some, len-entries old, len-entries new, ap length c.pop_first.ensures.rest, length-drop 1 (map.entries old))

pub loop-self-preserved : goal.loop-self-preserved
loop-self-preserved g c =
    let old = contents g.K.Ord.cmp c.loop-self.self in
    record {
      kept = one_goes g.met.K.Ord.total (g.Q.Probe.key c.args.q.now) (map.entries old) _ (sym c.starts_below.ensures ∙ c.loop-self-test.true) c.pop_first.ensures.rest ∙ c.loop-self.invariant.kept;
      room = omega (arith, c.loop-self.invariant.room, c.pop_first.ensures.room);
    }

pub returns-clause-kept : goal.returns-clause-kept
returns-clause-kept g c =
    kept_all g.met.K.Ord.total g.met.K.ExactOrd.exact (g.Q.Probe.key c.args.q.now) _ _ (sym c.starts_below.ensures ∙ c.loop-self-test.false) c.loop-self.invariant.kept
