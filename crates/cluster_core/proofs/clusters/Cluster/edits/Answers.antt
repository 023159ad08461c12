-- The next numbers are numbers of ranks.
use Rattle.std.proofs.Common.{subst, sym, ◌++◌}
use Rattle.std.proofs.lemmas.Result.{IfOk-weaker}
use Rattle.cluster_core.specs.KeptSessions.{WritesAll}
use Rattle.cluster_core.specs.Sound.{IsSoundBehind}
use Rattle.cluster_core.specs.State.{Core}
use Rattle.cluster_core.proofs.StoringLaws.{next_inos}
use Rattle.cluster_core.proofs.clusters.Cluster.edits.Goals as goal

pub edits_of-requires-clause-numbers : goal.edits_of-requires-clause-numbers
edits_of-requires-clause-numbers g c =
    let r = c.requires in
    let behind = subst (λ (k : Core). IsSoundBehind r.0 r.1 c.args.history.now k) (sym c.self.view_is) r.2 in
    rw c.as_slice.ensures.value (next_inos r.0 (r.1 ++ c.args.history.now) c.self.inside.parts.given.numbers.items c.in_ok-nexts.nexts.items behind.sound.supplied c.in_ok-nexts.ensures)

pub returns : goal.returns
returns g c = IfOk-weaker c.edits_of.result _ _
    (λ edits writes. subst (λ (k : Core). WritesAll c.args.history.now k edits.items) c.self.view_is (record {
      nexts = c.in_ok-nexts.nexts.items;
      are = c.in_ok-nexts.ensures;
      writes = rw (← c.as_slice.ensures.value) writes;
    }))
    c.edits_of.ensures
