use Rattle.cluster_core.proofs.Common.{inherited, nearer}
use Rattle.cluster_core.proofs.PinsLaws.{at_top, up}
use Rattle.cluster_core.proofs.pinned_away.pin_of.Goals as goal

pub loop-home-init : goal.loop-home-init
loop-home-init c = record { table = c.is_table.ensures; same = λ rank. (λ has. has, λ has. has) }

pub loop-home-smaller : goal.loop-home-smaller
loop-home-smaller c = nearer c.args.dirs.now.homes c.loop-home.at.0 c.in-Some.home.now c.loop-home.invariant.table.rooted c.in-Some.ensures.1

pub loop-home-preserved : goal.loop-home-preserved
loop-home-preserved c = record {
  table = c.loop-home.invariant.table;
  same = λ rank. (
    λ has. (c.loop-home.invariant.same rank).0 (inherited c.loop-home.at.0 c.in-Some.home.now rank c.in-Some.ensures.0 c.in-Some.ensures.1 has),
    λ has. up c.args.dirs.now.pins c.args.dirs.now.homes c.loop-home.at.0 c.in-Some.home.now rank c.in-Some.ensures.0 c.in-Some.ensures.1 ((c.loop-home.invariant.same rank).1 has),
  );
}

pub returns : goal.returns
returns c = at_top c.args.dirs.now.pins c.args.dirs.now.homes c.args.dir.0 c.loop-home.at.0 c.pin.result c.pin.ensures c.in_default.ensures c.loop-home.invariant.same
