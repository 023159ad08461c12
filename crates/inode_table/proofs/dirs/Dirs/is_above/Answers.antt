-- Each step of the walk goes to the parent.
use Rattle.inode_table.proofs.Common.{parent, refl, sym}
use Rattle.inode_table.proofs.Chains.{nearer, above_parent, are_same, are_apart}
use Rattle.inode_table.proofs.dirs.Dirs.is_above.Goals as goal

pub returns-then-eq : goal.returns-then-eq
returns-then-eq c = (λ told. c.loop-home.invariant.chain.1 (parent c.loop-home.at.0 c.in-Some.home.now (sym c.in-Some.ensures) (are_same _ _ c.if-eq.ensures)), λ above. refl)

pub loop-home-smaller : goal.loop-home-smaller
loop-home-smaller c = nearer c.args.self.now.homes c.loop-home.at.0 c.in-Some.home.now c.loop-home.invariant.table.rooted (sym c.in-Some.ensures)

pub loop-home-preserved : goal.loop-home-preserved
loop-home-preserved c =
    let step = above_parent c.args.self.now.homes c.args.dir.0 c.loop-home.at.0 c.in-Some.home.now (sym c.in-Some.ensures) (are_apart _ _ c.if-eq.ensures) in
    record {
      table = c.loop-home.invariant.table;
      chain = (λ above. step.0 (c.loop-home.invariant.chain.0 above), λ above. c.loop-home.invariant.chain.1 (step.1 above));
    }
