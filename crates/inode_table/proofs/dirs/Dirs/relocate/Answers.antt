-- A directory that moved reaches the root by its new parent.
use Rattle.inode_table.proofs.Common.{DirTable, ap, sym}
use Rattle.inode_table.proofs.RowLaws.{has_row}
use Rattle.inode_table.proofs.SeenRows.{other_home}
use Rattle.inode_table.proofs.dirs.Dirs.relocate.Goals as goal

pub unreachable-requires : goal.unreachable-requires
unreachable-requires c = has_row c.self.inside.root _ c.args.dir.0 (sym c.in_default.ensures.value) (rw (ap (λ (t : DirTable). t.homes) c.self.view_is) c.requires.there)

pub returns : goal.returns
returns c =
    let moved = other_home _ _ _ _ _ c.self.view_is c.self.invariant c.args.dir.0 c.in-Some.row.now c.in-Some.ensures.value c.args.home c.requires in
    record {
      homes = ap (λ (t : DirTable). t.homes) moved.is;
      trees = ap (λ (t : DirTable). t.trees) moved.is;
      counts = ap (λ (t : DirTable). t.counts) moved.is;
      pins = ap (λ (t : DirTable). t.pins) moved.is;
      room = ap (λ (t : DirTable). t.room) moved.is;
      valid = moved.table;
    }

pub invariant_of-self : goal.invariant_of-self
invariant_of-self c = (other_home _ _ _ _ _ c.self.view_is c.self.invariant c.args.dir.0 c.in-Some.row.now c.in-Some.ensures.value c.args.home c.requires).table
