-- A row gets another pin, and keeps all else.
use Rattle.inode_table.proofs.Common.{DirTable, ap, sym}
use Rattle.inode_table.proofs.RowLaws.{has_row}
use Rattle.inode_table.proofs.SeenRows.{other_pin}
use Rattle.inode_table.proofs.dirs.Dirs.set_pin.Goals as goal

pub unreachable-requires : goal.unreachable-requires
unreachable-requires c = has_row c.self.inside.root _ c.args.dir.0 (sym c.in_default.ensures.value) (rw (ap (λ (t : DirTable). t.homes) c.self.view_is) c.requires)

pub returns : goal.returns
returns c = (other_pin _ _ _ _ _ c.self.view_is c.self.invariant c.args.dir.0 c.in-Some.row.now c.in-Some.ensures.value _ c.args.pin c.set_pin.ensures).is

pub invariant_of-self : goal.invariant_of-self
invariant_of-self c = (other_pin _ _ _ _ _ c.self.view_is c.self.invariant c.args.dir.0 c.in-Some.row.now c.in-Some.ensures.value _ c.args.pin c.set_pin.ensures).table
