-- A new directory reaches the root by its parent.
use Rattle.inode_table.proofs.Common.{LeavesAndPin, DirTable, ap, covers_of, leaves_of, rules, ◌∙◌}
use Rattle.inode_table.proofs.RowLaws.{new_leaves}
use Rattle.inode_table.proofs.SeenRows.{comes}
use Rattle.inode_table.proofs.dirs.Dirs.adopt.Goals as goal

pub returns : goal.returns
returns c =
    let came = comes _ _ _ _ _ c.self.view_is c.self.invariant c.args.dir.0 _ c.args.home _ c.none.ensures c.insert.ensures.inserted c.requires.may in
    record {
      homes = ap (λ (t : DirTable). t.homes) came.is;
      trees = ap (λ (t : DirTable). t.trees) came.is;
      whole = ap (λ rows. leaves_of (covers_of c.self.inside.root rows) c.args.dir.0) c.insert.ensures.inserted ∙ new_leaves c.self.inside.root _ c.args.dir.0 _ c.requires.may.other (ap (λ (s : LeavesAndPin). s.leaves) c.none.ensures);
      counts = ap (λ (t : DirTable). t.counts) came.is;
      pins = ap (λ (t : DirTable). t.pins) came.is;
      room = search rules;
      valid = came.table;
    }

pub invariant_of-self : goal.invariant_of-self
invariant_of-self c = (comes _ _ _ _ _ c.self.view_is c.self.invariant c.args.dir.0 _ c.args.home _ c.none.ensures c.insert.ensures.inserted c.requires.may).table
