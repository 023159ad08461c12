-- No chain goes through a directory that is no one's parent.
use Rattle.std.specs.FinMap as map
use Rattle.inode_table.proofs.Common.{DirTable, ap, leaves_of_row, option_map, rules, sym, ℕ, ◌∙◌}
use Rattle.inode_table.proofs.RowLaws.{get_leaves, row_left}
use Rattle.inode_table.proofs.SeenRows.{goes}
use Rattle.inode_table.specs.declared.dirs.Directory.{Directory}
use Rattle.inode_table.proofs.dirs.Dirs.drop.Goals as goal

pub returns : goal.returns
returns c =
    let gone = goes _ _ _ _ _ c.self.view_is c.self.invariant c.args.dir.0 _ c.remove_near.ensures.removed c.requires in
    record {
      leaves = c.leaves_left.ensures
          ∙ ap (λ o. leaves_of_row (option_map (λ (r : ℕ × Directory). r.1) o)) c.remove_near.ensures.value
          ∙ row_left _ c.args.dir.0
          ∙ sym (ap (λ (t : DirTable). map.get t.trees c.args.dir.0) (sym c.self.view_is) ∙ get_leaves c.self.inside.root _ c.args.dir.0 c.requires.other);
      homes = ap (λ (t : DirTable). t.homes) gone.is;
      trees = ap (λ (t : DirTable). t.trees) gone.is;
      counts = ap (λ (t : DirTable). t.counts) gone.is;
      pins = ap (λ (t : DirTable). t.pins) gone.is;
      room = search rules;
      valid = gone.table;
    }

pub invariant_of-self : goal.invariant_of-self
invariant_of-self c = (goes _ _ _ _ _ c.self.view_is c.self.invariant c.args.dir.0 _ c.remove_near.ensures.removed c.requires).table
