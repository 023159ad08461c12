-- The leaves of a directory are those of a tree.
use Rattle.inode_table.proofs.Common.{DirTable, ap, refl, sym}
use Rattle.inode_table.proofs.Chains.{are_same, are_apart}
use Rattle.inode_table.proofs.RowLaws.{has_known_row}
use Rattle.inode_table.proofs.SeenRows.{other_leaves, root_other_leaves}
use Rattle.inode_table.proofs.dirs.Dirs.set_tree.Goals as goal

-- of the root
pub invariant_of-self : goal.invariant_of-self
invariant_of-self c = (root_other_leaves _ _ _ _ _ c.self.view_is c.self.invariant c.args.dir.0 (are_same _ _ c.if-eq.ensures) _ c.args.tree refl c.requires.known c.as_tree.ensures.valid).table

pub returns-then-eq-clause-trees : goal.returns-then-eq-clause-trees
returns-then-eq-clause-trees c = ap (λ (t : DirTable). t.trees) (root_other_leaves _ _ _ _ _ c.self.view_is c.self.invariant c.args.dir.0 (are_same _ _ c.if-eq.ensures) _ c.args.tree refl c.requires.known c.as_tree.ensures.valid).is

-- of another directory
pub unreachable-requires : goal.unreachable-requires
unreachable-requires c =
    has_known_row c.self.inside.root _ c.args.dir.0 (are_apart _ _ c.if-eq.ensures) (sym c.in_default.ensures.value) (rw (ap (λ (t : DirTable). t.homes) c.self.view_is) c.requires.known)

pub returns : goal.returns
returns c =
    let set = (other_leaves _ _ _ _ _ c.self.view_is c.self.invariant c.args.dir.0 c.in-Some.row.now c.in-Some.ensures.value _ c.args.tree (are_apart _ _ c.if-eq.ensures) c.set_leaves.ensures c.requires.known c.as_tree.ensures.valid).is in
    record {
      trees = ap (λ (t : DirTable). t.trees) set;
      homes = ap (λ (t : DirTable). t.homes) set;
      counts = ap (λ (t : DirTable). t.counts) set;
      pins = ap (λ (t : DirTable). t.pins) set;
      room = ap (λ (t : DirTable). t.room) set;
    }

pub invariant_of-self-2 : goal.invariant_of-self-2
invariant_of-self-2 c = (other_leaves _ _ _ _ _ c.self.view_is c.self.invariant c.args.dir.0 c.in-Some.row.now c.in-Some.ensures.value _ c.args.tree (are_apart _ _ c.if-eq.ensures) c.set_leaves.ensures c.requires.known c.as_tree.ensures.valid).table
