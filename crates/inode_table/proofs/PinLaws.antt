-- The pins beside the tree: they stay those of its directories where an entry comes, is altered, goes or moves.
use Rattle.std.proofs.Common.{◌≡◌, ℕ, true, Option, Some, None, refl, sym, ap, subst, ◌∙◌}
use Rattle.std.specs.Ordering.{nat_cmp}
use Rattle.std.specs.FinMap as map
use Rattle.std.specs.FinMap.{get-empty}
use Rattle.mds_types.specs.declared.dentries.Dentry.{Dentry}
use Rattle.mds_types.specs.declared.ids.Rank.{Rank}
use Rattle.mds_types.specs.declared.inodes.Inode.{Inode}
use Rattle.mds_types.specs.Tree.{Tree, dentry_cmp, is_dir_kind, IsWellFormed}
use Rattle.mds_types.specs.Step.{with_moved, IsMove}
use Rattle.mds_types.proofs.DirectoryLaws.{one_dentry}
use Rattle.mds_types.proofs.MovedLaws.{may_move}
use Rattle.sorted_map.proofs.NatKeys.{get_put as get_put_pin, get_beside as get_beside_pin, get_left as get_left_pin, get_removed}
use Rattle.inode_table.specs.Dirs.{DirPins, pinned_at}
use Rattle.inode_table.specs.TreeChanges.{MayAdd, MaySet, MayRemove}
use Rattle.inode_table.specs.TreeTable.{HoldsPins, with_dir_pin, without_row}
use Rattle.inode_table.proofs.HeldRows.{Differ, Holds, dir_differ, dir_here, moved_held, none_unused, put_held, removed_held}
use Rattle.inode_table.proofs.TableLaws.{alike_before}

-- ---- one pin

module _ (pins : DirPins) (k : ℕ) where
  pub pinned_here : (pin : Option Rank) → map.get (pinned_at pins k pin) k ≡ pin
  pinned_here None = get_removed pins k
  pinned_here (Some rank) = get_put_pin pins k rank

  pub pinned_beside : (pin : Option Rank) (q : ℕ) → (q ≡ k → ⊥) → map.get (pinned_at pins k pin) q ≡ map.get pins q
  pinned_beside None q apart = get_left_pin pins k q apart
  pinned_beside (Some rank) q apart = get_beside_pin pins k rank q apart

-- the pins with that of an inode have that of a directory, and each other as before
module _ (pins : DirPins) (inode : Inode) where
  pub pin_here : is_dir_kind inode.kind ≡ true → map.get (with_dir_pin pins inode) inode.ino.0 ≡ inode.pin
  pin_here kinded = dir_here pins _ inode _ (pinned_here pins inode.ino.0 inode.pin) kinded

  pub pin_differ : Differ pins (with_dir_pin pins inode) inode
  pin_differ = dir_differ pins _ inode (pinned_beside pins inode.ino.0 inode.pin)

-- the pins of a tree's directories are rows that hold them
abbrev pin_value : Dentry → Inode → Option Rank
pin_value dentry inode = inode.pin

pins_held : (tree : Tree) (pins : DirPins) → HoldsPins tree pins → Holds pin_value tree pins
pins_held tree pins holds = record { listed = holds.listed; stands = holds.stands }

held_pins : (tree : Tree) (pins : DirPins) → Holds pin_value tree pins → HoldsPins tree pins
held_pins tree pins holds = record { listed = holds.listed; stands = holds.stands }

-- ---- the changes

pub empty_pins : HoldsPins map.empty map.empty
empty_pins = record {
  listed = λ dentry inode h kinded. let clash : None ≡ Some inode = sym (get-empty dentry_cmp dentry) ∙ h in absurd cc;
  stands = λ d rank is. let clash : None ≡ Some rank = sym (get-empty nat_cmp d) ∙ is in absurd cc;
}

-- a new inode has no pin
pub added_pins : (tree : Tree) (pins : DirPins) (dentry : Dentry) (inode : Inode) → IsWellFormed tree → HoldsPins tree pins → MayAdd tree dentry inode → HoldsPins (map.insert tree dentry inode) pins
added_pins tree pins dentry inode whole holds may =
    held_pins _ _ (put_held pin_value tree pins whole (pins_held tree pins holds) pins dentry inode (λ q apart. refl) (λ k. none_unused pin_value tree pins (pins_held tree pins holds) inode.ino.0 may.unused ∙ sym may.unpinned)
    (λ q x apart stands. may.unused.not_there q.dir.0 q.name x stands) (λ x stands. let clash : None ≡ Some x = sym may.free ∙ stands in absurd cc))

-- an inode is altered: a directory gets its pin
pub set_pins : (tree : Tree) (pins : DirPins) (dentry : Dentry) (inode : Inode) → IsWellFormed tree → HoldsPins tree pins → MaySet tree dentry inode → HoldsPins (map.insert tree dentry inode) (with_dir_pin pins inode)
set_pins tree pins dentry inode whole holds may =
    held_pins _ _ (put_held pin_value tree pins whole (pins_held tree pins holds) _ dentry inode (pin_differ pins inode) (pin_here pins inode)
    (λ q x apart stands same. apart (one_dentry tree whole q dentry x may.before stands may.stands (same ∙ ap (λ (n : _). n.0) may.number))) (alike_before tree dentry inode may))

-- an entry goes, and its pin
pub removed_pins : (tree : Tree) (pins : DirPins) (dentry : Dentry) (found : Option Inode) → map.get tree dentry ≡ found → IsWellFormed tree → HoldsPins tree pins → MayRemove tree dentry → HoldsPins (map.remove tree dentry) (without_row pins found)
removed_pins tree pins dentry found at_dentry whole holds may =
    subst (λ o. HoldsPins (map.remove tree dentry) (without_row pins o)) (sym may.stands ∙ at_dentry) (held_pins _ _ (removed_held pin_value tree pins whole (pins_held tree pins holds) dentry may.inode may.stands))

-- an entry moves: its pin stays, and that of what is replaced goes
pub moved_pins : (tree : Tree) (pins : DirPins) (from to : Dentry) (inode : Inode) → IsWellFormed tree → HoldsPins tree pins → IsMove tree from to inode → HoldsPins (with_moved tree from to inode) (without_row pins (map.get tree to))
moved_pins tree pins from to inode whole holds move =
    let may = may_move tree from to inode whole move in
    held_pins _ _ (moved_held pin_value tree pins whole (pins_held tree pins holds) pins from to inode may (λ q apart. refl) (holds.listed from inode may.stands))
