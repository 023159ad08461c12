-- What a directory was given, as a row keeps it. Only this crate's own contracts use these words.
use Rattle.std.specs.Prelude.{List, None, Option, Some}
use Rattle.mds_types.specs.Frag.{Fragment}
use Rattle.mds_types.specs.declared.ids.Rank.{Rank}
use Rattle.inode_table.specs.declared.settings.Packed.{Packed}
use Rattle.inode_table.specs.declared.settings.Packed.TheVariants.{Set, Whole}

-- the leaves of a directory, if they were ever set, and its pin, if it has one
pub record LeavesAndPin : Type 0 where
  pub leaves : Option (List Fragment)
  pub pin : Option Rank

-- and what is packed
abbrev pub given_by : Packed → LeavesAndPin
given_by (Whole pin) = record { leaves = None; pin = pin }
given_by (Set pin leaves) = record { leaves = Some leaves; pin = pin }
