-- The inode numbers that a rank has left after an operation.
use Rattle.std.specs.Prelude.{◌+◌, Option, Some, None}
use Rattle.mds_types.specs.declared.ids.Ino.{Ino}
use Rattle.inode_table.specs.Numbers.{Supply}

-- the supply after an operation that took this number, if it took one
abbrev pub after_taking : Supply → Option Ino → Supply
after_taking s None = s
after_taking s (Some number) = record s { next = s.next + 1 }
