-- The change that an operation makes, where it makes one.
use Rattle.std.specs.Prelude.{Option, Some, None}
use Rattle.mds_types.specs.declared.operations.Op.{Op}
use Rattle.mds_types.specs.Tree.{Tree}
use Rattle.namespace_ops.specs.declared.plans.Change.{Change}
use Rattle.namespace_ops.specs.Changes.{IsChangeOf, changed}

-- the tree after a change, if there is one
abbrev pub after_plan : Tree → Option Change → Tree
after_plan tree None = tree
after_plan tree (Some change) = changed tree change

-- a change, if there is one, is the operation's
abbrev pub IsOneOf : Op → Option Change → Type 0
IsOneOf op None = Unit {0}
IsOneOf op (Some change) = IsChangeOf op change
