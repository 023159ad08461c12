-- The commands on authorities and the lines that they print. They only read the book.
use Rattle.std.specs.Prelude.{◌≡◌, ◌⊎◌, List, map as each, Ok, Err}
use Rattle.std.specs.FinMap as map
use Rattle.mds_types.specs.declared.ids.Ino.{Ino}
use Rattle.mds_types.specs.declared.ids.Rank.{Rank}
use Rattle.mds_types.specs.declared.refusals.Refusal.{Refusal}
use Rattle.mds_types.specs.Frag.{Fragment}
use Rattle.subtree_map.specs.Authority.{Leaf, Roots}
use Rattle.cluster_core.specs.State.{State}
use Rattle.cluster_core.specs.Administers.{TellsAuthority}
use Rattle.script_output.specs.declared.lines.OutputLine.{OutputLine}
use Rattle.script_output.specs.declared.lines.OutputLine.TheVariants.{Subtrees, Authority, Refused}
use Rattle.script_output.specs.declared.root_lists.Root.{Root}

-- a subtree root as it is printed
abbrev pub root_of : Leaf × Rank → Root
root_of row = record { ino = row.0.0; frag = row.0.1; rank = row.1 }

-- the subtree roots with their ranks, by inode and then as fragments
abbrev pub roots_in : Roots → List Root
roots_in roots = each root_of (map.entries roots)

-- the subtree map was listed; that is no step, so nothing is refused
abbrev pub ListsSubtrees : State → OutputLine → Type 0
ListsSubtrees state line = line ≡ Subtrees (roots_in state.roots)

-- the authority of a leaf was told, or why it can't be
abbrev pub TellsLine : State → Ino → Fragment → OutputLine → Type 0
TellsLine state dir f line =
    ((rank : Rank) × TellsAuthority state (dir, f) (Ok rank) × (line ≡ Authority rank))
    ⊎ ((refusal : Refusal) × TellsAuthority state (dir, f) (Err refusal) × (line ≡ Refused refusal))
