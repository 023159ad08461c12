-- What is read of an object as a fragment's, and as a fragment tree's. Only this crate's own contracts use these words.
use Rattle.std.specs.Prelude.{List, Option, Some, None}
use Rattle.mds_types.specs.Frag.{Fragment}
use Rattle.objstore.specs.Omap.{Omap}
use Rattle.dirfrag_codec.specs.FragmentObject.{SpellsTreeObject}
use Rattle.script_output.specs.declared.object_lines.ObjectLine.{ObjectLine}
use Rattle.script_output.specs.ShownObjects.{IsLineOf, SpellsNoFragment, SpellsNoTree}

-- the line of the fragment that an object is; none, where it is no fragment's
abbrev pub IsFragOf : Omap → Option ObjectLine → Type 0
IsFragOf object (Some line) = IsLineOf (Some object) line
IsFragOf object None = SpellsNoFragment object

-- the leaves of the fragment tree that an object is; none, where it is no fragment tree's
abbrev pub IsTreeOf : Omap → Option (List Fragment) → Type 0
IsTreeOf object (Some leaves) = SpellsTreeObject object leaves
IsTreeOf object None = SpellsNoTree object
