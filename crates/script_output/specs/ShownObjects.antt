-- What a script prints of an object of the store: the line of what its bytes spell.
use Rattle.std.specs.Prelude.{◌≡◌, ◌⊎◌, ℕ, List, Option, Some, None}
use Rattle.std.specs.FinMap as map
use Rattle.mds_types.specs.Frag.{Fragment}
use Rattle.objstore.specs.Omap.{Omap}
use Rattle.dirfrag_codec.specs.declared.headers.FragHeader.{FragHeader}
use Rattle.dirfrag_codec.specs.FragHeader.{SpellsHeader}
use Rattle.dirfrag_codec.specs.FragmentObject.{Names, SpellsFragment, SpellsTreeObject, dirs_in, files_in}
use Rattle.dirfrag_codec.specs.TreeObject.{StatesLeaves}
use Rattle.script_output.specs.declared.object_lines.ObjectLine.{ObjectLine}
use Rattle.script_output.specs.declared.object_lines.ObjectLine.TheVariants.{Frag, Tree, Absent, Damaged}

-- the object is a fragment's, whole: at this commit version, with these entry counts, and these keys in their order
-- (CephFS's dirfrag object)
pub record ShowsFragment (object : Omap) (version files dirs : ℕ) (keys : List (List ℕ)) : Type 0 where
  pub names : Names
  pub spelled : SpellsFragment object version names
  pub files_are : files ≡ files_in names
  pub dirs_are : dirs ≡ dirs_in names
  pub keys_are : keys ≡ map.keys object.pairs

-- the object is no fragment's: its header, a key, a record or the counts are off the grammar
abbrev pub SpellsNoFragment : Omap → Type 0
SpellsNoFragment object = (version : ℕ) (names : Names) → SpellsFragment object version names → ⊥

-- the object is no fragment tree's
abbrev pub SpellsNoTree : Omap → Type 0
SpellsNoTree object = (leaves : List Fragment) → SpellsTreeObject object leaves → ⊥

-- the line of an object, or of no object: `frag ..` of a fragment's, `tree ..` of a fragment tree's, `absent` exactly
-- where there is none, `damaged` exactly of one that is neither (this project's own profile)
abbrev pub IsLineOf : Option Omap → ObjectLine → Type 0
IsLineOf None line = line ≡ Absent
IsLineOf (Some object) (Frag version files dirs keys) = ShowsFragment object version files dirs keys
IsLineOf (Some object) (Tree leaves) = SpellsTreeObject object leaves
IsLineOf (Some object) Absent = ⊥
IsLineOf (Some object) Damaged = SpellsNoFragment object × SpellsNoTree object

-- an object has one line
abbrev pub HasOneLine : Type 0
HasOneLine = (object : Option Omap) (a b : ObjectLine) → IsLineOf object a → IsLineOf object b → a ≡ b

-- the object has a fragment's header, whatever its pairs are
abbrev pub BeginsAsFragment : Omap → Type 0
BeginsAsFragment object = (header : FragHeader) × SpellsHeader object.header header

-- memory is taken for an object that begins as a fragment's, or that states leaves as a fragment tree's does, and for
-- no other
abbrev pub MayTakeMemory : Option Omap → Type 0
MayTakeMemory None = ⊥
MayTakeMemory (Some object) = BeginsAsFragment object ⊎ StatesLeaves object.header
