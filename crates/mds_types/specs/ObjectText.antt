-- The texts that name objects, CephFS's form for the object of a fragment; that of a fragment tree is this project's
-- own profile.
use Rattle.std.specs.Prelude.{◌≡◌, ◌==◌, ℕ, ◌-◌, ◌^◌, ◌<◌, Bool, true, false, List, ◌++◌, codes, length, replicate}
use Rattle.std.specs.Fmt.{digits}
use Rattle.mds_types.specs.declared.object_names.ObjName.{ObjName}
use Rattle.mds_types.specs.declared.object_names.ObjName.TheVariants.{Frag, Tree}
use Rattle.mds_types.specs.Frag.{IsFragment, word_of}

-- a word of 32 bits in 8 hexadecimal digits
abbrev pub word_text : ℕ → List ℕ
word_text word = replicate (8 - length (digits 16 false word)) 48 ++ digits 16 false word

-- the inode in lower hexadecimal without leading zeros, a dot, and the fragment's word, or `fragtree` for the fragment
-- tree
abbrev pub object_text : ObjName → List ℕ
object_text (Frag ino frag) = digits 16 false ino.0 ++ (codes "." ++ word_text (word_of frag))
object_text (Tree ino) = digits 16 false ino.0 ++ codes ".fragtree"

-- an object's name as the program has it: an inode number of 64 bits, and a fragment
abbrev pub IsObjName : ObjName → Type 0
IsObjName (Frag ino frag) = (ino.0 < 2 ^ 64) × IsFragment frag
IsObjName (Tree ino) = ino.0 < 2 ^ 64

-- no two objects have one text
abbrev pub TextsDiffer : Type 0
TextsDiffer = (a b : ObjName) → IsObjName a → IsObjName b → object_text a ≡ object_text b → a ≡ b

-- the number of an object's directory
abbrev pub dir_number : ObjName → ℕ
dir_number (Frag ino frag) = ino.0
dir_number (Tree ino) = ino.0

-- the object of a fragment tree, and that of a directory's whole fragment
abbrev pub is_tree : ObjName → Bool
is_tree (Frag ino frag) = false
is_tree (Tree ino) = true

abbrev pub is_whole : ObjName → Bool
is_whole (Frag ino frag) = word_of frag == 0
is_whole (Tree ino) = false
