-- What objects of the store say as a whole: that of a fragment, and that of a fragment tree.
use Rattle.std.specs.Prelude.{◌≡◌, ℕ, not, if◌then◌else◌, List, [], ◌∷◌, length, filter, Option, Some, None}
use Rattle.std.specs.FinMap as map
use Rattle.mds_types.specs.Frag.{Fragment}
use Rattle.mds_types.specs.Name.{IsName}
use Rattle.mds_types.specs.Tree.{is_dir_kind}
use Rattle.mds_types.specs.declared.inodes.Inode.{Inode}
use Rattle.objstore.specs.EntryKeys.{entry_key}
use Rattle.objstore.specs.Omap.{Omap, PairMap, key_cmp}
use Rattle.dirfrag_codec.specs.declared.headers.FragHeader.{FragHeader}
use Rattle.dirfrag_codec.specs.EntryRecord.{SpellsEntry}
use Rattle.dirfrag_codec.specs.FragHeader.{SpellsHeader}
use Rattle.dirfrag_codec.specs.TreeObject.{SpellsTree}
use Rattle.dirfrag_codec.specs.Reading.{◌>>=◌}
use Rattle.dirfrag_codec.specs.Values.{inode_of_record, is_name, name_of_key}

-- the names of a fragment, each with its inode, in the order of the names
abbrev pub Names : Type 0
Names = map.FinMap key_cmp Inode

-- the entry counts of names: how many aren't directories (files and links), and how many are
abbrev pub files_in : Names → ℕ
files_in names = length (filter (λ e. not (is_dir_kind e.1.kind)) (map.entries names))

abbrev pub dirs_in : Names → ℕ
dirs_in names = length (filter (λ e. is_dir_kind e.1.kind) (map.entries names))

-- a pair is the record of one of the names, under its key
pub record IsPairOf (names : Names) (key bytes : List ℕ) : Type 0 where
  pub name : List ℕ
  pub inode : Inode
  pub named : IsName name
  pub keyed : key ≡ entry_key name
  pub spelled : SpellsEntry bytes inode
  pub held : map.get names name ≡ Some inode

-- a name has its record among the pairs, under its key
pub record HasPair (pairs : PairMap) (name : List ℕ) (inode : Inode) : Type 0 where
  pub named : IsName name
  pub bytes : List ℕ
  pub stands : map.get pairs (entry_key name) ≡ Some bytes
  pub spelled : SpellsEntry bytes inode

-- the pairs are exactly the records of the names under their keys
pub record SpellsNames (pairs : PairMap) (names : Names) : Type 0 where
  pub read : (key bytes : List ℕ) → map.get pairs key ≡ Some bytes → IsPairOf names key bytes
  pub held : (name : List ℕ) (inode : Inode) → map.get names name ≡ Some inode → HasPair pairs name inode

-- the header of a fragment with these names, at a commit version
abbrev pub header_for : ℕ → Names → FragHeader
header_for version names = record { version = version; files = files_in names; dirs = dirs_in names }

-- the object of a fragment with these names, at a commit version: its header has the entry counts, and its pairs are
-- the names' records
pub record SpellsFragment (object : Omap) (version : ℕ) (names : Names) : Type 0 where
  pub header : SpellsHeader object.header (header_for version names)
  pub pairs : SpellsNames object.pairs names

-- the object of a fragment tree: the tree in its header, and no pairs
pub record SpellsTreeObject (object : Omap) (leaves : List Fragment) : Type 0 where
  pub header : SpellsTree object.header leaves
  pub pairs : object.pairs ≡ map.empty

-- an object spells at most one fragment
abbrev pub HasOneFragment : Type 0
HasOneFragment =
    (object : Omap) (v w : ℕ) (a b : Names) → SpellsFragment object v a → SpellsFragment object w b → (v ≡ w) × (a ≡ b)

-- an object spells at most one fragment tree
abbrev pub HasOneTree : Type 0
HasOneTree = (object : Omap) (a b : List Fragment) → SpellsTreeObject object a → SpellsTreeObject object b → a ≡ b

-- ---- what an object's pairs show, as a function

-- the key is that of the name
abbrev pub SpellsKey : List ℕ → List ℕ → Type 0
SpellsKey key name = IsName name × (key ≡ entry_key name)

-- names with one more: where the key is a name's and the bytes are a record
abbrev pub with_pair : Names → Option (List ℕ) → Option Inode → Names
with_pair names (Some name) (Some inode) = map.insert names name inode
with_pair names (Some name) None = names
with_pair names None inode = names

abbrev pub names_of_list : List (List ℕ × List ℕ) → Names
names_of_list [] = map.empty
names_of_list (pair ∷ pairs) = with_pair (names_of_list pairs) (name_of_key pair.0) (inode_of_record pair.1)

-- the names that pairs show, each with its inode; a pair off the grammar shows nothing
unfoldable pub names_of_pairs : PairMap → Names
names_of_pairs pairs = names_of_list (map.entries pairs)

-- what pairs show at a name: the inode of the record under the name's key
abbrev pub pair_shown_at : PairMap → List ℕ → Option Inode
pair_shown_at pairs name = if is_name name then (map.get pairs (entry_key name) >>= inode_of_record) else None

-- the names that pairs show are those under whose keys they have records
abbrev pub ShowsAtEach : Type 0
ShowsAtEach = (pairs : PairMap) (name : List ℕ) → map.get (names_of_pairs pairs) name ≡ pair_shown_at pairs name

-- the names that an object spells are those that it shows
abbrev pub SpellsWhatItShows : Type 0
SpellsWhatItShows =
    (object : Omap) (version : ℕ) (names : Names) → SpellsFragment object version names → names ≡ names_of_pairs object.pairs
