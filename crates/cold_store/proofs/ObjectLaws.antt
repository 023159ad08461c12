-- What one object says: the names of a leaf's, and the leaves of a tree's.
use Rattle.std.proofs.Common.{◌≡◌, ℕ, Bool, true, false, List, [], ◌∷◌, Option, Some, None, sym, ap, subst, ◌∙◌}
use Rattle.std.proofs.lemmas.Option.{same_Some}
use Rattle.std.specs.Option.{unwrap_or}
use Rattle.std.specs.Prelude.{cond}
use Rattle.std.specs.FinMap as map
use Rattle.mds_types.specs.Frag.{Contains, Fragment, root_fragment}
use Rattle.mds_types.specs.declared.inodes.Inode.{Inode}
use Rattle.objstore.specs.EntryKeys.{entry_key}
use Rattle.objstore.specs.Omap.{Omap, PairMap}
use Rattle.namehash.specs.Rjenkins.{hash_of}
use Rattle.fragtree.specs.FragTree.{IsTree}
use Rattle.fragtree.proofs.Kept.{whole_tree}
use Rattle.dirfrag_codec.specs.EntryRecord.{IsRecordable, SpellsEntry}
use Rattle.dirfrag_codec.specs.FragmentObject.{Names, names_of_pairs}
use Rattle.dirfrag_codec.specs.Reading.{◌>>=◌}
use Rattle.dirfrag_codec.specs.TreeObject.{SpellsTree}
use Rattle.dirfrag_codec.specs.Values.{inode_of_record, is_name, tree_of_bytes as leaves_spelled}
use Rattle.dirfrag_codec.proofs.FragmentLaws.{shows_at_each, spells_what_it_shows}
use Rattle.dirfrag_codec.proofs.TreeLaws.{one_tree}
use Rattle.dirfrag_codec.proofs.RecordLaws.{allowed as record_allowed}
use Rattle.dirfrag_codec.proofs.ValueLaws.{read_as, reads_entry, reads_tree, spelled_as}
use Rattle.dentry_cache.specs.Loading.{IsSaved, Loads}
use Rattle.dentry_cache.specs.Ties.{names_at}
use Rattle.inode_table.specs.Dirs.{or_whole}
use Rattle.cold_store.specs.ColdTree.{SaysLeaves}
use Rattle.cold_store.specs.Rows.{IsGoodTree, leaves_said}

-- ---- names

-- a record allows each inode that an object shows
pub recordable : (pairs : PairMap) (name : List ℕ) (inode : Inode) → map.get (names_of_pairs pairs) name ≡ Some inode → IsRecordable inode
recordable pairs name inode is = go (is_name name) (map.get pairs (entry_key name)) (sym (shows_at_each pairs name) ∙ is)
  where
    go : (b : Bool) (r : Option (List ℕ)) → cond b (r >>= inode_of_record) None ≡ Some inode → IsRecordable inode
    go true (Some bytes) e = record_allowed bytes inode (spelled_as SpellsEntry inode_of_record reads_entry bytes inode e)
    go true None e = absurd cc
    go false r e = absurd cc

-- each name of a leaf that is whole belongs to it
pub belongs : (f : Fragment) (o : Option Omap) (name : List ℕ) (inode : Inode) → IsSaved f o → map.get (names_at o) name ≡ Some inode → Contains f (hash_of name)
belongs f None name inode has stands = absurd has
belongs f (Some object) name inode (version, names, whole) stands = whole.1 name inode (ap (λ (n : Names). map.get n name) (spells_what_it_shows object version names whole.0) ∙ stands)

-- an object that is whole isn't off
pub whole_loads : (f : Fragment) (o : Option Omap) → IsSaved f o → Loads f o None → ⊥
whole_loads f None has off = has
whole_loads f (Some object) (version, names, whole) off = off version names whole

-- ---- leaves

pub said_by : (o : Option Omap) (leaves : List Fragment) → SaysLeaves o leaves → leaves_said o ≡ Some leaves
said_by None leaves says = ap Some (sym says)
said_by (Some object) leaves says = read_as SpellsTree leaves_spelled one_tree reads_tree object.header leaves says

pub says_by : (o : Option Omap) (leaves : List Fragment) → leaves_said o ≡ Some leaves → SaysLeaves o leaves
says_by None leaves is = sym (same_Some (root_fragment ∷ []) leaves is)
says_by (Some object) leaves is = spelled_as SpellsTree leaves_spelled reads_tree object.header leaves is

-- leaves that are said are those of a tree
pub said_tree : (o : Option Omap) (leaves : List Fragment) → SaysLeaves o leaves → IsTree leaves
said_tree None leaves says = subst IsTree (sym says) whole_tree
said_tree (Some object) leaves says = says.tree

-- a tree object that is good gives the row of leaves, and says the leaves of the row
pub good_cover : (o : Option Omap) (cover : Option (List Fragment)) → IsGoodTree o cover → cover ≡ (o >>= λ object. leaves_spelled object.header)
good_cover None cover good = good
good_cover (Some object) cover (leaves, spelled, is) = is ∙ sym (read_as SpellsTree leaves_spelled one_tree reads_tree object.header leaves spelled.header)

pub good_says : (o : Option Omap) (cover : Option (List Fragment)) → IsGoodTree o cover → SaysLeaves o (or_whole cover)
good_says None cover good = ap or_whole good
good_says (Some object) cover (leaves, spelled, is) = subst (SpellsTree object.header) (sym (ap or_whole is)) spelled.header

pub good_leaves : (o : Option Omap) (cover : Option (List Fragment)) → IsGoodTree o cover → or_whole cover ≡ unwrap_or (leaves_said o) []
good_leaves o cover good = sym (ap (λ (s : Option (List Fragment)). unwrap_or s []) (said_by o (or_whole cover) (good_says o cover good)))

-- its object has no pairs
pub good_bare : (o : Option Omap) (cover : Option (List Fragment)) (object : Omap) → IsGoodTree o cover → o ≡ Some object → object.pairs ≡ map.empty
good_bare None cover object good is = absurd cc
good_bare (Some other) cover object (leaves, spelled, row) is = ap (λ (x : Omap). x.pairs) (sym (same_Some other object is)) ∙ spelled.pairs
