-- What a walk finds is a well-formed tree with the table of its directories.
use Rattle.std.proofs.Common.{◌≡◌, ◌⊎◌, inl, inr, ℕ, suc, true, List, Option, Some, None, refl, ap, subst, arith}
use Rattle.std.specs.FinMap as map
use Rattle.mds_types.specs.Frag.{Fragment}
use Rattle.mds_types.specs.Leaf.{Leaf}
use Rattle.mds_types.specs.Tree.{Tree, IsAbove, IsWellFormed, at, child, dentry_of, further, is_directory}
use Rattle.mds_types.specs.declared.inodes.Inode.{Inode}
use Rattle.mds_types.proofs.DirectoryLaws.{entry_stands, root_stands}
use Rattle.objstore.specs.Omap.{Keys}
use Rattle.objstore.specs.Objects.{Objects}
use Rattle.fragtree.specs.FragTree.{IsTree}
use Rattle.dirfrag_codec.specs.EntryRecord.{IsRecordable}
use Rattle.inode_table.specs.declared.dirs.Home.{Home}
use Rattle.inode_table.specs.Dirs.{Covers, Homes, IsTable, Reaches, leaves_of, or_whole}
use Rattle.cold_store.specs.ColdTree.{IsReached, tree_object_of}
use Rattle.cold_store.specs.Walked.{IsWalked, WalkedIsTabled}
use Rattle.cold_store.proofs.ObjectLaws.{said_tree}
use Rattle.cold_store.proofs.StoreRows.{allowed}

module _ (objects : Objects) (tree : Tree) (homes : Homes) (covers : Covers) (left : Keys) (w : IsWalked objects tree homes covers left) where
  entry_allowed : (d : ℕ) (name : List ℕ) (inode : Inode) → at tree d name ≡ Some inode → IsRecordable inode
  entry_allowed d name inode stands = allowed objects _ (w.records.only d name inode stands).2

  not_root : (inode : Inode) → IsRecordable inode → inode.ino.0 ≡ 1 → ⊥
  not_root inode a one = let least = a.number.least in omega (arith, least, one)

  -- ---- the tree

  dir_stands : (d : ℕ) → IsReached objects d → is_directory tree d ≡ true
  dir_stands _ IsReached.root = root_stands tree
  dir_stands _ (IsReached.named r above rec dir) = entry_stands tree (dentry_of r.leaf.0.0 r.name) r.inode (w.records.all r above rec) dir

  below_root : (d : ℕ) → IsReached objects d → (d ≡ 1) ⊎ IsAbove tree 1 d
  below_root _ IsReached.root = inl refl
  below_root _ (IsReached.named r above rec dir) = inr (go (below_root r.leaf.0.0 above))
    where
      go : (r.leaf.0.0 ≡ 1) ⊎ IsAbove tree 1 r.leaf.0.0 → IsAbove tree 1 r.inode.ino.0
      go (inl root) = child r.name r.inode (subst (λ d. at tree d r.name ≡ Some r.inode) root (w.records.all r above rec))
      go (inr more) = further r.leaf.0.0 r.name r.inode more (w.records.all r above rec)

  one_place : (d d' : ℕ) (name name' : List ℕ) (inode inode' : Inode) → at tree d name ≡ Some inode → at tree d' name' ≡ Some inode' → inode.ino ≡ inode'.ino → (d ≡ d') × (name ≡ name')
  one_place d d' name name' inode inode' here there same =
      let r = w.records.only d name inode here in
      let q = w.records.only d' name' inode' there in
      let place = w.once _ _ r.1 r.2 q.1 q.2 same in
      (ap (λ (l : Leaf). l.0.0) place.0, place.1)

  well_formed : IsWellFormed tree
  well_formed = record {
    rootless = λ d name inode stands. not_root inode (entry_allowed d name inode stands);
    once = one_place;
    parents = λ d name inode stands. dir_stands d (w.records.only d name inode stands).1;
    rooted = λ d name inode stands. below_root d (w.records.only d name inode stands).1;
    sizes = λ d name inode stands. (entry_allowed d name inode stands).size;
    pins = λ d name inode stands. (entry_allowed d name inode stands).pin;
  }

  -- ---- the table

  climbs : (d : ℕ) → IsReached objects d → (n : ℕ) × Reaches homes n d
  climbs _ IsReached.root = (0, refl)
  climbs _ (IsReached.named r above rec dir) =
      let up = climbs r.leaf.0.0 above in
      (suc up.0, (record { parent = r.leaf.0; name = r.name }, w.homes_held.listed (dentry_of r.leaf.0.0 r.name) r.inode (w.records.all r above rec) dir, up.1))

  home_reached : (d : ℕ) (home : Home) → map.get homes d ≡ Some home → IsReached objects d
  home_reached d home is =
      let e = w.homes_held.stands d home is in
      let r = w.records.only home.parent.0 home.name e.0 e.1 in
      subst (IsReached objects) e.2 (IsReached.named _ r.1 r.2 e.3)

  root_homeless : map.get homes 1 ≡ None
  root_homeless = none (map.get homes 1) refl
    where
      none : (o : Option Home) → map.get homes 1 ≡ o → map.get homes 1 ≡ None
      none None is = is
      none (Some home) is = let e = w.homes_held.stands 1 home is in absurd (not_root e.0 (entry_allowed home.parent.0 home.name e.0 e.1) e.2)

  cover_tree : (d : ℕ) (leaves : List Fragment) → map.get covers d ≡ Some leaves → IsTree leaves
  cover_tree d leaves is =
      subst IsTree (ap or_whole is) (said_tree (tree_object_of objects (record { 0 = d })) (leaves_of covers d) (w.leaves (record { 0 = d }) (w.rows d leaves is)))

  table : IsTable homes covers
  table = record { rooted = record { rootless = root_homeless; rooted = λ x home is. climbs x (home_reached x home is) }; known = w.rows; covers = cover_tree }

pub walked_is_tabled : WalkedIsTabled
walked_is_tabled objects tree homes covers left w = (record { whole = well_formed objects tree homes covers left w; holds = w.homes_held }, table objects tree homes covers left w)
