-- The directory table beside the tree: what it knows, and that it stays that of the tree.
use Rattle.std.proofs.Common.{◌≡◌, ◌==◌, ◌&&◌, ◌↔◌, ℕ, Bool, true, false, cond, is_some, IsTrue, Option, Some, None, ◌⊎◌, ⊎_elim, refl, sym, ap, subst, ◌∙◌}
use Rattle.std.specs.FinMap as map
use Rattle.std.specs.FinMap.{get-empty}
use Rattle.std.specs.Ordering.{nat_cmp}
use Rattle.std.specs.Cmp.{both_ways}
use Rattle.std.proofs.lemmas.Bool.{cases_Bool, eqb-true, or_cases, or_left, or_right, true_from_ne_false}
use Rattle.mds_types.specs.declared.dentries.Dentry.{Dentry}
use Rattle.mds_types.specs.declared.inodes.Inode.{Inode}
use Rattle.mds_types.specs.Tree.{Tree, dentry_cmp, dentry_of, at, is_directory, is_dir_kind, is_above, has_entries, HasPinOf, IsAbove as IsAboveIn, child, further as further_down, IsWellFormed, NothingIn}
use Rattle.mds_types.proofs.AboveLaws.{above_exact}
use Rattle.mds_types.proofs.AttributeLaws.{well-formed-changed}
use Rattle.mds_types.proofs.RemovedLaws.{well-formed-removed}
use Rattle.mds_types.proofs.WellFormedLaws.{well-formed-grown}
use Rattle.mds_types.proofs.DirectoryLaws.{StandsAs, directory_stands, root_stands, entry_stands, no_directory, one_dentry, nothing_in_empty, nothing_in_file}
use Rattle.sorted_map.proofs.NatKeys.{is_same, get_put as get_put_home, get_beside as get_beside_home, get_removed as get_removed_home}
use Rattle.inode_table.specs.declared.dirs.Home.{Home}
use Rattle.inode_table.specs.Dirs.{Homes, Covers, or_whole, leaves_of, is_known, IsAncestor, parent, further, MayCome, IsChildless, MayGo}
use Rattle.inode_table.proofs.Chains.{some_of}
use Rattle.inode_table.proofs.HeldRows.{Differ, Holds, Spares, dir_differ, dir_here, left_beside, none_unused, one_inode, put_held, removed_held}
use Rattle.inode_table.specs.TreeChanges.{KeepLeaves, MayAdd, MaySet, MayRemove}
use Rattle.inode_table.specs.TreeTable.{HoldsHomes, IsTabled, home_at, with_home, without_cover, without_home, without_row}

-- the dentry of a home
abbrev pub dentry_at : Home → Dentry
dentry_at home = dentry_of home.parent.0 home.name

module _ (tree : Tree) (homes : Homes) (tabled : IsTabled tree homes) where
  -- a home is that of an entry's directory
  pub home_of : (dentry : Dentry) (inode : Inode) (d : ℕ) → map.get tree dentry ≡ Some inode → inode.ino.0 ≡ d → is_dir_kind inode.kind ≡ true → map.get homes d ≡ Some (home_at dentry)
  home_of dentry inode d stands same kinded = ap (λ x. map.get homes x) (sym same) ∙ tabled.holds.listed dentry inode stands kinded

  pub known_is : (d : ℕ) → is_known homes d ≡ is_directory tree d
  known_is d = both_ways _ _ there here
    where
      there : is_known homes d ≡ true → is_directory tree d ≡ true
      there known =
          ⊎_elim (λ root. ap (is_directory tree) (eqb-true d 1 root) ∙ root_stands tree)
          (λ some.
          let h = some_of (map.get homes d) some in
          let w = tabled.holds.stands d h.0 h.1 in
          ap (is_directory tree) (sym w.2) ∙ entry_stands tree (dentry_at h.0) w.0 w.1 w.3)
          (or_cases (d == 1) (is_some (map.get homes d)) known)

      here : is_directory tree d ≡ true → is_known homes d ≡ true
      here stands =
          ⊎_elim (λ root. or_left (d == 1) _ (is_same d 1 root))
          (λ (w : StandsAs tree d). or_right (d == 1) _ (ap is_some (home_of w.dentry w.inode d w.stands w.numbered w.kinded))) (directory_stands tree d stands)

  -- what is above by parents is above by entries,
  pub above_in_tree : (d x : ℕ) → IsAncestor homes d x → IsAboveIn tree d x
  above_in_tree d x (parent _ home is same) =
      let w = tabled.holds.stands x home is in
      subst (λ y. IsAboveIn tree d y) w.2 (child home.name w.0 (ap (λ m. at tree m home.name) (sym same) ∙ w.1))
  above_in_tree d x (further _ home is above) =
      let w = tabled.holds.stands x home is in
      subst (λ y. IsAboveIn tree d y) w.2 (further_down home.parent.0 home.name w.0 (above_in_tree d home.parent.0 above) w.1)

  -- an entry whose number is a directory's is that directory
  is_dir_entry : (dentry : Dentry) (inode : Inode) → map.get tree dentry ≡ Some inode → is_directory tree inode.ino.0 ≡ true → is_dir_kind inode.kind ≡ true
  is_dir_entry dentry inode stands here = true_from_ne_false _ (λ file. no_directory tree dentry inode tabled.whole stands file here)

  -- and the other way round, for a directory
  above_in_table : (d x : ℕ) → is_directory tree x ≡ true → IsAboveIn tree d x → IsAncestor homes d x
  above_in_table d _ here (child name inode stands) =
      parent inode.ino.0 (home_at (dentry_of d name)) (tabled.holds.listed (dentry_of d name) inode stands (is_dir_entry (dentry_of d name) inode stands here)) refl
  above_in_table d _ here (further_down m name inode above stands) =
      further inode.ino.0 (home_at (dentry_of m name)) (tabled.holds.listed (dentry_of m name) inode stands (is_dir_entry (dentry_of m name) inode stands here))
      (above_in_table d m (tabled.whole.parents m name inode stands) above)

  -- so the table tells what the tree's test tells
  pub above_is : (d x : ℕ) (told : Bool) → is_directory tree x ≡ true → IsTrue told ↔ IsAncestor homes d x → told ≡ is_above tree d x
  above_is d x told here exact =
      let test = above_exact tree d x tabled.whole in
      both_ways told (is_above tree d x) (λ yes. test.1 (above_in_tree d x (exact.0 yes))) (λ yes. exact.1 (above_in_table d x here (test.0 yes)))

pub dir_or_not : (inode : Inode) → (is_dir_kind inode.kind ≡ true) ⊎ (is_dir_kind inode.kind ≡ false)
dir_or_not inode = cases_Bool (is_dir_kind inode.kind)

-- a table without an inode is its homes without that row, and so are its leaves
pub homes_without : (homes : Homes) (gone : Option Inode) → without_home homes gone ≡ without_row homes gone
homes_without homes None = refl
homes_without homes (Some t) = refl

covers_without : (trees : Covers) (gone : Option Inode) → without_cover trees gone ≡ without_row trees gone
covers_without trees None = refl
covers_without trees (Some t) = refl

-- a table with a home of an inode has that of a directory, and each other as before
module _ (homes : Homes) (dentry : Dentry) (inode : Inode) where
  pub with_here : is_dir_kind inode.kind ≡ true → map.get (with_home homes dentry inode) inode.ino.0 ≡ Some (home_at dentry)
  with_here kinded = dir_here homes _ inode _ (get_put_home homes inode.ino.0 (home_at dentry)) kinded

  pub with_differ : Differ homes (with_home homes dentry inode) inode
  with_differ = dir_differ homes _ inode (get_beside_home homes inode.ino.0 (home_at dentry))

  pub with_dir : is_dir_kind inode.kind ≡ true → with_home homes dentry inode ≡ map.insert homes inode.ino.0 (home_at dentry)
  with_dir kinded = ap (λ b. cond b (map.insert homes inode.ino.0 (home_at dentry)) homes) kinded

  pub with_file : is_dir_kind inode.kind ≡ false → with_home homes dentry inode ≡ homes
  with_file kinded = ap (λ b. cond b (map.insert homes inode.ino.0 (home_at dentry)) homes) kinded

-- the homes of a tree's directories are rows that hold them
abbrev pub home_value : Dentry → Inode → Option Home
home_value dentry inode = Some (home_at dentry)

pub homes_held : (tree : Tree) (homes : Homes) → HoldsHomes tree homes → Holds home_value tree homes
homes_held tree homes holds = record { listed = holds.listed; stands = λ d home is. let w = holds.stands d home is in (dentry_at home, w.0, w.1, w.2, w.3) }

pub held_homes : (tree : Tree) (homes : Homes) → Holds home_value tree homes → HoldsHomes tree homes
held_homes tree homes holds = record {
  listed = holds.listed;
  stands = λ d home is.
      let w = holds.stands d home is in
      let homes_are : Some (home_at w.0) ≡ Some home = sym (holds.listed w.0 w.1 w.2 w.4) ∙ ap (map.get homes) w.3 ∙ is in
      let same : home_at w.0 ≡ home = cc in
      (w.1, ap (λ (h : Home). map.get tree (dentry_at h)) (sym same) ∙ w.2, w.3, w.4);
}

-- the empty tree has the root alone
abbrev no_entries : Tree
no_entries = map.empty

pub empty_tabled : IsTabled no_entries map.empty
empty_tabled = record {
  whole = record {
    rootless = λ d name inode h one. nothing (dentry_of d name) inode h;
    once = λ d d' name name' inode inode' h h' same. absurd (nothing (dentry_of d name) inode h);
    parents = λ d name inode h. absurd (nothing (dentry_of d name) inode h);
    rooted = λ d name inode h. absurd (nothing (dentry_of d name) inode h);
    sizes = λ d name inode h. absurd (nothing (dentry_of d name) inode h);
    pins = λ d name inode h. absurd (nothing (dentry_of d name) inode h);
  };
  holds = record {
    listed = λ dentry inode h kinded. absurd (nothing dentry inode h);
    stands = λ d home is. let clash : None ≡ Some home = sym (get-empty nat_cmp d) ∙ is in absurd cc;
  };
}
  where
    nothing : (dentry : Dentry) (inode : Inode) → map.get no_entries dentry ≡ Some inode → ⊥
    nothing dentry inode h = let clash : None ≡ Some inode = sym (get-empty dentry_cmp dentry) ∙ h in cc

-- a directory may come into the table where its inode may come into the tree
pub may_come : (tree : Tree) (homes : Homes) (dentry : Dentry) (inode : Inode) → IsTabled tree homes → MayAdd tree dentry inode → MayCome homes inode.ino.0 (home_at dentry)
may_come tree homes dentry inode tabled may = record {
  other = may.unused.not_root;
  fresh = none_unused home_value tree homes (homes_held tree homes tabled.holds) inode.ino.0 may.unused;
  parent_known = known_is tree homes tabled dentry.dir.0 ∙ may.parent;
}

-- a new inode has no pin, which its kind allows
pub no_pin : (tree : Tree) (dentry : Dentry) (inode : Inode) → MayAdd tree dentry inode → HasPinOf inode.kind inode.pin
no_pin tree dentry inode may = subst (HasPinOf inode.kind) (sym may.unpinned) tt

-- a new inode comes in
pub added_tabled : (tree : Tree) (homes : Homes) (dentry : Dentry) (inode : Inode) → IsTabled tree homes → MayAdd tree dentry inode → IsTabled (map.insert tree dentry inode) (with_home homes dentry inode)
added_tabled tree homes dentry inode tabled may = record {
  whole = well-formed-grown tree dentry.dir.0 dentry.name inode may.free tabled.whole may.parent may.unused.not_root may.unused.not_there may.sized (no_pin tree dentry inode may);
  holds = held_homes _ _ (put_held home_value tree homes tabled.whole (homes_held tree homes tabled.holds) _ dentry inode (with_differ homes dentry inode) (with_here homes dentry inode)
      (λ q x apart stands. may.unused.not_there q.dir.0 q.name x stands) (λ x stands. let clash : None ≡ Some x = sym may.free ∙ stands in absurd cc));
}

-- what stood where an inode is altered has its number and its kind
pub alike_before : (tree : Tree) (dentry : Dentry) (inode : Inode) → MaySet tree dentry inode → (x : Inode) → map.get tree dentry ≡ Some x → (x.ino.0 ≡ inode.ino.0) × (is_dir_kind x.kind ≡ is_dir_kind inode.kind)
alike_before tree dentry inode may x stands =
    subst (λ (i : Inode). (i.ino.0 ≡ inode.ino.0) × (is_dir_kind i.kind ≡ is_dir_kind inode.kind)) (one_inode tree dentry dentry may.before x refl may.stands stands) (sym (ap (λ (n : _). n.0) may.number), sym (ap is_dir_kind may.kind))

-- an inode is altered
pub set_tabled : (tree : Tree) (homes : Homes) (dentry : Dentry) (inode : Inode) → IsTabled tree homes → MaySet tree dentry inode → IsTabled (map.insert tree dentry inode) homes
set_tabled tree homes dentry inode tabled may = record {
  whole = well-formed-changed tree dentry may.before inode may.stands may.number may.kind tabled.whole
      (may.sized (tabled.whole.sizes dentry.dir.0 dentry.name may.before may.stands)) (may.pinned (tabled.whole.pins dentry.dir.0 dentry.name may.before may.stands));
  holds = held_homes _ _ (put_held home_value tree homes tabled.whole (homes_held tree homes tabled.holds) homes dentry inode (λ q apart. refl)
      (λ dir. ap (map.get homes) numbers ∙ tabled.holds.listed dentry may.before may.stands (sym (ap is_dir_kind may.kind) ∙ dir))
      (λ q x apart stands same. apart (one_dentry tree tabled.whole q dentry x may.before stands may.stands (same ∙ numbers)))
      (alike_before tree dentry inode may));
}
  where
    numbers : inode.ino.0 ≡ may.before.ino.0
    numbers = ap (λ (n : _). n.0) may.number

-- nothing is in an inode that may go
pub nothing_in : (tree : Tree) (dentry : Dentry) (inode : Inode) → IsWellFormed tree → map.get tree dentry ≡ Some inode → (is_dir_kind inode.kind && has_entries tree inode.ino.0) ≡ false → NothingIn tree inode.ino.0
nothing_in tree dentry inode whole stands empty =
    ⊎_elim (λ kinded. nothing_in_empty tree inode.ino.0 (sym (ap (λ b. b && has_entries tree inode.ino.0) kinded) ∙ empty)) (nothing_in_file tree dentry inode whole stands) (dir_or_not inode)

-- what nothing is in is no one's parent
pub childless : (tree : Tree) (homes : Homes) (d : ℕ) → IsTabled tree homes → NothingIn tree d → IsChildless homes d
childless tree homes d tabled nothing x home is same = let w = tabled.holds.stands x home is in nothing (dentry_at home) w.0 w.1 same

pub may_drop : (tree : Tree) (homes : Homes) (dentry : Dentry) (found : Option Inode) → map.get tree dentry ≡ found → IsTabled tree homes → MayRemove tree dentry
    → (gone : Inode) → found ≡ Some gone → is_dir_kind gone.kind ≡ true → MayGo homes gone.ino.0
may_drop tree homes dentry found at_dentry tabled may gone is kinded =
    subst (λ (i : Inode). MayGo homes i.ino.0) (one_inode tree dentry dentry may.inode gone refl may.stands (at_dentry ∙ is)) (record {
      other = tabled.whole.rootless dentry.dir.0 dentry.name may.inode may.stands;
      childless = childless tree homes may.inode.ino.0 tabled (nothing_in tree dentry may.inode tabled.whole may.stands may.empty);
    })

-- an entry goes
pub removed_tabled : (tree : Tree) (homes : Homes) (dentry : Dentry) (found : Option Inode) → map.get tree dentry ≡ found → IsTabled tree homes → MayRemove tree dentry
    → IsTabled (map.remove tree dentry) (without_home homes found)
removed_tabled tree homes dentry found at_dentry tabled may = record {
  whole = well-formed-removed tree dentry may.inode may.stands (nothing_in tree dentry may.inode tabled.whole may.stands may.empty) tabled.whole;
  holds = subst (λ o. HoldsHomes (map.remove tree dentry) (without_home homes o)) (sym may.stands ∙ at_dentry)
      (held_homes _ _ (removed_held home_value tree homes tabled.whole (homes_held tree homes tabled.holds) dentry may.inode may.stands));
}

-- where an inode goes, the table loses its leaves alone, if it is a directory: each directory that stands then keeps its own
pub leaves_kept : (old tree : Tree) (homes rest : Homes) (trees new : Covers) (dentry : Dentry) (gone : Option Inode) → IsTabled tree homes → IsWellFormed old → gone ≡ map.get old dentry → homes ≡ without_home rest gone → new ≡ without_cover trees gone
    → KeepLeaves tree trees new
leaves_kept old tree homes rest trees new dentry gone tabled whole stood left is d stands = ap (λ c. leaves_of c d) (is ∙ covers_without trees gone) ∙ ap or_whole (left_beside trees gone d spared)
  where
    spared : Spares gone d
    spared t one kinded same =
        let went : map.get homes d ≡ None = ap (map.get homes) same ∙ ap (λ h. map.get h t.ino.0) (left ∙ ap (without_home rest) one) ∙ dir_here rest _ t None (get_removed_home rest t.ino.0) kinded in
        ⊎_elim (λ root. whole.rootless dentry.dir.0 dentry.name t (sym stood ∙ one) (sym same ∙ eqb-true d 1 root)) (λ some. let clash : false ≡ true = sym (ap is_some went) ∙ some in cc)
        (or_cases (d == 1) (is_some (map.get homes d)) (known_is tree homes tabled d ∙ stands))

-- where no leaves are set or lost, each directory keeps its own
pub leaves_same : (tree : Tree) (trees new : Covers) → new ≡ trees → KeepLeaves tree trees new
leaves_same tree trees new is d stands = ap (λ c. leaves_of c d) is
