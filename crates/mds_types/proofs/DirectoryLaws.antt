-- Directories of the plain tree: which numbers they are, what is in them, and that they reach the root.
use Rattle.std.specs.Prelude.{◌≡◌, ℕ, true, false, ◌==◌, ◌⊎◌, Some, refl}
use Rattle.std.specs.List.{list_any}
use Rattle.std.proofs.Common.{sym, ap, subst, ◌∙◌, ⊎_elim, inl, inr}
use Rattle.std.proofs.lemmas.Bool.{eqb-true, and_from, and_parts, or_cases, or_right}
use Rattle.std.specs.FinMap as map
use Rattle.std.specs.FinMap.{get-entries}
use Rattle.mds_types.specs.declared.dentries.Dentry.{Dentry}
use Rattle.mds_types.specs.declared.inodes.Inode.{Inode}
use Rattle.mds_types.specs.Tree.{Tree, at, is_directory, is_entry_of_directory, is_dir_kind, has_entries, IsAbove, child, further, IsWellFormed, NothingIn}
use Rattle.mds_types.proofs.OrderLaws.{dentry-total}
use Rattle.mds_types.proofs.EntryLaws.{any_of}
use Rattle.mds_types.proofs.EntrySearch.{any_found}
use Rattle.sorted_map.proofs.NatKeys.{is_same}

-- no number stands at two dentries
pub one_dentry : (tree : Tree) → IsWellFormed tree → (p q : Dentry) (i j : Inode) → map.get tree p ≡ Some i → map.get tree q ≡ Some j → i.ino.0 ≡ j.ino.0 → p ≡ q
one_dentry tree whole p q i j here there same =
    let parts = whole.once p.dir.0 q.dir.0 p.name q.name i j here there (λ k. record { 0 = same k }) in
    λ k. record { dir = record { 0 = parts.0 k }; name = parts.1 k }

-- a directory of this number stands as an entry
pub record StandsAs (tree : Tree) (d : ℕ) : Type 0 where
  pub dentry : Dentry
  pub inode : Inode
  pub stands : map.get tree dentry ≡ Some inode
  pub numbered : inode.ino.0 ≡ d
  pub kinded : is_dir_kind inode.kind ≡ true

-- a directory is the root, or stands as an entry
pub directory_stands : (tree : Tree) (d : ℕ) → is_directory tree d ≡ true → (d ≡ 1) ⊎ StandsAs tree d
unfolding is_directory
directory_stands tree d here =
    ⊎_elim (λ one. inl (eqb-true d 1 one))
    (λ some.
    let w = any_found dentry-total (is_entry_of_directory d) (map.entries tree) (map.entries_sorted tree) some in
    inr (record {
      dentry = w.0.0;
      inode = w.0.1;
      stands = get-entries tree w.0.0 ∙ w.1;
      numbered = eqb-true w.0.1.ino.0 d (and_parts _ _ w.2).1;
      kinded = (and_parts _ _ w.2).0;
    }))
    (or_cases (d == 1) (list_any (is_entry_of_directory d) (map.entries tree)) here)

-- the root is a directory
pub root_stands : (tree : Tree) → is_directory tree 1 ≡ true
unfolding is_directory
root_stands tree = refl

-- an entry that is a directory is one of the tree
pub entry_stands : (tree : Tree) (dentry : Dentry) (inode : Inode) → map.get tree dentry ≡ Some inode → is_dir_kind inode.kind ≡ true → is_directory tree inode.ino.0 ≡ true
unfolding is_directory
entry_stands tree dentry inode stands kinded =
    or_right (inode.ino.0 == 1) _ (any_of tree (is_entry_of_directory inode.ino.0) dentry inode stands (and_from _ _ kinded (is_same inode.ino.0 inode.ino.0 refl)))

-- a directory with an entry has entries
pub entries_there : (tree : Tree) (dentry : Dentry) (inode : Inode) → map.get tree dentry ≡ Some inode → has_entries tree dentry.dir.0 ≡ true
unfolding has_entries
entries_there tree dentry inode stands = any_of tree (λ e. e.0.dir.0 == dentry.dir.0) dentry inode stands (is_same dentry.dir.0 dentry.dir.0 refl)

-- and where it has some, one stands there
pub entry_in : (tree : Tree) (d : ℕ) → has_entries tree d ≡ true → (e : Dentry × Inode) × (map.get tree e.0 ≡ Some e.1) × (e.0.dir.0 ≡ d)
unfolding has_entries
entry_in tree d some =
    let w = any_found dentry-total (λ (e : Dentry × Inode). e.0.dir.0 == d) (map.entries tree) (map.entries_sorted tree) some in
    (w.0, get-entries tree w.0.0 ∙ w.1, eqb-true w.0.0.dir.0 d w.2)

-- nothing is in a directory that has no entries
pub nothing_in_empty : (tree : Tree) (d : ℕ) → has_entries tree d ≡ false → NothingIn tree d
nothing_in_empty tree d none q x stands same = let clash : true ≡ false = sym (entries_there tree q x stands) ∙ ap (has_entries tree) same ∙ none in cc

-- what is no directory is no directory's number either
pub no_directory : (tree : Tree) (dentry : Dentry) (inode : Inode) → IsWellFormed tree → map.get tree dentry ≡ Some inode → is_dir_kind inode.kind ≡ false → is_directory tree inode.ino.0 ≡ true → ⊥
no_directory tree dentry inode whole stands kinded here =
    ⊎_elim (λ root. whole.rootless dentry.dir.0 dentry.name inode stands root)
    (λ (w : StandsAs tree inode.ino.0).
    let alike : w.dentry ≡ dentry = one_dentry tree whole w.dentry dentry w.inode inode w.stands stands w.numbered in
    let inodes : Some w.inode ≡ Some inode = sym w.stands ∙ ap (λ p. map.get tree p) alike ∙ stands in
    let same : w.inode ≡ inode = cc in
    let clash : true ≡ false = sym w.kinded ∙ ap (λ (i : Inode). is_dir_kind i.kind) same ∙ kinded in
    cc)
    (directory_stands tree inode.ino.0 here)

-- nothing is in what is no directory
pub nothing_in_file : (tree : Tree) (dentry : Dentry) (inode : Inode) → IsWellFormed tree → map.get tree dentry ≡ Some inode → is_dir_kind inode.kind ≡ false → NothingIn tree inode.ino.0
nothing_in_file tree dentry inode whole stands kinded q x there same =
    no_directory tree dentry inode whole stands kinded (ap (is_directory tree) (sym same) ∙ whole.parents q.dir.0 q.name x there)

-- what has nothing in it is above nothing
pub above_nothing : (tree : Tree) (d x : ℕ) → NothingIn tree d → IsAbove tree d x → ⊥
above_nothing tree d _ nothing (child name inode stands) = nothing (record { dir = record { 0 = d }; name = name }) inode stands refl
above_nothing tree d _ nothing (further m name inode above stands) = above_nothing tree d m nothing above

-- a directory of a well-formed tree reaches the root
pub reaches_root : (tree : Tree) (d : ℕ) → IsWellFormed tree → is_directory tree d ≡ true → (d ≡ 1) ⊎ IsAbove tree 1 d
reaches_root tree d whole here =
    ⊎_elim inl
    (λ (w : StandsAs tree d). inr (subst (λ x. IsAbove tree 1 x) w.numbered
    (⊎_elim (λ top. child w.dentry.name w.inode (ap (λ m. at tree m w.dentry.name) (sym top) ∙ w.stands)) (λ above. further w.dentry.dir.0 w.dentry.name w.inode above w.stands)
    (whole.rooted w.dentry.dir.0 w.dentry.name w.inode w.stands))))
    (directory_stands tree d here)
