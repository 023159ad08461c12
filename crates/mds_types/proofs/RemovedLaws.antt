-- A well-formed tree stays so where an entry goes that has nothing in it.
use Rattle.std.specs.Prelude.{◌≡◌, ℕ, true, ◌⊎◌, Some}
use Rattle.std.proofs.Common.{sym, ap, ◌∙◌, ⊎_elim, inl, inr}
use Rattle.std.specs.FinMap as map
use Rattle.mds_types.specs.declared.dentries.Dentry.{Dentry}
use Rattle.mds_types.specs.declared.inodes.Inode.{Inode}
use Rattle.mds_types.specs.Tree.{Tree, at, dentry_of, is_directory, IsAbove, child, further, IsWellFormed, NothingIn}
use Rattle.mds_types.proofs.EntryLaws.{get_left, stands_after_removal, same_or_apart}
use Rattle.mds_types.proofs.DirectoryLaws.{StandsAs, directory_stands, root_stands, entry_stands}

module _ (tree : Tree) (dentry : Dentry) (gone : Inode) (stood : map.get tree dentry ≡ Some gone) (nothing : NothingIn tree gone.ino.0) where
  abbrev left : Tree
  left = map.remove tree dentry

  -- an entry of another number stays
  still : (q : Dentry) (x : Inode) → map.get tree q ≡ Some x → (gone.ino.0 ≡ x.ino.0 → ⊥) → map.get left q ≡ Some x
  still q x stands other = go (same_or_apart q dentry)
    where
      go : (q ≡ dentry) ⊎ (q ≡ dentry → ⊥) → map.get left q ≡ Some x
      go (inl same) =
          let inodes : Some gone ≡ Some x = sym stood ∙ ap (λ p. map.get tree p) (sym same) ∙ stands in
          let alike : gone ≡ x = cc in
          absurd (other (ap (λ (i : Inode). i.ino.0) alike))
      go (inr apart) = get_left tree dentry q apart ∙ stands

  -- a directory with an entry isn't the one that goes
  not_gone : (q : Dentry) (x : Inode) → map.get tree q ≡ Some x → gone.ino.0 ≡ q.dir.0 → ⊥
  not_gone q x stands same = nothing q x stands (sym same)

  still_directory : (d : ℕ) → (gone.ino.0 ≡ d → ⊥) → is_directory tree d ≡ true → is_directory left d ≡ true
  still_directory d other here =
      ⊎_elim (λ root. ap (is_directory left) root ∙ root_stands left)
      (λ (w : StandsAs tree d). ap (is_directory left) (sym w.numbered) ∙ entry_stands left w.dentry w.inode (still w.dentry w.inode w.stands (λ same. other (same ∙ w.numbered))) w.kinded)
      (directory_stands tree d here)

  still_above : (x : ℕ) → (gone.ino.0 ≡ x → ⊥) → IsAbove tree 1 x → IsAbove left 1 x
  still_above _ other (child name inode stands) = child name inode (still (dentry_of 1 name) inode stands other)
  still_above _ other (further m name inode above stands) =
      further m name inode (still_above m (not_gone (dentry_of m name) inode stands) above) (still (dentry_of m name) inode stands other)

  pub well-formed-removed : IsWellFormed tree → IsWellFormed left
  well-formed-removed whole = record {
    rootless = λ d name inode h. whole.rootless d name inode (before d name inode h);
    once = λ d d' name name' inode inode' h h'. whole.once d d' name name' inode inode' (before d name inode h) (before d' name' inode' h');
    parents = λ d name inode h. still_directory d (not_gone (dentry_of d name) inode (before d name inode h)) (whole.parents d name inode (before d name inode h));
    rooted = λ d name inode h.
        ⊎_elim inl (λ above. inr (still_above d (not_gone (dentry_of d name) inode (before d name inode h)) above)) (whole.rooted d name inode (before d name inode h));
    sizes = λ d name inode h. whole.sizes d name inode (before d name inode h);
    pins = λ d name inode h. whole.pins d name inode (before d name inode h);
  }
    where
      before : (d : ℕ) (name : _) (inode : Inode) → at left d name ≡ Some inode → at tree d name ≡ Some inode
      before d name inode h = (stands_after_removal tree dentry (dentry_of d name) inode h).1
