-- A well-formed tree stays so where an inode gets other attributes.
use Rattle.std.specs.Prelude.{◌≡◌, ℕ, true, ◌⊎◌, Some, refl}
use Rattle.std.proofs.Common.{sym, ap, subst, ◌∙◌, ⊎_elim, inl, inr}
use Rattle.std.specs.FinMap as map
use Rattle.mds_types.specs.declared.dentries.Dentry.{Dentry}
use Rattle.mds_types.specs.declared.inodes.Inode.{Inode}
use Rattle.mds_types.specs.Tree.{Tree, dentry_of, is_directory, is_dir_kind, IsAbove, child, further, HasPinOf, HasSize, IsWellFormed}
use Rattle.mds_types.proofs.EntryLaws.{get_put, get_beside, stands_after_put, same_or_apart}
use Rattle.mds_types.proofs.DirectoryLaws.{StandsAs, directory_stands, root_stands, entry_stands}

module _ (tree : Tree) (dentry : Dentry) (before later : Inode) (stood : map.get tree dentry ≡ Some before) (numbered : later.ino ≡ before.ino) (kinded : later.kind ≡ before.kind) where
  abbrev changed : Tree
  changed = map.insert tree dentry later

  -- an inode of the same number and kind stands at a dentry
  record Stands (t : Tree) (q : Dentry) (x : Inode) : Type 0 where
    pub inode : Inode
    pub stands : map.get t q ≡ Some inode
    pub number : inode.ino ≡ x.ino
    pub kind : inode.kind ≡ x.kind

  was : (q : Dentry) (x : Inode) → map.get changed q ≡ Some x → Stands tree q x
  was q x stands =
      ⊎_elim
      (λ w. record {
        inode = before;
        stands = ap (λ p. map.get tree p) w.0 ∙ stood;
        number = sym numbered ∙ ap (λ (i : Inode). i.ino) w.1;
        kind = sym kinded ∙ ap (λ (i : Inode). i.kind) w.1;
      })
      (λ w. record { inode = x; stands = w.1; number = refl; kind = refl }) (stands_after_put tree dentry later q x stands)

  is : (q : Dentry) (x : Inode) → map.get tree q ≡ Some x → Stands changed q x
  is q x stands = go (same_or_apart q dentry)
    where
      go : (q ≡ dentry) ⊎ (q ≡ dentry → ⊥) → Stands changed q x
      go (inl same) =
          let inodes : Some before ≡ Some x = sym stood ∙ ap (λ p. map.get tree p) (sym same) ∙ stands in
          let alike : before ≡ x = cc in
          record {
            inode = later;
            stands = ap (λ p. map.get changed p) same ∙ get_put tree dentry later;
            number = numbered ∙ ap (λ (i : Inode). i.ino) alike;
            kind = kinded ∙ ap (λ (i : Inode). i.kind) alike;
          }
      go (inr apart) = record { inode = x; stands = get_beside tree dentry later q apart ∙ stands; number = refl; kind = refl }

  still_directory : (d : ℕ) → is_directory tree d ≡ true → is_directory changed d ≡ true
  still_directory d here =
      ⊎_elim (λ root. ap (is_directory changed) root ∙ root_stands changed)
      (λ (w : StandsAs tree d).
      let now = is w.dentry w.inode w.stands in
      ap (is_directory changed) (sym (ap (λ (i : _). i.0) now.number ∙ w.numbered))
      ∙ entry_stands changed w.dentry now.inode now.stands (ap is_dir_kind now.kind ∙ w.kinded)) (directory_stands tree d here)

  still_above : (x : ℕ) → IsAbove tree 1 x → IsAbove changed 1 x
  still_above _ (child name inode stands) =
      let now = is (dentry_of 1 name) inode stands in
      subst (λ (i : _). IsAbove changed 1 i.0) now.number (child name now.inode now.stands)
  still_above _ (further m name inode above stands) =
      let now = is (dentry_of m name) inode stands in
      subst (λ (i : _). IsAbove changed 1 i.0) now.number (further m name now.inode (still_above m above) now.stands)

  pub well-formed-changed : IsWellFormed tree → HasSize later.kind later.size → HasPinOf later.kind later.pin → IsWellFormed changed
  well-formed-changed whole sized pinned = record {
    rootless = λ d name inode h one. let w = was (dentry_of d name) inode h in whole.rootless d name w.inode w.stands (ap (λ (i : _). i.0) w.number ∙ one);
    once = λ d d' name name' inode inode' h h' same.
        let w = was (dentry_of d name) inode h in
        let w' = was (dentry_of d' name') inode' h' in
        whole.once d d' name name' w.inode w'.inode w.stands w'.stands (w.number ∙ same ∙ sym w'.number);
    parents = λ d name inode h. let w = was (dentry_of d name) inode h in still_directory d (whole.parents d name w.inode w.stands);
    rooted = λ d name inode h. let w = was (dentry_of d name) inode h in ⊎_elim inl (λ above. inr (still_above d above)) (whole.rooted d name w.inode w.stands);
    sizes = λ d name inode h.
        ⊎_elim (λ w. subst (λ (i : Inode). HasSize i.kind i.size) w.1 sized) (λ w. whole.sizes d name inode w.1) (stands_after_put tree dentry later (dentry_of d name) inode h);
    pins = λ d name inode h.
        ⊎_elim (λ w. subst (λ (i : Inode). HasPinOf i.kind i.pin) w.1 pinned) (λ w. whole.pins d name inode w.1) (stands_after_put tree dentry later (dentry_of d name) inode h);
  }
