-- Entries that are counted one by one, and their pins.
use Rattle.inode_table.proofs.Common.{Counts, Dentry, DirPins, Homes, Inode, IsCounted, IsTabled, List, None, Rank, Some, T, Tree, [], ap, arith, cond, count_of, dentry-exact, dentry-total, dentry_cmp, entries_go, entries_sorted, find, first_taken, get-empty, get-from_sorted, get_left, inl, inr, is_dir_kind, is_eq, is_in, is_known, is_some, is_sorted, len-entries, len_shown, length, none_in_empty, one_dentry, one_more, refl, retained, some_in, stands_after_removal, subst, sym, tied_itself, true, where_key, with_dir_pin, ℕ, ⊎_elim, ◌+◌, ◌-◌, ◌<◌, ◌^◌, ◌∙◌, ◌∷◌, ◌≡◌, ◌≤◌, ◌⊎◌}
use Rattle.std.specs.FinMap as map
use Rattle.std.specs.Prelude.{not}
use Rattle.sorted_map.proofs.ContentLaws.{empty_shown}
use Rattle.sorted_map.proofs.MapLaws.{contents-entries}
use Rattle.std.proofs.lemmas.List.Filters.{length-filter_both}
use Rattle.mds_types.specs.Tree.{entries_in}
use Rattle.mds_types.proofs.EntryLaws.{same_or_apart}
use Rattle.inode_table.proofs.CountedLaws.{count_set}
use Rattle.inode_table.proofs.HeldRows.{Stands, back, one_inode}
use Rattle.inode_table.proofs.PinLaws.{pin_differ, pin_here}
use Rattle.inode_table.proofs.TableLaws.{home_of, known_is}

-- ---- pairs in order, one by one

abbrev pub Entries : Type 0
Entries = List (Dentry × Inode)

-- the tree of entries that are left
abbrev pub rest_of : Entries → Tree
rest_of left = map.from_sorted left

-- ---- a directory has no more entries than the tree

pub within_tree : (tree : Tree) (d : ℕ) → entries_in tree d ≤ map.len tree
unfolding entries_in
within_tree tree d =
    let kept : Entries = where_key dentry_cmp (is_in d) (map.entries tree) in
    let both = retained dentry-total dentry-exact (is_in d) (map.entries tree) kept (entries_sorted tree) refl in
    let passed : map.len (map.retain_keys tree (is_in d)) ≡ length kept =
    ap (λ (m : Tree). map.len (map.retain_keys m (is_in d))) (sym (contents-entries tree)) ∙ ap (λ (m : Tree). map.len m) (sym both.1) ∙ sym (len_shown dentry_cmp kept both.0) in
    omega (arith, passed, length-filter_both (λ (e : Dentry × Inode). is_in d e.0) (λ e. not (is_in d e.0)) (λ e. refl) (map.entries tree), len-entries tree)

-- ---- the entries before some were counted

pub record IsCountedTo (tree : Tree) (left : Entries) (counts : Counts) (pins : DirPins) : Type 0 where
  pub sorted : T (is_sorted dentry_cmp left)
  pub each : (d : ℕ) → count_of counts d + entries_in (rest_of left) d ≡ entries_in tree d
  pub within : (q : Dentry) (x : Inode) → map.get (rest_of left) q ≡ Some x → map.get tree q ≡ Some x
  pub listed : (q : Dentry) (x : Inode) → map.get tree q ≡ Some x → is_dir_kind x.kind ≡ true → (map.get (rest_of left) q ≡ Some x) ⊎ (map.get pins x.ino.0 ≡ x.pin)
  pub stands : (d : ℕ) (rank : Rank) → map.get pins d ≡ Some rank → Stands tree d

-- none was
pub counted_none : (tree : Tree) (left : Entries) (counts : Counts) (pins : DirPins) → left ≡ map.entries tree → IsCounted map.empty counts pins → IsCountedTo tree left counts pins
counted_none tree left counts pins all none = subst (λ (es : Entries). IsCountedTo tree es counts pins) (sym all) (record {
  sorted = entries_sorted tree;
  each = λ d. omega (arith, none.each d, none_in_empty d, ap (λ (t : Tree). entries_in t d) (contents-entries tree));
  within = λ q x is. ap (λ (t : Tree). map.get t q) (sym (contents-entries tree)) ∙ is;
  listed = λ q x is kinded. inl (ap (λ (t : Tree). map.get t q) (contents-entries tree) ∙ is);
  stands = λ d rank is.
      let w = none.pinned.stands d rank is in
      let clash : None ≡ Some w.1 = sym (get-empty dentry_cmp w.0) ∙ w.2 in
      absurd cc;
})

-- all were
pub counted_all : (tree : Tree) (left : Entries) (counts : Counts) (pins : DirPins) → left ≡ [] → IsCountedTo tree left counts pins → IsCounted tree counts pins
counted_all tree left counts pins none to = record {
  each = λ d. omega (arith, to.each d, ap (λ (t : Tree). entries_in t d) is_empty, none_in_empty d);
  pinned = record {
    listed = λ q x stands kinded.
        ⊎_elim (λ more. let clash : None ≡ Some x = sym (get-empty dentry_cmp q) ∙ ap (λ (t : Tree). map.get t q) (sym is_empty) ∙ more in absurd cc) (λ pinned. pinned) (to.listed q x stands kinded);
    stands = to.stands;
  };
}
  where
    is_empty : rest_of left ≡ map.empty
    is_empty = empty_shown dentry_cmp left (subst (λ es. T (is_sorted dentry_cmp es)) (sym none) tt) (ap length none)

module _ (tree : Tree) (homes : Homes) (tabled : IsTabled tree homes) (left more : Entries) (e : Dentry × Inode) (counts : Counts) (pins : DirPins) (next : left ≡ e ∷ more) (before : IsCountedTo tree left counts pins) where
  to : IsCountedTo tree (e ∷ more) counts pins
  to = subst (λ (es : Entries). IsCountedTo tree es counts pins) next before

  in_rest : map.get (rest_of (e ∷ more)) e.0 ≡ Some e.1
  in_rest = get-from_sorted dentry_cmp (e ∷ more) e.0 to.sorted ∙ ap (λ r. cond (is_eq r) (Some e.1) (find dentry_cmp e.0 more)) (tied_itself dentry-total e.0)

  in_tree : map.get tree e.0 ≡ Some e.1
  in_tree = to.within e.0 e.1 in_rest

  taken : T (is_sorted dentry_cmp more) × (rest_of more ≡ map.remove (rest_of (e ∷ more)) e.0)
  taken = first_taken dentry-total dentry-exact (e ∷ more) more e to.sorted (omega arith) refl refl

  -- the next one's directory is there, its count has 64 bits with it, and it is there itself if it is one
  pub next_known : is_known homes e.0.dir.0 ≡ true
  next_known = known_is tree homes tabled e.0.dir.0 ∙ tabled.whole.parents e.0.dir.0 e.0.name e.1 in_tree

  pub next_few : map.len tree < 2 ^ 64 → count_of counts e.0.dir.0 < 2 ^ 64 - 1
  next_few fits = omega (arith, to.each e.0.dir.0, some_in (rest_of (e ∷ more)) e.0 e.1 in_rest, within_tree tree e.0.dir.0, fits)

  pub next_listed : is_dir_kind e.1.kind ≡ true → is_some (map.get homes e.1.ino.0) ≡ true
  next_listed kinded = ap is_some (home_of tree homes tabled e.0 e.1 e.1.ino.0 in_tree refl kinded)

  one_counted : (d : ℕ) → count_of (one_more counts e.0.dir.0) d + entries_in (rest_of more) d ≡ entries_in tree d
  one_counted d =
      let now = ap (λ (t : Tree). entries_in t d) taken.1 ∙ entries_go (rest_of (e ∷ more)) d e.0 e.1 in_rest in
      grind (arith, to.each d, now, count_set counts e.0.dir.0 (count_of counts e.0.dir.0 + 1) d, some_in (rest_of (e ∷ more)) e.0 e.1 in_rest)

  -- the next one is counted
  pub counted_next : IsCountedTo tree more (one_more counts e.0.dir.0) (with_dir_pin pins e.1)
  counted_next = record {
    sorted = taken.0;
    each = one_counted;
    within = λ q x is. to.within q x (stands_after_removal (rest_of (e ∷ more)) e.0 q x (ap (λ (t : Tree). map.get t q) (sym taken.1) ∙ is)).1;
    listed = λ q x stands kinded.
        ⊎_elim
        (λ same. inr (subst (λ (i : Inode). is_dir_kind i.kind ≡ true → map.get (with_dir_pin pins e.1) i.ino.0 ≡ i.pin) (one_inode tree e.0 q e.1 x (sym same) in_tree stands) (pin_here pins e.1) kinded))
        (λ apart.
        ⊎_elim (λ rest. inl (ap (λ (t : Tree). map.get t q) taken.1 ∙ get_left (rest_of (e ∷ more)) e.0 q apart ∙ rest))
        (λ pinned. inr (pin_differ pins e.1 x.ino.0 (λ k same. apart (one_dentry tree tabled.whole q e.0 x e.1 stands in_tree same)) ∙ pinned)) (to.listed q x stands kinded))
        (same_or_apart q e.0);
    stands = λ d rank is. ⊎_elim (λ w. (e.0, e.1, in_tree, sym w.0, w.1)) (λ w. to.stands d rank w.1) (back pins _ e.1 (pin_differ pins e.1) d rank is);
  }
