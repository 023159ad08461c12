-- Rows by number that hold something of each directory of a tree: they do so still where an entry comes, is altered, goes or moves.
use Rattle.std.proofs.Common.{◌≡◌, ℕ, true, false, cond, Option, Some, None, ◌⊎◌, inl, inr, ⊎_elim, refl, sym, ap, subst, ◌∙◌}
use Rattle.std.proofs.lemmas.Bool.{cases_Bool}
use Rattle.std.specs.Ordering.{nat_cmp}
use Rattle.std.specs.FinMap as map
use Rattle.mds_types.specs.declared.dentries.Dentry.{Dentry}
use Rattle.mds_types.specs.declared.inodes.Inode.{Inode}
use Rattle.mds_types.specs.Tree.{Tree, is_dir_kind, IsUnused, IsWellFormed}
use Rattle.mds_types.specs.Step.{with_moved}
use Rattle.mds_types.proofs.DirectoryLaws.{one_dentry}
use Rattle.mds_types.proofs.EntryLaws.{get_put, get_beside, get_left, stands_after_put, stands_after_removal}
use Rattle.mds_types.proofs.MovedLaws.{MayMove, stands_moved, still_moved, arrived}
use Rattle.sorted_map.proofs.NatKeys.{get_removed as get_removed_row, get_left as get_left_row, same_or_apart as same_number}
use Rattle.inode_table.specs.TreeTable.{without_row}

-- two that stand at one dentry are one
pub one_inode : (tree : Tree) (p q : Dentry) (x y : Inode) → p ≡ q → map.get tree p ≡ Some x → map.get tree q ≡ Some y → x ≡ y
one_inode tree p q x y same here there = let inodes : Some x ≡ Some y = sym here ∙ ap (λ d. map.get tree d) same ∙ there in cc

-- a directory of the tree has this number
abbrev pub Stands : Tree → ℕ → Type 0
Stands tree d = (dentry : Dentry) × (inode : Inode) × (map.get tree dentry ≡ Some inode) × (inode.ino.0 ≡ d) × (is_dir_kind inode.kind ≡ true)

-- each directory of the tree has its value, and only a directory has one
pub record Holds {X : Type 0} (value : Dentry → Inode → Option X) (tree : Tree) (rows : map.FinMap nat_cmp X) : Type 0 where
  pub listed : (dentry : Dentry) (inode : Inode) → map.get tree dentry ≡ Some inode → is_dir_kind inode.kind ≡ true → map.get rows inode.ino.0 ≡ value dentry inode
  pub stands : (d : ℕ) (x : X) → map.get rows d ≡ Some x → Stands tree d

-- ---- rows that differ at most at the number of an inode, and there if it is a directory

abbrev pub Differ : {X : Type 0} → map.FinMap nat_cmp X → map.FinMap nat_cmp X → Inode → Type 0
Differ rows new inode = (q : ℕ) → (is_dir_kind inode.kind ≡ true → q ≡ inode.ino.0 → ⊥) → map.get new q ≡ map.get rows q

module _ {X : Type 0} (rows changed : map.FinMap nat_cmp X) (inode : Inode) where
  abbrev pub now : map.FinMap nat_cmp X
  now = cond (is_dir_kind inode.kind) changed rows

  pub dir_here : (value : Option X) → map.get changed inode.ino.0 ≡ value → is_dir_kind inode.kind ≡ true → map.get now inode.ino.0 ≡ value
  dir_here value here kinded = ap (λ b. map.get (cond b changed rows) inode.ino.0) kinded ∙ here

  pub dir_differ : ((q : ℕ) → (q ≡ inode.ino.0 → ⊥) → map.get changed q ≡ map.get rows q) → Differ rows now inode
  dir_differ beside q apart =
      ⊎_elim (λ kinded. ap (λ b. map.get (cond b changed rows) q) kinded ∙ beside q (apart kinded)) (λ kinded. ap (λ b. map.get (cond b changed rows) q) kinded) (cases_Bool (is_dir_kind inode.kind))

-- what has a value then is the inode, or had it before
pub back : {X : Type 0} (rows new : map.FinMap nat_cmp X) (inode : Inode) → Differ rows new inode → (d : ℕ) (x : X) → map.get new d ≡ Some x
    → ((d ≡ inode.ino.0) × (is_dir_kind inode.kind ≡ true)) ⊎ ((is_dir_kind inode.kind ≡ true → d ≡ inode.ino.0 → ⊥) × (map.get rows d ≡ Some x))
back rows new inode differ d x is =
    ⊎_elim (λ kinded. ⊎_elim (λ same. inl (same, kinded)) (λ apart. before (λ k. apart)) (same_number d inode.ino.0)) (λ file. before (λ k same. let clash : true ≡ false = sym k ∙ file in cc)) (cases_Bool (is_dir_kind inode.kind))
  where
    before : (is_dir_kind inode.kind ≡ true → d ≡ inode.ino.0 → ⊥) → ((d ≡ inode.ino.0) × (is_dir_kind inode.kind ≡ true)) ⊎ ((is_dir_kind inode.kind ≡ true → d ≡ inode.ino.0 → ⊥) × (map.get rows d ≡ Some x))
    before apart = inr (apart, sym (differ d apart) ∙ is)

-- a number is not that of a directory that went
abbrev pub Spares : Option Inode → ℕ → Type 0
Spares gone q = (t : Inode) → gone ≡ Some t → is_dir_kind t.kind ≡ true → q ≡ t.ino.0 → ⊥

module _ {X : Type 0} (rows : map.FinMap nat_cmp X) where
  pub left_beside : (gone : Option Inode) (q : ℕ) → Spares gone q → map.get (without_row rows gone) q ≡ map.get rows q
  left_beside None q spared = refl
  left_beside (Some t) q spared = dir_differ rows _ t (get_left_row rows t.ino.0) q (spared t refl)

  left_back : (gone : Option Inode) (q : ℕ) (x : X) → map.get (without_row rows gone) q ≡ Some x → Spares gone q × (map.get rows q ≡ Some x)
  left_back None q x is = (λ t none. let clash : None ≡ Some t = none in absurd cc, is)
  left_back (Some t) q x is =
      ⊎_elim (λ w. let clash : None ≡ Some x = sym (dir_here rows _ t None (get_removed_row rows t.ino.0) w.1) ∙ ap (map.get (without_row rows (Some t))) (sym w.0) ∙ is in absurd cc)
      (λ w. (λ u one. let alike : t ≡ u = cc in subst (λ (i : Inode). is_dir_kind i.kind ≡ true → q ≡ i.ino.0 → ⊥) alike w.0, w.1))
      (back rows _ t (dir_differ rows _ t (get_left_row rows t.ino.0)) q x is)

-- what has an unused number has no value
pub none_unused : {X : Type 0} (value : Dentry → Inode → Option X) (tree : Tree) (rows : map.FinMap nat_cmp X) → Holds value tree rows → (n : ℕ) → IsUnused tree n → map.get rows n ≡ None
none_unused value tree rows holds n unused = go (map.get rows n) refl
  where
    go : (o : Option _) → map.get rows n ≡ o → o ≡ None
    go None is = refl
    go (Some x) is = let w = holds.stands n x is in absurd (unused.not_there w.0.dir.0 w.0.name w.1 w.2 w.3)

-- ---- the changes

module _ {X : Type 0} (value : Dentry → Inode → Option X) (tree : Tree) (rows : map.FinMap nat_cmp X) (whole : IsWellFormed tree) (holds : Holds value tree rows) where
  -- an inode is put where none stood, or one of its number and kind
  pub put_held : (new : map.FinMap nat_cmp X) (dentry : Dentry) (inode : Inode) → Differ rows new inode → (is_dir_kind inode.kind ≡ true → map.get new inode.ino.0 ≡ value dentry inode)
      → ((q : Dentry) (x : Inode) → (q ≡ dentry → ⊥) → map.get tree q ≡ Some x → x.ino.0 ≡ inode.ino.0 → ⊥)
      → ((x : Inode) → map.get tree dentry ≡ Some x → (x.ino.0 ≡ inode.ino.0) × (is_dir_kind x.kind ≡ is_dir_kind inode.kind)) → Holds value (map.insert tree dentry inode) new
  put_held new dentry inode differ here other was = record {
    listed = λ q x h dir.
        ⊎_elim (λ w. subst (λ (i : Inode). is_dir_kind i.kind ≡ true → map.get new i.ino.0 ≡ value q i) w.1 (λ k. here k ∙ ap (λ p. value p inode) (sym w.0)) dir)
        (λ w. differ x.ino.0 (λ k. other q x w.0 w.1) ∙ holds.listed q x w.1 dir) (stands_after_put tree dentry inode q x h);
    stands = λ d x is.
        ⊎_elim (λ w. (dentry, inode, get_put tree dentry inode, sym w.0, w.1))
        (λ w.
        let s = holds.stands d x w.1 in
        let before : s.0 ≡ dentry → (s.1.ino.0 ≡ inode.ino.0) × (is_dir_kind s.1.kind ≡ is_dir_kind inode.kind) = λ same. was s.1 (ap (λ p. map.get tree p) (sym same) ∙ s.2) in
        (s.0, s.1, get_beside tree dentry inode s.0 (λ same. w.0 (sym (before same).1 ∙ s.4) (sym s.3 ∙ (before same).0)) ∙ s.2, s.3, s.4))
        (back rows new inode differ d x is);
  }

  -- an entry goes
  pub removed_held : (dentry : Dentry) (gone : Inode) → map.get tree dentry ≡ Some gone → Holds value (map.remove tree dentry) (without_row rows (Some gone))
  removed_held dentry gone stood = record {
    listed = λ q x h dir.
        let before = stands_after_removal tree dentry q x h in
        left_beside rows (Some gone) x.ino.0 (λ t is kinded same. before.0 (one_dentry tree whole q dentry x t before.1 (stood ∙ is) same)) ∙ holds.listed q x before.1 dir;
    stands = λ d x is.
        let left = left_back rows (Some gone) d x is in
        let s = holds.stands d x left.1 in
        (s.0, s.1, get_left tree dentry s.0 (λ same. left.0 s.1 (sym stood ∙ ap (λ p. map.get tree p) (sym same) ∙ s.2) s.4 (sym s.3)) ∙ s.2, s.3, s.4);
  }

  -- an entry moves, and what it replaces goes
  pub moved_held : (new : map.FinMap nat_cmp X) (from to : Dentry) (inode : Inode) → MayMove tree from to inode → Differ rows new inode → (is_dir_kind inode.kind ≡ true → map.get new inode.ino.0 ≡ value to inode)
      → Holds value (with_moved tree from to inode) (without_row new (map.get tree to))
  moved_held new from to inode may differ here = record {
    listed = λ q x h dir.
        ⊎_elim
        (λ w. subst (λ (i : Inode). is_dir_kind i.kind ≡ true → map.get (without_row new (map.get tree to)) i.ino.0 ≡ value q i) w.1
        (λ k. left_beside new (map.get tree to) inode.ino.0 (λ t there kinded same. may.apart (one_dentry tree whole from to inode t may.stands there same)) ∙ here k ∙ ap (λ p. value p inode) (sym w.0)) dir)
        (λ w. left_beside new (map.get tree to) x.ino.0 (λ t there kinded same. w.0 (one_dentry tree whole q to x t w.2 there same))
        ∙ differ x.ino.0 (λ k same. w.1 (one_dentry tree whole q from x inode w.2 may.stands same)) ∙ holds.listed q x w.2 dir)
        (stands_moved tree from to inode whole may q x h);
    stands = λ d x is.
        let left = left_back new (map.get tree to) d x is in
        ⊎_elim (λ w. (to, inode, arrived tree from to inode whole may, sym w.0, w.1))
        (λ w.
        let s = holds.stands d x w.1 in
        let alike : s.0 ≡ from → s.1 ≡ inode = λ same. one_inode tree s.0 from s.1 inode same s.2 may.stands in
        let not_from : s.0 ≡ from → ⊥ = λ same. w.0 (ap (λ (i : Inode). is_dir_kind i.kind) (sym (alike same)) ∙ s.4) (sym s.3 ∙ ap (λ (i : Inode). i.ino.0) (alike same)) in
        (s.0, s.1, still_moved tree from to inode whole may s.0 s.1 not_from (λ same. left.0 s.1 (ap (λ p. map.get tree p) (sym same) ∙ s.2) s.4 (sym s.3)) s.2, s.3, s.4))
        (back rows new inode differ d x left.1);
  }
