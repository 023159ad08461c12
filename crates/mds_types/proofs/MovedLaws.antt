-- A well-formed tree stays so where an entry moves: to a directory that is neither the entry itself nor below it, and onto
-- nothing that has an entry.
use Rattle.std.specs.Prelude.{Option, ◌≡◌, ℕ, Bool, true, false, cond, ◌&&◌, ◌||◌, ◌==◌, ◌⊎◌, Some, None, refl}
use Rattle.std.proofs.Common.{sym, ap, subst, ◌∙◌, ⊎_elim, inl, inr}
use Rattle.std.proofs.lemmas.Bool.{or_parts}
use Rattle.std.specs.Ordering.{eq_by_cmp}
use Rattle.std.specs.FinMap as map
use Rattle.mds_types.specs.declared.dentries.Dentry.{Dentry}
use Rattle.mds_types.specs.declared.inodes.Inode.{Inode}
use Rattle.mds_types.specs.Tree.{Tree, at, dentry_cmp, dentry_of, is_directory, is_dir_kind, is_above, has_entries, IsAbove, child, further, HasPinOf, HasSize, IsWellFormed, NothingIn}
use Rattle.mds_types.specs.Step.{with_moved, leads_to, replace_errno, IsMove}
use Rattle.mds_types.proofs.AboveLaws.{above_exact}
use Rattle.sorted_map.proofs.NatKeys.{is_same}
use Rattle.mds_types.proofs.EntryLaws.{get_put, get_beside, get_left, stands_after_put, stands_after_removal, same_or_apart, same_dentry_is}
use Rattle.mds_types.proofs.DirectoryLaws.{StandsAs, directory_stands, root_stands, entry_stands, reaches_root, one_dentry, no_directory, nothing_in_empty, nothing_in_file, above_nothing}

-- an entry may move from one dentry to another
pub record MayMove (tree : Tree) (from to : Dentry) (inode : Inode) : Type 0 where
  pub stands : map.get tree from ≡ Some inode
  pub apart : from ≡ to → ⊥
  pub parent : is_directory tree to.dir.0 ≡ true
  pub other : inode.ino.0 ≡ to.dir.0 → ⊥
  pub not_below : IsAbove tree inode.ino.0 to.dir.0 → ⊥
  -- nothing is in what it replaces
  pub replaces : (t : Inode) → map.get tree to ≡ Some t → NothingIn tree t.ino.0

-- what the table's tests say of a well-formed tree
pub may_move_by : (tree : Tree) (from to : Dentry) (inode : Inode) → IsWellFormed tree → map.get tree from ≡ Some inode → eq_by_cmp dentry_cmp from to ≡ false → is_directory tree to.dir.0 ≡ true
    → leads_to tree inode to.dir.0 ≡ false → replace_errno tree inode (map.get tree to) ≡ None → MayMove tree from to inode
may_move_by tree from to inode whole stands apart parent outside replaces = record {
  stands = stands;
  apart = λ same. let clash : true ≡ false = sym (same_dentry_is from to same) ∙ apart in cc;
  parent = parent;
  other = λ same. not_itself (is_dir_kind inode.kind) refl outside same;
  not_below = λ above. not_under (is_dir_kind inode.kind) refl outside above;
  replaces = λ t there. nothing t there (is_dir_kind inode.kind) (is_dir_kind t.kind) refl (has_entries tree t.ino.0) refl (ap (replace_errno tree inode) (sym there) ∙ replaces);
}
  where
    not_itself : (b : Bool) → is_dir_kind inode.kind ≡ b → (b && ((inode.ino.0 == to.dir.0) || is_above tree inode.ino.0 to.dir.0)) ≡ false → inode.ino.0 ≡ to.dir.0 → ⊥
    not_itself true kinded outside same = let clash : true ≡ false = sym (is_same inode.ino.0 to.dir.0 same) ∙ (or_parts (inode.ino.0 == to.dir.0) (is_above tree inode.ino.0 to.dir.0) outside).0 in cc
    not_itself false kinded outside same = no_directory tree from inode whole stands kinded (ap (is_directory tree) same ∙ parent)

    not_under : (b : Bool) → is_dir_kind inode.kind ≡ b → (b && ((inode.ino.0 == to.dir.0) || is_above tree inode.ino.0 to.dir.0)) ≡ false → IsAbove tree inode.ino.0 to.dir.0 → ⊥
    not_under true kinded outside above = let clash : true ≡ false = sym ((above_exact tree inode.ino.0 to.dir.0 whole).1 above) ∙ (or_parts (inode.ino.0 == to.dir.0) (is_above tree inode.ino.0 to.dir.0) outside).1 in cc
    not_under false kinded outside above = above_nothing tree inode.ino.0 to.dir.0 (nothing_in_file tree from inode whole stands kinded) above

    nothing : (t : Inode) → map.get tree to ≡ Some t → (a b : Bool) → is_dir_kind t.kind ≡ b → (e : Bool) → has_entries tree t.ino.0 ≡ e
        → cond {A = Option ℕ} a (cond b (cond e (Some 39) None) (Some 20)) (cond b (Some 21) None) ≡ None → NothingIn tree t.ino.0
    nothing t there true true kinded true some replaces = cc
    nothing t there true true kinded false none replaces = nothing_in_empty tree t.ino.0 none
    nothing t there true false kinded e is replaces = cc
    nothing t there false true kinded e is replaces = cc
    nothing t there false false kinded e is replaces = nothing_in_file tree to t whole there kinded

pub may_move : (tree : Tree) (from to : Dentry) (inode : Inode) → IsWellFormed tree → IsMove tree from to inode → MayMove tree from to inode
may_move tree from to inode whole move = may_move_by tree from to inode whole move.stands move.apart move.parent move.outside move.replaces

module _ (tree : Tree) (from to : Dentry) (inode : Inode) (whole : IsWellFormed tree) (may : MayMove tree from to inode) where
  abbrev moved : Tree
  moved = with_moved tree from to inode

  -- what stands then is the inode that moved, or stood before at another dentry than these two
  pub stands_moved : (q : Dentry) (x : Inode) → map.get moved q ≡ Some x → ((q ≡ to) × (inode ≡ x)) ⊎ ((q ≡ to → ⊥) × (q ≡ from → ⊥) × (map.get tree q ≡ Some x))
  stands_moved q x h =
      ⊎_elim inl (λ w. let before = stands_after_removal tree from q x w.1 in inr (w.0, before.0, before.1)) (stands_after_put (map.remove tree from) to inode q x h)

  pub still_moved : (q : Dentry) (x : Inode) → (q ≡ from → ⊥) → (q ≡ to → ⊥) → map.get tree q ≡ Some x → map.get moved q ≡ Some x
  still_moved q x not_from not_to stands = get_beside (map.remove tree from) to inode q not_to ∙ get_left tree from q not_from ∙ stands

  pub arrived : map.get moved to ≡ Some inode
  arrived = get_put (map.remove tree from) to inode

  -- a number that isn't that of the inode which is replaced
  abbrev pub Stays : ℕ → Type 0
  Stays x = (t : Inode) → map.get tree to ≡ Some t → t.ino.0 ≡ x → ⊥

  parent_stays : (q : Dentry) (x : Inode) → map.get tree q ≡ Some x → Stays q.dir.0
  parent_stays q x stands t there same = may.replaces t there q x stands (sym same)

  to_stays : Stays to.dir.0
  to_stays t there same = may.replaces t there to t there (sym same)

  -- an entry at a dentry: the inode that moves, or one that stays where it is
  where_stood : (q : Dentry) (x : Inode) → map.get tree q ≡ Some x → Stays x.ino.0 → (inode ≡ x) ⊎ (map.get moved q ≡ Some x)
  where_stood q x stands stays = go (same_or_apart q from) (same_or_apart q to)
    where
      go : (q ≡ from) ⊎ (q ≡ from → ⊥) → (q ≡ to) ⊎ (q ≡ to → ⊥) → (inode ≡ x) ⊎ (map.get moved q ≡ Some x)
      go (inl same) other = let inodes : Some inode ≡ Some x = sym may.stands ∙ ap (λ p. map.get tree p) (sym same) ∙ stands in inl cc
      go (inr not_from) (inl same) = absurd (stays x (ap (λ p. map.get tree p) (sym same) ∙ stands) refl)
      go (inr not_from) (inr not_to) = inr (still_moved q x not_from not_to stands)

  pub still_directory : (d : ℕ) → Stays d → is_directory tree d ≡ true → is_directory moved d ≡ true
  still_directory d stays here =
      ⊎_elim (λ root. ap (is_directory moved) root ∙ root_stands moved)
      (λ (w : StandsAs tree d).
      ap (is_directory moved) (sym w.numbered)
      ∙ ⊎_elim
      (λ same. subst (λ (i : Inode). is_directory moved i.ino.0 ≡ true) same (entry_stands moved to inode arrived (ap (λ (i : Inode). is_dir_kind i.kind) same ∙ w.kinded)))
      (λ there. entry_stands moved w.dentry w.inode there w.kinded)
      (where_stood w.dentry w.inode w.stands (λ t there same. stays t there (same ∙ w.numbered)))) (directory_stands tree d here)

  -- what isn't below the inode that moves, nor is that itself, reaches the root as before
  beside : (x : ℕ) → (inode.ino.0 ≡ x → ⊥) → (IsAbove tree inode.ino.0 x → ⊥) → Stays x → IsAbove tree 1 x → IsAbove moved 1 x
  beside _ other not_below stays (child name i stands) =
      ⊎_elim (λ same. absurd (other (ap (λ (j : Inode). j.ino.0) same))) (λ there. child name i there) (where_stood (dentry_of 1 name) i stands stays)
  beside _ other not_below stays (further m name i above stands) =
      ⊎_elim (λ same. absurd (other (ap (λ (j : Inode). j.ino.0) same)))
      (λ there. further m name i
      (beside m (λ same. not_below (child name i (ap (λ d. at tree d name) same ∙ stands))) (λ below. not_below (further m name i below stands)) (parent_stays (dentry_of m name) i stands) above)
      there) (where_stood (dentry_of m name) i stands stays)

  to_rooted : (to.dir.0 ≡ 1) ⊎ IsAbove moved 1 to.dir.0
  to_rooted = ⊎_elim inl (λ above. inr (beside to.dir.0 may.other may.not_below to_stays above)) (reaches_root tree to.dir.0 whole may.parent)

  arrived_rooted : IsAbove moved 1 inode.ino.0
  arrived_rooted =
      ⊎_elim (λ root. child to.name inode (ap (λ d. at moved d to.name) (sym root) ∙ arrived)) (λ above. further to.dir.0 to.name inode above arrived) to_rooted

  still_above : (x : ℕ) → Stays x → IsAbove tree 1 x → IsAbove moved 1 x
  still_above _ stays (child name i stands) =
      ⊎_elim (λ same. subst (λ (j : Inode). IsAbove moved 1 j.ino.0) same arrived_rooted) (λ there. child name i there) (where_stood (dentry_of 1 name) i stands stays)
  still_above _ stays (further m name i above stands) =
      ⊎_elim (λ same. subst (λ (j : Inode). IsAbove moved 1 j.ino.0) same arrived_rooted)
      (λ there. further m name i (still_above m (parent_stays (dentry_of m name) i stands) above) there) (where_stood (dentry_of m name) i stands stays)

  -- the inode that moved has its number alone
  alone : (q : Dentry) (x : Inode) → (q ≡ from → ⊥) → map.get tree q ≡ Some x → x.ino.0 ≡ inode.ino.0 → ⊥
  alone q x not_from stands same = not_from (one_dentry tree whole q from x inode stands may.stands same)

  parts : (d d' : ℕ) (name name' : _) → dentry_of d name ≡ dentry_of d' name' → (d ≡ d') × (name ≡ name')
  parts d d' name name' same = (ap (λ (p : Dentry). p.dir.0) same, ap (λ (p : Dentry). p.name) same)

  pub well-formed-moved : IsWellFormed moved
  well-formed-moved = record {
    rootless = λ d name i h one.
        ⊎_elim (λ w. whole.rootless from.dir.0 from.name inode may.stands (ap (λ (j : Inode). j.ino.0) w.1 ∙ one)) (λ w. whole.rootless d name i w.2 one) (stands_moved (dentry_of d name) i h);
    once = λ d d' name name' i i' h h' same.
        ⊎_elim
        (λ w. ⊎_elim (λ w'. parts d d' name name' (w.0 ∙ sym w'.0))
        (λ w'. absurd (alone (dentry_of d' name') i' w'.1 w'.2 (ap (λ (n : _). n.0) (sym same) ∙ ap (λ (j : Inode). j.ino.0) (sym w.1))))
        (stands_moved (dentry_of d' name') i' h'))
        (λ w. ⊎_elim (λ w'. absurd (alone (dentry_of d name) i w.1 w.2 (ap (λ (n : _). n.0) same ∙ ap (λ (j : Inode). j.ino.0) (sym w'.1))))
        (λ w'. whole.once d d' name name' i i' w.2 w'.2 same)
        (stands_moved (dentry_of d' name') i' h'))
        (stands_moved (dentry_of d name) i h);
    parents = λ d name i h.
        ⊎_elim (λ w. still_directory d (subst Stays (sym (ap (λ (p : Dentry). p.dir.0) w.0)) to_stays) (ap (is_directory tree) (ap (λ (p : Dentry). p.dir.0) w.0) ∙ may.parent))
        (λ w. still_directory d (parent_stays (dentry_of d name) i w.2) (whole.parents d name i w.2)) (stands_moved (dentry_of d name) i h);
    rooted = λ d name i h.
        ⊎_elim (λ w. subst (λ x. (x ≡ 1) ⊎ IsAbove moved 1 x) (sym (ap (λ (p : Dentry). p.dir.0) w.0)) to_rooted)
        (λ w. ⊎_elim inl (λ above. inr (still_above d (parent_stays (dentry_of d name) i w.2) above)) (whole.rooted d name i w.2)) (stands_moved (dentry_of d name) i h);
    sizes = λ d name i h.
        ⊎_elim (λ w. subst (λ (j : Inode). HasSize j.kind j.size) w.1 (whole.sizes from.dir.0 from.name inode may.stands)) (λ w. whole.sizes d name i w.2) (stands_moved (dentry_of d name) i h);
    pins = λ d name i h.
        ⊎_elim (λ w. subst (λ (j : Inode). HasPinOf j.kind j.pin) w.1 (whole.pins from.dir.0 from.name inode may.stands)) (λ w. whole.pins d name i w.2) (stands_moved (dentry_of d name) i h);
  }
