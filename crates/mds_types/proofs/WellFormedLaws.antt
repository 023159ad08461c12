-- Every step of the operation table keeps the tree well formed.
use Rattle.std.specs.Prelude.{◌≡◌, ℕ, Bool, true, false, cond, ◌&&◌, List, Option, Some, None, refl}
use Rattle.std.proofs.Common.{sym, ap, subst, ◌∙◌, ⊎_elim, ◌⊎◌, inl, inr}
use Rattle.std.proofs.lemmas.Bool.{or_right}
use Rattle.std.specs.Ordering.{eq_by_cmp}
use Rattle.std.specs.FinMap as map
use Rattle.std.specs.FinMap.{get-insert}
use Rattle.mds_types.specs.declared.replies.Reply.TheVariants.{Entry, Errno}
use Rattle.mds_types.specs.declared.dentries.Dentry.{Dentry}
use Rattle.mds_types.specs.declared.inodes.Alteration.{Alteration}
use Rattle.mds_types.specs.declared.inodes.Inode.{Inode}
use Rattle.mds_types.specs.declared.inodes.Kind.{Kind}
use Rattle.mds_types.specs.declared.inodes.Kind.TheVariants.{File, Dir, Symlink}
use Rattle.mds_types.specs.declared.operations.Op.{Op}
use Rattle.mds_types.specs.declared.replies.Reply.{Reply}
use Rattle.mds_types.specs.Shape.{Shape, Looks, Lists, Makes, Sets, Unlinks, Removes, Moves, destination_in, directory_in, shape}
use Rattle.mds_types.specs.Step.{Outcome, answers, altered, altered_at, alteration_errno, new_size, looked, made, new_inode, unless, unlinked, dir_removed, removal_errno, leads_to, replace_errno, room_errno, full_errno, renamed, done_in, step, step_in}
use Rattle.mds_types.specs.Tree.{Tree, dentry_cmp, dentry_of, at, is_directory, is_dir_kind, has_entries, IsAbove, child, further, HasPinOf, HasSize, IsWellFormed, IsUnused}
use Rattle.mds_types.proofs.TreeLaws.{is_directory-insert}
use Rattle.sorted_map.proofs.MapLaws.{tie}
use Rattle.mds_types.proofs.OrderLaws.{dentry-total}
use Rattle.mds_types.specs.OrderLaws.{dentry-exact}
use Rattle.mds_types.proofs.DirectoryLaws.{reaches_root, nothing_in_file, nothing_in_empty}
use Rattle.mds_types.proofs.AlterationLaws.{altered_kind, altered_number, altered_pin, altered_size}
use Rattle.mds_types.proofs.AttributeLaws.{well-formed-changed}
use Rattle.mds_types.proofs.RemovedLaws.{well-formed-removed}
use Rattle.mds_types.proofs.MovedLaws.{well-formed-moved, may_move_by}

-- a new inode at a free dentry of a directory that stands
module _ (tree : Tree) (dir : ℕ) (new_name : List ℕ) (new : Inode) (free : at tree dir new_name ≡ None) where
  abbrev grown : Tree
  grown = map.insert tree (dentry_of dir new_name) new

  at-grown : (d : ℕ) (name : List ℕ) → at grown d name ≡ cond (eq_by_cmp dentry_cmp (dentry_of d name) (dentry_of dir new_name)) (Some new) (at tree d name)
  at-grown d name = get-insert dentry-total tree (dentry_of dir new_name) new (dentry_of d name)

  -- what stands in the grown tree is the new inode, or stood before
  stands_by : (d : ℕ) (name : List ℕ) (inode : Inode) (b : Bool) → eq_by_cmp dentry_cmp (dentry_of d name) (dentry_of dir new_name) ≡ b → at grown d name ≡ Some inode
      → ((dentry_of d name ≡ dentry_of dir new_name) × (new ≡ inode)) ⊎ (at tree d name ≡ Some inode)
  stands_by d name inode true tied stands =
      let same : Some new ≡ Some inode = sym (at-grown d name ∙ ap (λ b. cond b (Some new) (at tree d name)) tied) ∙ stands in
      inl (dentry-exact _ _ (tie (dentry_cmp (dentry_of d name) (dentry_of dir new_name)) tied), cc)
  stands_by d name inode false apart stands = inr (sym (at-grown d name ∙ ap (λ b. cond b (Some new) (at tree d name)) apart) ∙ stands)

  stands : (d : ℕ) (name : List ℕ) (inode : Inode) → at grown d name ≡ Some inode → ((dentry_of d name ≡ dentry_of dir new_name) × (new ≡ inode)) ⊎ (at tree d name ≡ Some inode)
  stands d name inode h = stands_by d name inode _ refl h

  -- what stood before still stands
  still_by : (d : ℕ) (name : List ℕ) (inode : Inode) (b : Bool) → eq_by_cmp dentry_cmp (dentry_of d name) (dentry_of dir new_name) ≡ b → at tree d name ≡ Some inode → at grown d name ≡ Some inode
  still_by d name inode true tied stood =
      let same : dentry_of d name ≡ dentry_of dir new_name = dentry-exact _ _ (tie (dentry_cmp (dentry_of d name) (dentry_of dir new_name)) tied) in
      let nothing : None ≡ Some inode = sym free ∙ ap (λ p. map.get tree p) (sym same) ∙ stood in
      cc
  still_by d name inode false apart stood = at-grown d name ∙ ap (λ b. cond b (Some new) (at tree d name)) apart ∙ stood

  still : (d : ℕ) (name : List ℕ) (inode : Inode) → at tree d name ≡ Some inode → at grown d name ≡ Some inode
  still d name inode stood = still_by d name inode _ refl stood

  still_above : (d x : ℕ) → IsAbove tree d x → IsAbove grown d x
  still_above d x (child name inode stood) = child name inode (still d name inode stood)
  still_above d x (further m name inode above stood) = further m name inode (still_above d m above) (still m name inode stood)

  still_directory : (d : ℕ) → is_directory tree d ≡ true → is_directory grown d ≡ true
  still_directory d here = is_directory-insert tree (dentry_of dir new_name) new d free ∙ or_right _ _ here

  dir_is : (d : ℕ) (name : List ℕ) → dentry_of d name ≡ dentry_of dir new_name → d ≡ dir
  dir_is d name same = ap (λ (p : Dentry). p.dir.0) same

  name_is : (d : ℕ) (name : List ℕ) → dentry_of d name ≡ dentry_of dir new_name → name ≡ new_name
  name_is d name same = ap (λ (p : Dentry). p.name) same

  -- the tree stays well formed where the number is neither the root's nor one that stands
  pub well-formed-grown : IsWellFormed tree → is_directory tree dir ≡ true → (new.ino.0 ≡ 1 → ⊥)
      → ((d : ℕ) (name : List ℕ) (inode : Inode) → at tree d name ≡ Some inode → inode.ino.0 ≡ new.ino.0 → ⊥) → HasSize new.kind new.size → HasPinOf new.kind new.pin → IsWellFormed grown
  well-formed-grown whole here rootless unused sized pinned = record {
    rootless = λ d name inode h one. ⊎_elim (λ w. rootless (ap (λ (i : Inode). i.ino.0) w.1 ∙ one)) (λ before. whole.rootless d name inode before one) (stands d name inode h);
    once = λ d d' name name' inode inode' h h' same.
        ⊎_elim
        (λ w. ⊎_elim
        (λ w'. (dir_is d name w.0 ∙ sym (dir_is d' name' w'.0), name_is d name w.0 ∙ sym (name_is d' name' w'.0)))
        (λ before'. absurd (unused d' name' inode' before' (ap (λ (i : _). i.0) (sym same) ∙ ap (λ (i : Inode). i.ino.0) (sym w.1))))
        (stands d' name' inode' h'))
        (λ before. ⊎_elim
        (λ w'. absurd (unused d name inode before (ap (λ (i : _). i.0) same ∙ ap (λ (i : Inode). i.ino.0) (sym w'.1))))
        (λ before'. whole.once d d' name name' inode inode' before before' same)
        (stands d' name' inode' h'))
        (stands d name inode h);
    parents = λ d name inode h. ⊎_elim (λ w. still_directory d (ap (is_directory tree) (dir_is d name w.0) ∙ here)) (λ before. still_directory d (whole.parents d name inode before)) (stands d name inode h);
    rooted = λ d name inode h.
        ⊎_elim (λ w. lifted d (subst (λ x. (x ≡ 1) ⊎ IsAbove tree 1 x) (sym (dir_is d name w.0)) (reaches_root tree dir whole here)))
        (λ before. lifted d (whole.rooted d name inode before)) (stands d name inode h);
    sizes = λ d name inode h. ⊎_elim (λ w. subst (λ (i : Inode). HasSize i.kind i.size) w.1 sized) (λ before. whole.sizes d name inode before) (stands d name inode h);
    pins = λ d name inode h. ⊎_elim (λ w. subst (λ (i : Inode). HasPinOf i.kind i.pin) w.1 pinned) (λ before. whole.pins d name inode before) (stands d name inode h);
  }
    where
      lifted : (d : ℕ) → (d ≡ 1) ⊎ IsAbove tree 1 d → (d ≡ 1) ⊎ IsAbove grown 1 d
      lifted d h = ⊎_elim inl (λ above. inr (still_above 1 d above)) h

made-well-formed : (limit : ℕ) (tree : Tree) (dir : ℕ) (name : List ℕ) (inode : Inode) (other : Option Inode) → at tree dir name ≡ other → IsWellFormed tree → is_directory tree dir ≡ true
    → ((made limit tree (dentry_of dir name) inode other).takes ≡ true → IsUnused tree inode.ino.0) → HasSize inode.kind inode.size → HasPinOf inode.kind inode.pin → IsWellFormed (made limit tree (dentry_of dir name) inode other).tree
made-well-formed limit tree dir name inode None free whole here unused sized pinned = go (full_errno limit tree dir) unused
  where
    arrived : Outcome
    arrived = record { reply = Entry inode; tree = map.insert tree (dentry_of dir name) inode; takes = true }

    go : (errno : Option ℕ) → ((unless tree errno arrived).takes ≡ true → IsUnused tree inode.ino.0) → IsWellFormed (unless tree errno arrived).tree
    go None new = well-formed-grown tree dir name inode free whole here (new refl).not_root (new refl).not_there sized pinned
    go (Some errno) new = whole
made-well-formed limit tree dir name inode (Some other) taken whole here unused sized pinned = whole

looked-well-formed : (tree : Tree) (answer : Inode → Reply) (other : Option Inode) → IsWellFormed tree → IsWellFormed (looked tree answer other).tree
looked-well-formed tree answer None whole = whole
looked-well-formed tree answer (Some inode) whole = whole

-- a new inode has the size that its kind prescribes
pub new_sized : (kind : Kind) → HasSize kind (new_size kind)
new_sized File = tt
new_sized Dir = refl
new_sized (Symlink target) = refl

unless-well-formed : (tree : Tree) (errno : Option ℕ) (outcome : Outcome) → IsWellFormed tree → (errno ≡ None → IsWellFormed outcome.tree) → IsWellFormed (unless tree errno outcome).tree
unless-well-formed tree None outcome whole h = h refl
unless-well-formed tree (Some errno) outcome whole h = whole

either-well-formed : (b : Bool) (x y : Outcome) → (b ≡ true → IsWellFormed x.tree) → (b ≡ false → IsWellFormed y.tree) → IsWellFormed (cond b x y).tree
either-well-formed true x y h k = h refl
either-well-formed false x y h k = k refl

-- an inode that is altered as it may be leaves the tree well formed
pub well-formed-altered : (tree : Tree) (dentry : Dentry) (alteration : Alteration) (inode : Inode) → map.get tree dentry ≡ Some inode → alteration_errno inode.kind alteration ≡ None → IsWellFormed tree
    → IsWellFormed (map.insert tree dentry (altered alteration inode))
well-formed-altered tree dentry alteration inode is may whole =
    well-formed-changed tree dentry inode (altered alteration inode) is (altered_number alteration inode) kind whole
    (subst (λ k. HasSize k (altered alteration inode).size) (sym kind) (altered_size alteration inode may (whole.sizes dentry.dir.0 dentry.name inode is)))
    (subst (λ k. HasPinOf k (altered alteration inode).pin) (sym kind) (altered_pin alteration inode may (whole.pins dentry.dir.0 dentry.name inode is)))
  where
    kind : (altered alteration inode).kind ≡ inode.kind
    kind = altered_kind alteration inode

altered_at-well-formed : (tree : Tree) (dentry : Dentry) (alteration : Alteration) (other : Option Inode) → map.get tree dentry ≡ other → IsWellFormed tree
    → IsWellFormed (altered_at tree dentry alteration other).tree
altered_at-well-formed tree dentry alteration None is whole = whole
altered_at-well-formed tree dentry alteration (Some inode) is whole =
    unless-well-formed tree (alteration_errno inode.kind alteration) _ whole (λ may. well-formed-altered tree dentry alteration inode is may whole)

unlinked-well-formed : (tree : Tree) (dentry : Dentry) (other : Option Inode) → map.get tree dentry ≡ other → IsWellFormed tree → IsWellFormed (unlinked tree dentry other).tree
unlinked-well-formed tree dentry None is whole = whole
unlinked-well-formed tree dentry (Some inode) is whole =
    either-well-formed (is_dir_kind inode.kind) _ _ (λ dir. whole) (λ kinded. well-formed-removed tree dentry inode is (nothing_in_file tree dentry inode whole is kinded) whole)

-- what may be taken away as a directory is one, and has no entry
pub may_go : (dir some : Bool) → cond {A = Option ℕ} dir (cond some (Some 39) None) (Some 20) ≡ None → (dir ≡ true) × (some ≡ false)
may_go true true none = cc
may_go true false none = (refl, refl)
may_go false some none = cc

dir_removed-well-formed : (tree : Tree) (dentry : Dentry) (other : Option Inode) → map.get tree dentry ≡ other → IsWellFormed tree → IsWellFormed (dir_removed tree dentry other).tree
dir_removed-well-formed tree dentry None is whole = whole
dir_removed-well-formed tree dentry (Some inode) is whole =
    unless-well-formed tree (removal_errno tree inode) _ whole
    (λ may. well-formed-removed tree dentry inode is (nothing_in_empty tree inode.ino.0 (may_go (is_dir_kind inode.kind) (has_entries tree inode.ino.0) may).1) whole)

renamed-well-formed : (limit : ℕ) (tree : Tree) (from to : Dentry) (source target : Option Inode) → map.get tree from ≡ source → map.get tree to ≡ target → IsWellFormed tree → is_directory tree to.dir.0 ≡ true
    → IsWellFormed (renamed limit tree from to source target).tree
renamed-well-formed limit tree from to None target is there whole parent = whole
renamed-well-formed limit tree from to (Some inode) target is there whole parent =
    either-well-formed (eq_by_cmp dentry_cmp from to) _ _ (λ same. whole)
    (λ apart. either-well-formed (leads_to tree inode to.dir.0) _ _ (λ below. whole)
    (λ outside. unless-well-formed tree (replace_errno tree inode target) _ whole
    (λ replaces. unless-well-formed tree (room_errno limit tree from to target) _ whole
    (λ spaced. well-formed-moved tree from to inode whole (may_move_by tree from to inode whole is apart parent outside (ap (replace_errno tree inode) there ∙ replaces))))))

done-well-formed : (limit : ℕ) (tree : Tree) (s : Shape) (n : ℕ) → IsWellFormed tree → ((done_in limit tree s n).takes ≡ true → IsUnused tree n) → is_directory tree (directory_in s) ≡ true → is_directory tree (destination_in s) ≡ true
    → IsWellFormed (done_in limit tree s n).tree
done-well-formed limit tree (Looks dentry answer) n whole unused here there = looked-well-formed tree answer (map.get tree dentry) whole
done-well-formed limit tree (Lists dir after max) n whole unused here there = whole
done-well-formed limit tree (Makes dentry kind mode birth) n whole unused here there =
    made-well-formed limit tree dentry.dir.0 dentry.name (new_inode n kind mode birth) (map.get tree dentry) refl whole here unused (new_sized kind) tt
done-well-formed limit tree (Sets dentry alteration) n whole unused here there = altered_at-well-formed tree dentry alteration (map.get tree dentry) refl whole
done-well-formed limit tree (Unlinks dentry) n whole unused here there = unlinked-well-formed tree dentry (map.get tree dentry) refl whole
done-well-formed limit tree (Removes dentry) n whole unused here there = dir_removed-well-formed tree dentry (map.get tree dentry) refl whole
done-well-formed limit tree (Moves from to) n whole unused here there =
    renamed-well-formed limit tree from to (map.get tree from) (map.get tree to) refl refl whole there

keeps_in : (limit : ℕ) (tree : Tree) (s : Shape) (n : ℕ) → IsWellFormed tree → ((step_in limit tree s n).takes ≡ true → IsUnused tree n) → IsWellFormed (step_in limit tree s n).tree
keeps_in limit tree s n whole unused = go (is_directory tree (directory_in s)) (is_directory tree (destination_in s)) refl refl unused
  where
    go : (a b : Bool) → is_directory tree (directory_in s) ≡ a → is_directory tree (destination_in s) ≡ b
        → ((cond (a && b) (done_in limit tree s n) (answers tree (Errno 116))).takes ≡ true → IsUnused tree n) → IsWellFormed (cond (a && b) (done_in limit tree s n) (answers tree (Errno 116))).tree
    go true true here there takes = done-well-formed limit tree s n whole takes here there
    go true false here there takes = whole
    go false b here there takes = whole

-- a step keeps the tree well formed, if the number that it takes, where it takes one, is unused
pub step_keeps_well_formed : (limit : ℕ) (tree : Tree) (op : Op) (n : ℕ) → IsWellFormed tree → ((step limit tree op n).takes ≡ true → IsUnused tree n) → IsWellFormed (step limit tree op n).tree
step_keeps_well_formed limit tree op n whole unused = keeps_in limit tree (shape op) n whole unused
