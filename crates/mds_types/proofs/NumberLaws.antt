-- Which numbers stand in the tree that a step leaves.
use Rattle.mds_types.proofs.Common.{Alteration, Bool, Dentry, Done, Entry, Errno, Inode, IsOld, Lists, Looks, Makes, Moves, None, Op, Option, Outcome, Removes, Reply, Sets, Shape, Some, Tree, Unlinks, alteration_errno, altered, altered_at, answers, ap, cond, dentry_cmp, destination_in, dir_removed, directory_in, done_in, eq_by_cmp, false, full_errno, inl, inr, is_dir_kind, is_directory, leads_to, looked, made, new_inode, refl, removal_errno, renamed, replace_errno, room_errno, shape, step, sym, true, unless, unlinked, with_moved, ℕ, ⊎_elim, ◌&&◌, ◌∙◌, ◌≡◌}
use Rattle.std.specs.FinMap as map
use Rattle.mds_types.proofs.AlterationLaws.{altered_number}
use Rattle.mds_types.proofs.EntryLaws.{stands_after_put, stands_after_removal}

same_old : (tree : Tree) (n : ℕ) (outcome : Outcome) → outcome.tree ≡ tree → IsOld tree n outcome
same_old tree n outcome same dentry inode stands = inl (dentry, inode, ap (λ t. map.get t dentry) (sym same) ∙ stands, refl)

either_old : (b : Bool) (tree : Tree) (n : ℕ) (x y : Outcome) → IsOld tree n x → IsOld tree n y → IsOld tree n (cond b x y)
either_old true tree n x y h k = h
either_old false tree n x y h k = k

unless_old : (errno : Option ℕ) (tree : Tree) (n : ℕ) (x : Outcome) → IsOld tree n x → IsOld tree n (unless tree errno x)
unless_old None tree n x h = h
unless_old (Some errno) tree n x h = same_old tree n (unless tree (Some errno) x) refl

made_old : (limit : ℕ) (tree : Tree) (dentry : Dentry) (new : Inode) (other : Option Inode) → IsOld tree new.ino.0 (made limit tree dentry new other)
made_old limit tree dentry new None =
    unless_old (full_errno limit tree dentry.dir.0) tree new.ino.0 (record { reply = Entry new; tree = map.insert tree dentry new; takes = true })
    (λ q inode stands. ⊎_elim (λ w. inr (refl, ap (λ (i : Inode). i.ino.0) (sym w.1))) (λ w. inl (q, inode, w.1, refl)) (stands_after_put tree dentry new q inode stands))
made_old limit tree dentry new (Some other) = λ q inode stands. inl (q, inode, stands, refl)

looked_old : (tree : Tree) (n : ℕ) (answer : Inode → Reply) (other : Option Inode) → IsOld tree n (looked tree answer other)
looked_old tree n answer None = same_old tree n (looked tree answer None) refl
looked_old tree n answer (Some inode) = same_old tree n (looked tree answer (Some inode)) refl

altered_old : (tree : Tree) (n : ℕ) (dentry : Dentry) (alteration : Alteration) (other : Option Inode) → map.get tree dentry ≡ other → IsOld tree n (altered_at tree dentry alteration other)
altered_old tree n dentry alteration None is = same_old tree n (altered_at tree dentry alteration None) refl
altered_old tree n dentry alteration (Some before) is =
    unless_old (alteration_errno before.kind alteration) tree n
    (answers (map.insert tree dentry (altered alteration before)) (Entry (altered alteration before)))
    (λ q inode stands.
    ⊎_elim (λ w. inl (dentry, before, is, ap (λ (i : _). i.0) (sym (altered_number alteration before)) ∙ ap (λ (i : Inode). i.ino.0) w.1)) (λ w. inl (q, inode, w.1, refl))
    (stands_after_put tree dentry (altered alteration before) q inode stands))

removed_old : (tree : Tree) (n : ℕ) (dentry : Dentry) → IsOld tree n (answers (map.remove tree dentry) Done)
removed_old tree n dentry q inode stands = let before = stands_after_removal tree dentry q inode stands in inl (q, inode, before.1, refl)

kept_old : (tree : Tree) (n : ℕ) (reply : Reply) → IsOld tree n (answers tree reply)
kept_old tree n reply q inode stands = inl (q, inode, stands, refl)

unlinked_old : (tree : Tree) (n : ℕ) (dentry : Dentry) (other : Option Inode) → IsOld tree n (unlinked tree dentry other)
unlinked_old tree n dentry None = same_old tree n (unlinked tree dentry None) refl
unlinked_old tree n dentry (Some inode) =
    either_old (is_dir_kind inode.kind) tree n (answers tree (Errno 21)) (answers (map.remove tree dentry) Done) (kept_old tree n (Errno 21)) (removed_old tree n dentry)

dir_removed_old : (tree : Tree) (n : ℕ) (dentry : Dentry) (other : Option Inode) → IsOld tree n (dir_removed tree dentry other)
dir_removed_old tree n dentry None = same_old tree n (dir_removed tree dentry None) refl
dir_removed_old tree n dentry (Some inode) = unless_old (removal_errno tree inode) tree n (answers (map.remove tree dentry) Done) (removed_old tree n dentry)

renamed_old : (limit : ℕ) (tree : Tree) (n : ℕ) (from to : Dentry) (source target : Option Inode) → map.get tree from ≡ source → IsOld tree n (renamed limit tree from to source target)
renamed_old limit tree n from to None target is = same_old tree n (renamed limit tree from to None target) refl
renamed_old limit tree n from to (Some moved) target is =
    let arrives = unless tree (room_errno limit tree from to target) (answers (with_moved tree from to moved) Done) in
    let onto = unless tree (replace_errno tree moved target) arrives in
    let below = cond (leads_to tree moved to.dir.0) (answers tree (Errno 22)) onto in
    either_old (eq_by_cmp dentry_cmp from to) tree n (answers tree Done) below (kept_old tree n Done)
    (either_old (leads_to tree moved to.dir.0) tree n (answers tree (Errno 22)) onto (kept_old tree n (Errno 22))
    (unless_old (replace_errno tree moved target) tree n arrives
    (unless_old (room_errno limit tree from to target) tree n (answers (with_moved tree from to moved) Done)
    (λ q inode stands.
    ⊎_elim (λ w. inl (from, moved, is, ap (λ (i : Inode). i.ino.0) w.1)) (λ w. let before = stands_after_removal tree from q inode w.1 in inl (q, inode, before.1, refl))
    (stands_after_put (map.remove tree from) to moved q inode stands)))))

done_old : (limit : ℕ) (tree : Tree) (s : Shape) (n : ℕ) → IsOld tree n (done_in limit tree s n)
done_old limit tree (Looks dentry answer) n = looked_old tree n answer (map.get tree dentry)
done_old limit tree (Lists dir after max) n = same_old tree n (done_in limit tree (Lists dir after max) n) refl
done_old limit tree (Makes dentry kind mode birth) n = made_old limit tree dentry (new_inode n kind mode birth) (map.get tree dentry)
done_old limit tree (Sets dentry alteration) n = altered_old tree n dentry alteration (map.get tree dentry) refl
done_old limit tree (Unlinks dentry) n = unlinked_old tree n dentry (map.get tree dentry)
done_old limit tree (Removes dentry) n = dir_removed_old tree n dentry (map.get tree dentry)
done_old limit tree (Moves from to) n = renamed_old limit tree n from to (map.get tree from) (map.get tree to) refl

-- an inode of the tree that a step leaves stood before, or has the number that the step took
pub old_or_taken : (limit : ℕ) (tree : Tree) (op : Op) (n : ℕ) → IsOld tree n (step limit tree op n)
old_or_taken limit tree op n =
    either_old (is_directory tree (directory_in (shape op)) && is_directory tree (destination_in (shape op))) tree n (done_in limit tree (shape op) n) (answers tree (Errno 116))
    (done_old limit tree (shape op) n) (kept_old tree n (Errno 116))
