-- The directories of the plain tree where an operation neither moves nor pins one: each stands where it stood with the pin that it had, or is new and
-- has none.
use Rattle.cluster_core.proofs.Common.{Attributed, Attributes, Bool, Dentry, Errno, Inode, IsCalmIn, IsUnused, Lists, Looks, Makes, Moves, None, Option, Outcome, Pinned, Removes, Sets, Shape, Some, Tree, Unlinks, altered_at, answers, ap, cond, destination_in, dir_removed, directory_in, done_in, false, full_errno, inl, inr, is_dir_kind, is_directory, looked, made, new_inode, refl, removal_errno, size_errno, stands_after_put, stands_after_removal, step_in, subst, true, unless, unlinked, with_attributes, ℕ, ◌&&◌, ◌∙◌, ◌≡◌, ◌⊎◌}
use Rattle.std.specs.FinMap as map
use Rattle.mds_types.specs.declared.replies.Reply.{Reply}
use Rattle.mds_types.specs.declared.replies.Reply.TheVariants.{Done, Entry}

-- a directory of the tree afterwards: it stood there with this pin, or is new
pub data CameOf (old : Tree) (dentry : Dentry) (inode : Inode) : Type 0 where
  stood : (before : Inode) → map.get old dentry ≡ Some before → before.ino ≡ inode.ino → is_dir_kind before.kind ≡ true → before.pin ≡ inode.pin → CameOf old dentry inode
  fresh : inode.pin ≡ None → IsUnused old inode.ino.0 → CameOf old dentry inode

abbrev pub DirsStay : (old new : Tree) → Type 0
DirsStay old new = (dentry : Dentry) (inode : Inode) → map.get new dentry ≡ Some inode → is_dir_kind inode.kind ≡ true → CameOf old dentry inode

as_it_stood : (tree : Tree) → DirsStay tree tree
as_it_stood tree dentry inode stands kinded = stood inode stands refl kinded refl

-- an errno, or what was to come
either : (old : Tree) (errno : Option ℕ) (outcome : Outcome) → DirsStay old outcome.tree → DirsStay old (unless old errno outcome).tree
either old None outcome stay = stay
either old (Some errno) outcome stay = as_it_stood old

came : (tree : Tree) (p : Dentry) (inode : Inode) → inode.pin ≡ None → IsUnused tree inode.ino.0 → DirsStay tree (map.insert tree p inode)
came tree p inode unpinned unused q other stands kinded = go (stands_after_put tree p inode q other stands)
  where
    go : ((q ≡ p) × (inode ≡ other)) ⊎ ((q ≡ p → ⊥) × (map.get tree q ≡ Some other)) → CameOf tree q other
    go (inl (at, same)) = subst (λ (i : Inode). CameOf tree q i) same (fresh unpinned unused)
    go (inr (apart, before)) = stood other before refl kinded refl

set : (tree : Tree) (p : Dentry) (before inode : Inode) → map.get tree p ≡ Some before → before.ino ≡ inode.ino → before.kind ≡ inode.kind → before.pin ≡ inode.pin → DirsStay tree (map.insert tree p inode)
set tree p before inode is ino kind pin q other stands kinded = go (stands_after_put tree p inode q other stands)
  where
    go : ((q ≡ p) × (inode ≡ other)) ⊎ ((q ≡ p → ⊥) × (map.get tree q ≡ Some other)) → CameOf tree q other
    go (inl (at, same)) =
        let its : is_dir_kind inode.kind ≡ true = ap (λ (i : Inode). is_dir_kind i.kind) same ∙ kinded in
        subst (λ (i : Inode). CameOf tree q i) same
        (stood before (ap (map.get tree) at ∙ is) ino (ap is_dir_kind kind ∙ its) pin)
    go (inr (apart, before)) = stood other before refl kinded refl

gone : (tree : Tree) (p : Dentry) → DirsStay tree (map.remove tree p)
gone tree p q inode stands kinded = let left = stands_after_removal tree p q inode stands in stood inode left.1 refl kinded refl

looks : (tree : Tree) (answer : Inode → Reply) (found : Option Inode) → DirsStay tree (looked tree answer found).tree
looks tree answer None = as_it_stood tree
looks tree answer (Some inode) = as_it_stood tree

makes : (limit : ℕ) (tree : Tree) (dentry : Dentry) (inode : Inode) (found : Option Inode) → inode.pin ≡ None → ((made limit tree dentry inode found).takes ≡ true → IsUnused tree inode.ino.0)
    → DirsStay tree (made limit tree dentry inode found).tree
makes limit tree dentry inode (Some other) unpinned unused = as_it_stood tree
makes limit tree dentry inode None unpinned unused = go (full_errno limit tree dentry.dir.0) unused
  where
    go : (errno : Option ℕ) → ((unless tree errno (record { reply = Entry inode; tree = map.insert tree dentry inode; takes = true })).takes ≡ true → IsUnused tree inode.ino.0)
        → DirsStay tree (unless tree errno (record { reply = Entry inode; tree = map.insert tree dentry inode; takes = true })).tree
    go None unused = came tree dentry inode unpinned (unused refl)
    go (Some errno) unused = as_it_stood tree

sets : (tree : Tree) (dentry : Dentry) (given : Attributes) (found : Option Inode) → map.get tree dentry ≡ found → DirsStay tree (altered_at tree dentry (Attributed given) found).tree
sets tree dentry given None is = as_it_stood tree
sets tree dentry given (Some inode) is = either tree (size_errno inode.kind given.size) _ (set tree dentry inode (with_attributes given inode) is refl refl refl)

unlinks : (tree : Tree) (dentry : Dentry) (found : Option Inode) → DirsStay tree (unlinked tree dentry found).tree
unlinks tree dentry None = as_it_stood tree
unlinks tree dentry (Some inode) = go (is_dir_kind inode.kind)
  where
    go : (b : Bool) → DirsStay tree (cond b (answers tree (Errno 21)) (answers (map.remove tree dentry) Done)).tree
    go true = as_it_stood tree
    go false = gone tree dentry

removes : (tree : Tree) (dentry : Dentry) (found : Option Inode) → DirsStay tree (dir_removed tree dentry found).tree
removes tree dentry None = as_it_stood tree
removes tree dentry (Some inode) = either tree (removal_errno tree inode) _ (gone tree dentry)

calm_done : (limit : ℕ) (tree : Tree) (s : Shape) (n : ℕ) → IsCalmIn s → ((done_in limit tree s n).takes ≡ true → IsUnused tree n) → DirsStay tree (done_in limit tree s n).tree
calm_done limit tree (Looks dentry answer) n calm unused = looks tree answer (map.get tree dentry)
calm_done limit tree (Lists dir after max) n calm unused = as_it_stood tree
calm_done limit tree (Makes dentry kind mode birth) n calm unused = makes limit tree dentry (new_inode n kind mode birth) (map.get tree dentry) refl unused
calm_done limit tree (Sets dentry (Attributed given)) n calm unused = sets tree dentry given (map.get tree dentry) refl
calm_done limit tree (Sets dentry (Pinned pin)) n calm unused = absurd calm
calm_done limit tree (Unlinks dentry) n calm unused = unlinks tree dentry (map.get tree dentry)
calm_done limit tree (Removes dentry) n calm unused = removes tree dentry (map.get tree dentry)
calm_done limit tree (Moves from to) n calm unused = absurd calm

-- an operation that moves nothing and pins nothing leaves each directory where it stands, with its pin
pub calm_step : (limit : ℕ) (tree : Tree) (s : Shape) (n : ℕ) → IsCalmIn s → ((step_in limit tree s n).takes ≡ true → IsUnused tree n) → DirsStay tree (step_in limit tree s n).tree
calm_step limit tree s n calm unused = go (is_directory tree (directory_in s) && is_directory tree (destination_in s)) unused
  where
    go : (b : Bool) → ((cond b (done_in limit tree s n) (answers tree (Errno 116))).takes ≡ true → IsUnused tree n) → DirsStay tree (cond b (done_in limit tree s n) (answers tree (Errno 116))).tree
    go true unused = calm_done limit tree s n calm unused
    go false unused = as_it_stood tree
