-- Laws of the operation table.
use Rattle.std.specs.Prelude.{◌≡◌, ℕ, Bool, true, false, cond, not, ◌&&◌, Option, Some, None, refl}
use Rattle.std.proofs.Common.{sym, ◌∙◌}
use Rattle.mds_types.specs.declared.dentries.Dentry.{Dentry}
use Rattle.mds_types.specs.declared.inodes.Alteration.{Alteration}
use Rattle.mds_types.specs.declared.inodes.Inode.{Inode}
use Rattle.mds_types.specs.declared.operations.Op.{Op}
use Rattle.mds_types.specs.declared.replies.Reply.{Reply}
use Rattle.mds_types.specs.declared.replies.Reply.TheVariants.{Entry, Done, Errno}
use Rattle.std.specs.FinMap as map
use Rattle.std.specs.Ordering.{eq_by_cmp}
use Rattle.mds_types.specs.Tree.{Tree, dentry_cmp, is_directory, is_dir_kind}
use Rattle.mds_types.specs.Shape.{Shape, Looks, Lists, Makes, Sets, Unlinks, Removes, Moves, destination_in, directory_in, makes_in, shape}
use Rattle.mds_types.specs.Step.{Outcome, answers, unless, altered, altered_at, alteration_errno, looked, done_in, step, made, unlinked, dir_removed, removal_errno, leads_to, replace_errno, room_errno, full_errno, renamed}
use Rattle.mds_types.specs.Outcomes.{ErrnoLeaves, TakesWhereMade, is_errno}

full-unused : (errno : Option ℕ) (tree : Tree) (x y : Outcome) → x.takes ≡ true → (unless tree errno x).takes ≡ false → unless tree errno x ≡ unless tree errno y
full-unused None tree x y takes unused = let clash : true ≡ false = sym takes ∙ unused in absurd cc
full-unused (Some errno) tree x y takes unused = refl

made-unused : (limit : ℕ) (tree : Tree) (dentry : Dentry) (i j : Inode) (found : Option Inode) → (made limit tree dentry i found).takes ≡ false → made limit tree dentry i found ≡ made limit tree dentry j found
made-unused limit tree dentry i j None unused = full-unused (full_errno limit tree dentry.dir.0) tree _ _ refl unused
made-unused limit tree dentry i j (Some other) unused = refl

done-unused : (limit : ℕ) (tree : Tree) (s : Shape) (n m : ℕ) → (done_in limit tree s n).takes ≡ false → done_in limit tree s n ≡ done_in limit tree s m
done-unused limit tree (Looks dentry answer) n m unused = refl
done-unused limit tree (Lists dir after max) n m unused = refl
done-unused limit tree (Makes dentry kind mode birth) n m unused = made-unused limit tree _ _ _ (map.get tree dentry) unused
done-unused limit tree (Sets dentry alteration) n m unused = refl
done-unused limit tree (Unlinks dentry) n m unused = refl
done-unused limit tree (Removes dentry) n m unused = refl
done-unused limit tree (Moves from to) n m unused = refl

chosen-unused : (b : Bool) (x y z : Outcome) → (x.takes ≡ false → x ≡ y) → (cond b x z).takes ≡ false → cond b x z ≡ cond b y z
chosen-unused true x y z same unused = same unused
chosen-unused false x y z same unused = refl

-- a number that the table doesn't take has no part in the outcome
pub unused : (limit : ℕ) (tree : Tree) (op : Op) (n m : ℕ) → (step limit tree op n).takes ≡ false → step limit tree op n ≡ step limit tree op m
unused limit tree op n m = chosen-unused (is_directory tree (directory_in (shape op)) && is_directory tree (destination_in (shape op))) _ _ _ (done-unused limit tree (shape op) n m)

looked-leaves : (tree : Tree) (answer : Inode → Reply) (found_one : Option Inode) → ErrnoLeaves tree (looked tree answer found_one)
looked-leaves tree answer None errno = refl
looked-leaves tree answer (Some inode) errno = refl

either-leaves : (b : Bool) (tree : Tree) (x y : Outcome) → ErrnoLeaves tree x → ErrnoLeaves tree y → ErrnoLeaves tree (cond b x y)
either-leaves true tree x y h k = h
either-leaves false tree x y h k = k

unless-leaves : (o : Option ℕ) (tree : Tree) (x : Outcome) → ErrnoLeaves tree x → ErrnoLeaves tree (unless tree o x)
unless-leaves None tree x h = h
unless-leaves (Some number) tree x h = λ errno. refl

done-leaves : (tree new : Tree) → ErrnoLeaves tree (answers new Done)
done-leaves tree new errno = cc

entry-leaves : (tree new : Tree) (inode : Inode) (takes : Bool) → ErrnoLeaves tree (record { reply = Entry inode; tree = new; takes = takes })
entry-leaves tree new inode takes errno = cc

made-leaves : (limit : ℕ) (tree : Tree) (dentry : Dentry) (inode : Inode) (other : Option Inode) → ErrnoLeaves tree (made limit tree dentry inode other)
made-leaves limit tree dentry inode None = unless-leaves (full_errno limit tree dentry.dir.0) tree _ (entry-leaves tree (map.insert tree dentry inode) inode true)
made-leaves limit tree dentry inode (Some other) = λ errno. refl

altered_at-leaves : (tree : Tree) (dentry : Dentry) (alteration : Alteration) (found_one : Option Inode) → ErrnoLeaves tree (altered_at tree dentry alteration found_one)
altered_at-leaves tree dentry alteration None = λ errno. refl
altered_at-leaves tree dentry alteration (Some inode) =
    unless-leaves (alteration_errno inode.kind alteration) tree _ (entry-leaves tree (map.insert tree dentry (altered alteration inode)) (altered alteration inode) false)

unlinked-leaves : (tree : Tree) (dentry : Dentry) (found_one : Option Inode) → ErrnoLeaves tree (unlinked tree dentry found_one)
unlinked-leaves tree dentry None = λ errno. refl
unlinked-leaves tree dentry (Some inode) = either-leaves (is_dir_kind inode.kind) tree _ _ (λ errno. refl) (done-leaves tree (map.remove tree dentry))

dir_removed-leaves : (tree : Tree) (dentry : Dentry) (found_one : Option Inode) → ErrnoLeaves tree (dir_removed tree dentry found_one)
dir_removed-leaves tree dentry None = λ errno. refl
dir_removed-leaves tree dentry (Some inode) = unless-leaves (removal_errno tree inode) tree _ (done-leaves tree (map.remove tree dentry))

renamed-leaves : (limit : ℕ) (tree : Tree) (from to : Dentry) (source target : Option Inode) → ErrnoLeaves tree (renamed limit tree from to source target)
renamed-leaves limit tree from to None target = λ errno. refl
renamed-leaves limit tree from to (Some inode) target =
    either-leaves (eq_by_cmp dentry_cmp from to) tree _ _ (done-leaves tree _)
    (either-leaves (leads_to tree inode to.dir.0) tree _ _ (λ errno. refl) (unless-leaves (replace_errno tree inode target) tree _
    (unless-leaves (room_errno limit tree from to target) tree _ (done-leaves tree _))))

done_in-leaves : (limit : ℕ) (tree : Tree) (s : Shape) (n : ℕ) → ErrnoLeaves tree (done_in limit tree s n)
done_in-leaves limit tree (Looks dentry answer) n = looked-leaves tree answer (map.get tree dentry)
done_in-leaves limit tree (Lists dir after max) n = λ errno. refl
done_in-leaves limit tree (Makes dentry kind mode birth) n = made-leaves limit tree _ _ (map.get tree dentry)
done_in-leaves limit tree (Sets dentry alteration) n = altered_at-leaves tree dentry alteration (map.get tree dentry)
done_in-leaves limit tree (Unlinks dentry) n = unlinked-leaves tree dentry (map.get tree dentry)
done_in-leaves limit tree (Removes dentry) n = dir_removed-leaves tree dentry (map.get tree dentry)
done_in-leaves limit tree (Moves from to) n = renamed-leaves limit tree from to (map.get tree from) (map.get tree to)

chosen-leaves : (b : Bool) (tree : Tree) (x : Outcome) → ErrnoLeaves tree x → ErrnoLeaves tree (cond b x (answers tree (Errno 116)))
chosen-leaves true tree x h = h
chosen-leaves false tree x h = λ errno. refl

pub errno_leaves : (limit : ℕ) (tree : Tree) (op : Op) (n : ℕ) → ErrnoLeaves tree (step limit tree op n)
errno_leaves limit tree op n =
    chosen-leaves (is_directory tree (directory_in (shape op)) && is_directory tree (destination_in (shape op))) tree (done_in limit tree (shape op) n) (done_in-leaves limit tree (shape op) n)

looked-takes : (tree : Tree) (answer : Inode → Reply) (found_one : Option Inode) → (looked tree answer found_one).takes ≡ false
looked-takes tree answer None = refl
looked-takes tree answer (Some inode) = refl

full-takes : (errno : Option ℕ) (tree : Tree) (x : Outcome) → x.takes ≡ not (is_errno x.reply) → (unless tree errno x).takes ≡ not (is_errno (unless tree errno x).reply)
full-takes None tree x h = h
full-takes (Some errno) tree x h = refl

made-takes : (limit : ℕ) (tree : Tree) (dentry : Dentry) (inode : Inode) (other : Option Inode) → (made limit tree dentry inode other).takes ≡ not (is_errno (made limit tree dentry inode other).reply)
made-takes limit tree dentry inode None = full-takes (full_errno limit tree dentry.dir.0) tree _ refl
made-takes limit tree dentry inode (Some other) = refl

either-takes : (b : Bool) (x y : Outcome) → x.takes ≡ false → y.takes ≡ false → (cond b x y).takes ≡ false
either-takes true x y h k = h
either-takes false x y h k = k

unless-takes : (o : Option ℕ) (tree : Tree) (x : Outcome) → x.takes ≡ false → (unless tree o x).takes ≡ false
unless-takes None tree x h = h
unless-takes (Some number) tree x h = refl

altered_at-takes : (tree : Tree) (dentry : Dentry) (alteration : Alteration) (found_one : Option Inode) → (altered_at tree dentry alteration found_one).takes ≡ false
altered_at-takes tree dentry alteration None = refl
altered_at-takes tree dentry alteration (Some inode) = unless-takes (alteration_errno inode.kind alteration) tree _ refl

unlinked-takes : (tree : Tree) (dentry : Dentry) (found_one : Option Inode) → (unlinked tree dentry found_one).takes ≡ false
unlinked-takes tree dentry None = refl
unlinked-takes tree dentry (Some inode) = either-takes (is_dir_kind inode.kind) _ _ refl refl

dir_removed-takes : (tree : Tree) (dentry : Dentry) (found_one : Option Inode) → (dir_removed tree dentry found_one).takes ≡ false
dir_removed-takes tree dentry None = refl
dir_removed-takes tree dentry (Some inode) = unless-takes (removal_errno tree inode) tree _ refl

renamed-takes : (limit : ℕ) (tree : Tree) (from to : Dentry) (source target : Option Inode) → (renamed limit tree from to source target).takes ≡ false
renamed-takes limit tree from to None target = refl
renamed-takes limit tree from to (Some inode) target =
    either-takes (eq_by_cmp dentry_cmp from to) _ _ refl
    (either-takes (leads_to tree inode to.dir.0) _ _ refl (unless-takes (replace_errno tree inode target) tree _
    (unless-takes (room_errno limit tree from to target) tree _ refl)))

-- a number is taken where a shape makes an inode and that succeeds
abbrev TakesIn : Shape → Outcome → Type 0
TakesIn s outcome = outcome.takes ≡ (makes_in s && not (is_errno outcome.reply))

done_in-takes : (limit : ℕ) (tree : Tree) (s : Shape) (n : ℕ) → TakesIn s (done_in limit tree s n)
done_in-takes limit tree (Looks dentry answer) n = looked-takes tree answer (map.get tree dentry)
done_in-takes limit tree (Lists dir after max) n = refl
done_in-takes limit tree (Makes dentry kind mode birth) n = made-takes limit tree _ _ (map.get tree dentry)
done_in-takes limit tree (Sets dentry alteration) n = altered_at-takes tree dentry alteration (map.get tree dentry)
done_in-takes limit tree (Unlinks dentry) n = unlinked-takes tree dentry (map.get tree dentry)
done_in-takes limit tree (Removes dentry) n = dir_removed-takes tree dentry (map.get tree dentry)
done_in-takes limit tree (Moves from to) n = renamed-takes limit tree from to (map.get tree from) (map.get tree to)

and_false : (b : Bool) → (b && false) ≡ false
and_false true = refl
and_false false = refl

chosen-takes : (b : Bool) (tree : Tree) (s : Shape) (x : Outcome) → TakesIn s x → TakesIn s (cond b x (answers tree (Errno 116)))
chosen-takes true tree s x h = h
chosen-takes false tree s x h = sym (and_false (makes_in s))

pub takes_where_made : (limit : ℕ) (tree : Tree) (op : Op) (n : ℕ) → TakesWhereMade op (step limit tree op n)
takes_where_made limit tree op n =
    chosen-takes (is_directory tree (directory_in (shape op)) && is_directory tree (destination_in (shape op))) tree (shape op) (done_in limit tree (shape op) n) (done_in-takes limit tree (shape op) n)

-- whether a step answers an errno, the number that it is offered has no part in
full-errno : (errno : Option ℕ) (tree : Tree) (x y : Outcome) → is_errno x.reply ≡ is_errno y.reply → is_errno (unless tree errno x).reply ≡ is_errno (unless tree errno y).reply
full-errno None tree x y same = same
full-errno (Some errno) tree x y same = refl

made-errno : (limit : ℕ) (tree : Tree) (dentry : Dentry) (i j : Inode) (found_one : Option Inode) → is_errno (made limit tree dentry i found_one).reply ≡ is_errno (made limit tree dentry j found_one).reply
made-errno limit tree dentry i j None = full-errno (full_errno limit tree dentry.dir.0) tree _ _ refl
made-errno limit tree dentry i j (Some other) = refl

done_in-errno : (limit : ℕ) (tree : Tree) (s : Shape) (n m : ℕ) → is_errno (done_in limit tree s n).reply ≡ is_errno (done_in limit tree s m).reply
done_in-errno limit tree (Looks dentry answer) n m = refl
done_in-errno limit tree (Lists dir after max) n m = refl
done_in-errno limit tree (Makes dentry kind mode birth) n m = made-errno limit tree _ _ _ (map.get tree dentry)
done_in-errno limit tree (Sets dentry alteration) n m = refl
done_in-errno limit tree (Unlinks dentry) n m = refl
done_in-errno limit tree (Removes dentry) n m = refl
done_in-errno limit tree (Moves from to) n m = refl

chosen-errno : (b : Bool) (x y z : Outcome) → is_errno x.reply ≡ is_errno y.reply → is_errno (cond b x z).reply ≡ is_errno (cond b y z).reply
chosen-errno true x y z same = same
chosen-errno false x y z same = refl

pub errno_of_any_number : (limit : ℕ) (tree : Tree) (op : Op) (n m : ℕ) → is_errno (step limit tree op n).reply ≡ is_errno (step limit tree op m).reply
errno_of_any_number limit tree op n m =
    chosen-errno (is_directory tree (directory_in (shape op)) && is_directory tree (destination_in (shape op))) (done_in limit tree (shape op) n) (done_in limit tree (shape op) m)
    (answers tree (Errno 116)) (done_in-errno limit tree (shape op) n m)
