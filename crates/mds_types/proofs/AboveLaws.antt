-- What is above what: the test that the operation table makes is exact in every well-formed tree, since no chain of entries
-- is longer than the tree.
use Rattle.std.specs.Prelude.{◌≡◌, ℕ, zero, suc, ◌<◌, ◌≤◌, ◌-◌, ◌↔◌, Bool, true, false, cond, ◌||◌, ◌&&◌, ◌==◌, is_some, Option, Some, None, refl}
use Rattle.std.proofs.Common.{sym, ap, subst, ◌∙◌, ⊎_elim, arith}
use Rattle.std.proofs.lemmas.Bool.{eqb-true, and_from, and_parts, or_left, or_right}
use Rattle.std.specs.FinMap as map
use Rattle.std.specs.FinMap.{get-empty, get-entries, len-remove, empty_of_len}
use Rattle.mds_types.specs.declared.dentries.Dentry.{Dentry}
use Rattle.mds_types.specs.declared.inodes.Inode.{Inode}
use Rattle.mds_types.specs.Tree.{Tree, dentry_cmp, dentry_of, at, is_above_within, is_above, IsAbove, child, further, IsWellFormed}
use Rattle.mds_types.proofs.OrderLaws.{dentry-total}
use Rattle.mds_types.proofs.DirectoryLaws.{one_dentry}
use Rattle.mds_types.proofs.EntryLaws.{get_left, stands_after_removal, any_of}
use Rattle.mds_types.proofs.EntrySearch.{any_found}
use Rattle.sorted_map.proofs.NatKeys.{is_same}

-- so many entries lead from the root to the inode of a number
abbrev pub Climbs : Tree → ℕ → ℕ → Type 0
Climbs tree zero x = x ≡ 1
Climbs tree (suc n) x = (dentry : Dentry) × (inode : Inode) × (map.get tree dentry ≡ Some inode) × (inode.ino.0 ≡ x) × Climbs tree n dentry.dir.0

-- no number stands twice, and the root's nowhere
record IsNumbered (tree : Tree) : Type 0 where
  pub rootless : (p : Dentry) (i : Inode) → map.get tree p ≡ Some i → i.ino.0 ≡ 1 → ⊥
  pub once : (p q : Dentry) (i j : Inode) → map.get tree p ≡ Some i → map.get tree q ≡ Some j → i.ino.0 ≡ j.ino.0 → p ≡ q

numbered : (tree : Tree) → IsWellFormed tree → IsNumbered tree
numbered tree whole = record { rootless = λ p i. whole.rootless p.dir.0 p.name i; once = one_dentry tree whole }

numbered-removed : (tree : Tree) (p : Dentry) → IsNumbered tree → IsNumbered (map.remove tree p)
numbered-removed tree p n = record {
  rootless = λ q i stands. n.rootless q i (stands_after_removal tree p q i stands).1;
  once = λ q r i j here there. n.once q r i j (stands_after_removal tree p q i here).1 (stands_after_removal tree p r j there).1;
}

-- two chains from the root to a number are of one length
same_height : (tree : Tree) (n m x : ℕ) → IsNumbered tree → Climbs tree n x → Climbs tree m x → n ≡ m
same_height tree zero zero x numbers root other = refl
same_height tree zero (suc m) x numbers root (p, i, stands, is, rest) = absurd (numbers.rootless p i stands (is ∙ root))
same_height tree (suc n) zero x numbers (p, i, stands, is, rest) root = absurd (numbers.rootless p i stands (is ∙ root))
same_height tree (suc n) (suc m) x numbers (p, i, stands, is, rest) (q, j, stood, was, others) =
    let alike : p ≡ q = numbers.once p q i j stands stood (is ∙ sym was) in
    ap suc (same_height tree n m p.dir.0 numbers rest (subst (λ (r : Dentry). Climbs tree m r.dir.0) (sym alike) others))

-- a chain that is shorter than that to x doesn't go through the entry of x
around : (tree : Tree) (height x : ℕ) (at_x : Dentry) (of_x : Inode) → IsNumbered tree → map.get tree at_x ≡ Some of_x → of_x.ino.0 ≡ x → Climbs tree height x
    → (m y : ℕ) → m < height → Climbs tree m y → Climbs (map.remove tree at_x) m y
around tree height x at_x of_x numbers there is tall zero y less root = root
around tree height x at_x of_x numbers there is tall (suc m) y less (p, i, stands, same, rest) =
    (p, i, get_left tree at_x p apart ∙ stands, same, around tree height x at_x of_x numbers there is tall m p.dir.0 (omega arith) rest)
  where
    apart : p ≡ at_x → ⊥
    apart one =
        let inodes : Some i ≡ Some of_x = sym stands ∙ ap (λ q. map.get tree q) one ∙ there in
        let alike : i ≡ of_x = cc in
        let numbered_x : y ≡ x = sym same ∙ ap (λ (j : Inode). j.ino.0) alike ∙ is in
        let length : height ≡ suc m = same_height tree height (suc m) x numbers tall (subst (λ z. Climbs tree (suc m) z) numbered_x (p, i, stands, same, rest)) in
        omega arith

-- a tree has one entry fewer without one of its own
one_fewer : (tree : Tree) (p : Dentry) (i : Inode) → map.get tree p ≡ Some i → suc (map.len (map.remove tree p)) ≡ map.len tree
one_fewer tree p i is =
    let gone : map.len (map.remove tree p) ≡ map.len tree - 1 = len-remove dentry-total tree p ∙ ap (λ (o : Option Inode). cond (is_some o) (map.len tree - 1) (map.len tree)) is in
    let some : map.len tree ≡ 0 → ⊥ = λ none. let clash : None ≡ Some i = sym (get-empty dentry_cmp p) ∙ ap (λ (m : Tree). map.get m p) (sym (empty_of_len tree none)) ∙ is in cc in
    omega arith

-- a chain is no longer than the tree
within_tree : (n : ℕ) (tree : Tree) (x : ℕ) → IsNumbered tree → Climbs tree n x → n ≤ map.len tree
within_tree zero tree x numbers root = omega arith
within_tree (suc n) tree x numbers (p, i, stands, is, rest) =
    let less = within_tree n (map.remove tree p) p.dir.0 (numbered-removed tree p numbers) (around tree (suc n) x p i numbers stands is (p, i, stands, is, rest) n p.dir.0 (omega arith) rest) in
    let fewer = one_fewer tree p i stands in
    omega arith

-- a chain from the root has a length
climbs_of : (tree : Tree) (x : ℕ) → IsAbove tree 1 x → (n : ℕ) × Climbs tree n x
climbs_of tree _ (child name inode stands) = (1, (dentry_of 1 name, inode, stands, refl, refl))
climbs_of tree _ (further m name inode above stands) = let before = climbs_of tree m above in (suc before.0, (dentry_of m name, inode, stands, refl, before.1))

-- the directory of each entry is reached by a chain
climbs_to_parent : (tree : Tree) (m : ℕ) (name : _) (inode : Inode) → IsWellFormed tree → at tree m name ≡ Some inode → (n : ℕ) × Climbs tree n m
climbs_to_parent tree m name inode whole stands = ⊎_elim (λ root. (0, root)) (climbs_of tree m) (whole.rooted m name inode stands)

-- what the test finds is a chain
pub above_found : (n : ℕ) (tree : Tree) (d x : ℕ) → is_above_within n tree d x ≡ true → IsAbove tree d x
above_found zero tree d x holds = cc
above_found (suc n) tree d x holds =
    let w = any_found dentry-total (λ e. (e.1.ino.0 == x) && ((e.0.dir.0 == d) || is_above_within n tree d e.0.dir.0)) (map.entries tree) (map.entries_sorted tree) holds in
    let stands : at tree w.0.0.dir.0 w.0.0.name ≡ Some w.0.1 = get-entries tree w.0.0 ∙ w.1 in
    subst (λ y. IsAbove tree d y) (eqb-true w.0.1.ino.0 x (and_parts _ _ w.2).0)
    (go w.0.0 w.0.1 stands (w.0.0.dir.0 == d) refl (is_above_within n tree d w.0.0.dir.0) (above_found n tree d w.0.0.dir.0) (and_parts _ _ w.2).1)
  where
    go : (p : Dentry) (i : Inode) → at tree p.dir.0 p.name ≡ Some i → (a : Bool) → (p.dir.0 == d) ≡ a → (b : Bool) → (b ≡ true → IsAbove tree d p.dir.0) → (a || b) ≡ true → IsAbove tree d i.ino.0
    go p i stands true is b below some = child p.name i (ap (λ m. at tree m p.name) (sym (eqb-true p.dir.0 d is)) ∙ stands)
    go p i stands false is b below some = further p.dir.0 p.name i (below some) stands

-- a chain is found by a test that goes as far as the chain from the root
found_above : (tree : Tree) (d x : ℕ) → IsNumbered tree → IsAbove tree d x → (n k : ℕ) → Climbs tree n x → n ≤ k → is_above_within k tree d x ≡ true
found_above tree d _ numbers (child name inode stands) zero k root few = absurd (numbers.rootless (dentry_of d name) inode stands root)
found_above tree d _ numbers (child name inode stands) (suc n) zero climbs few = absurd (omega arith)
found_above tree d _ numbers (child name inode stands) (suc n) (suc k) climbs few =
    any_of tree _ (dentry_of d name) inode stands (and_from _ _ (is_same inode.ino.0 inode.ino.0 refl) (or_left _ _ (is_same d d refl)))
found_above tree d _ numbers (further m name inode above stands) zero k root few = absurd (numbers.rootless (dentry_of m name) inode stands root)
found_above tree d _ numbers (further m name inode above stands) (suc n) zero climbs few = absurd (omega arith)
found_above tree d _ numbers (further m name inode above stands) (suc n) (suc k) (p, i, stood, is, rest) few =
    let alike : p ≡ dentry_of m name = numbers.once p (dentry_of m name) i inode stood stands is in
    let shorter : Climbs tree n m = subst (λ (q : Dentry). Climbs tree n q.dir.0) alike rest in
    any_of tree _ (dentry_of m name) inode stands (and_from _ _ (is_same inode.ino.0 inode.ino.0 refl) (or_right _ _ (found_above tree d m numbers above n k shorter (omega arith))))

-- whatever is above something has an entry below it: the chain to that has a length
climbs_below : (tree : Tree) (d x : ℕ) → IsWellFormed tree → IsAbove tree d x → (n : ℕ) × Climbs tree n x
climbs_below tree d _ whole (child name inode stands) = let up = climbs_to_parent tree d name inode whole stands in (suc up.0, (dentry_of d name, inode, stands, refl, up.1))
climbs_below tree d _ whole (further m name inode above stands) = let up = climbs_to_parent tree m name inode whole stands in (suc up.0, (dentry_of m name, inode, stands, refl, up.1))

-- in a well-formed tree the test is exact
pub above_exact : (tree : Tree) (d x : ℕ) → IsWellFormed tree → (is_above tree d x ≡ true) ↔ IsAbove tree d x
unfolding is_above
above_exact tree d x whole = (
  above_found (map.len tree) tree d x,
  λ above.
      let up = climbs_below tree d x whole above in
      found_above tree d x (numbered tree whole) above up.0 (map.len tree) up.1 (within_tree up.0 tree x (numbered tree whole) up.1),
)
