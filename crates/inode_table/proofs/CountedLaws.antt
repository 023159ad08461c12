-- How many entries each directory has, beside the tree: the counts stay the tree's where entries come and go.
use Rattle.std.proofs.Common.{◌≡◌, ◌==◌, ℕ, ◌+◌, ◌-◌, ◌<◌, true, false, cond, is_some, Option, Some, None, ⊎_elim, refl, sym, ap, subst, ◌∙◌, arith}
use Rattle.std.proofs.lemmas.Bool.{cond_both, eqb-true}
use Rattle.std.specs.Ordering.{nat_cmp}
use Rattle.std.specs.FinMap as map
use Rattle.std.specs.FinMap.{get-empty}
use Rattle.mds_types.specs.declared.dentries.Dentry.{Dentry}
use Rattle.mds_types.specs.declared.inodes.Inode.{Inode}
use Rattle.mds_types.specs.Tree.{Tree, dentry_cmp, entries_in, is_directory, IsUnused, IsWellFormed, NothingIn}
use Rattle.mds_types.specs.Step.{IsMove, with_moved}
use Rattle.mds_types.proofs.CountLaws.{entries_come, entries_go, entries_set, none_in, none_in_empty, some_in}
use Rattle.mds_types.proofs.DirectoryLaws.{StandsAs, directory_stands}
use Rattle.mds_types.proofs.EntryLaws.{get_left, stands_after_put}
use Rattle.mds_types.proofs.MovedLaws.{MayMove, may_move}
use Rattle.sorted_map.proofs.NatKeys.{get_beside, get_left as get_left_count, get_put, get_removed, is_apart, is_same, same_or_apart}
use Rattle.inode_table.specs.Dirs.{Counts, count_of, one_less, one_more, or_zero}
use Rattle.inode_table.specs.TreeChanges.{MayAdd}
use Rattle.inode_table.specs.TreeTable.{HoldsCounts, counts_moved}

-- the count of a directory once that of one was set
pub count_set : (counts : Counts) (k n d : ℕ) → count_of (map.insert counts k n) d ≡ cond (k == d) n (count_of counts d)
count_set counts k n d =
    ⊎_elim (λ same. ap (count_of (map.insert counts k n)) (sym same) ∙ ap or_zero (get_put counts k n) ∙ sym (ap (λ b. cond b n (count_of counts d)) (is_same k d same)))
    (λ apart. ap or_zero (get_beside counts k n d (λ same. apart (sym same))) ∙ sym (ap (λ b. cond b n (count_of counts d)) (is_apart k d apart))) (same_or_apart k d)

-- and of another directory
pub count_apart : (counts : Counts) (k n d : ℕ) → (k == d) ≡ false → count_of (map.insert counts k n) d ≡ count_of counts d
count_apart counts k n d apart = count_set counts k n d ∙ ap (λ b. cond b n (count_of counts d)) apart

module _ (tree : Tree) (counts : Counts) (holds : HoldsCounts tree counts) where
  -- an entry comes to a free dentry,
  pub comes : (p : Dentry) (x : Inode) → map.get tree p ≡ None → HoldsCounts (map.insert tree p x) (one_more counts p.dir.0)
  comes p x free d = grind (arith, count_set counts p.dir.0 (count_of counts p.dir.0 + 1) d, entries_come tree d p x free, holds p.dir.0, holds d)

  -- one is set,
  pub set : (p : Dentry) (was x : Inode) → map.get tree p ≡ Some was → HoldsCounts (map.insert tree p x) counts
  set p was x stands d = holds d ∙ sym (entries_set tree d p was x stands)

  -- and one goes
  pub goes : (p : Dentry) (was : Inode) → map.get tree p ≡ Some was → HoldsCounts (map.remove tree p) (one_less counts p.dir.0)
  goes p was stands d = grind (arith, count_set counts p.dir.0 (count_of counts p.dir.0 - 1) d, entries_go tree d p was stands, holds p.dir.0, holds d)

  -- a directory in which nothing is has the count 0, or none
  module _ (k : ℕ) (nothing : NothingIn tree k) where
    pub with_none : HoldsCounts tree (map.insert counts k 0)
    with_none d = grind (arith, count_set counts k 0 d, none_in tree k nothing, holds d)

    pub without_none : HoldsCounts tree (map.remove counts k)
    without_none d =
        ⊎_elim (λ same. ap (count_of (map.remove counts k)) same ∙ ap or_zero (get_removed counts k) ∙ sym (ap (entries_in tree) same ∙ none_in tree k nothing))
        (λ apart. ap or_zero (get_left_count counts k d apart) ∙ holds d) (same_or_apart d k)

-- a count that is lowered and raised again is what it was
less_and_more : (counts : Counts) (k d : ℕ) → 0 < count_of counts k → count_of (one_more (one_less counts k) k) d ≡ count_of counts d
less_and_more counts k d some =
    let less = count_set counts k (count_of counts k - 1) in
    grind (arith, count_set (one_less counts k) k (count_of (one_less counts k) k + 1) d, less k, less d, some)

-- an entry moves
pub moved_counts : (tree : Tree) (counts : Counts) (from to : Dentry) (inode : Inode) → IsWellFormed tree → HoldsCounts tree counts → IsMove tree from to inode
    → HoldsCounts (with_moved tree from to inode) (counts_moved counts from.dir.0 to.dir.0 (is_some (map.get tree to)))
moved_counts tree counts from to inode whole holds move = go (map.get tree to) refl
  where
    may : MayMove tree from to inode
    may = may_move tree from to inode whole move

    gone : HoldsCounts (map.remove tree from) (one_less counts from.dir.0)
    gone = goes tree counts holds from inode may.stands

    stays : (o : Option Inode) → map.get tree to ≡ o → map.get (map.remove tree from) to ≡ o
    stays o is = get_left tree from to (λ same. may.apart (sym same)) ∙ is

    go : (o : Option Inode) → map.get tree to ≡ o → HoldsCounts (with_moved tree from to inode) (counts_moved counts from.dir.0 to.dir.0 (is_some o))
    go (Some t) there = set (map.remove tree from) (one_less counts from.dir.0) gone to t inode (stays (Some t) there)
    go None free =
        let came = comes (map.remove tree from) (one_less counts from.dir.0) gone to inode (stays None free) in
        cond_both (from.dir.0 == to.dir.0) counts (one_more (one_less counts from.dir.0) to.dir.0) (HoldsCounts (with_moved tree from to inode))
        (λ is d.
        sym (less_and_more counts from.dir.0 d (subst (λ n. 0 < n) (sym (holds from.dir.0)) (some_in tree from inode may.stands))) ∙ ap (λ k. count_of (one_more (one_less counts from.dir.0) k) d) (eqb-true from.dir.0 to.dir.0 is) ∙ came d) (λ is. came)

-- the root alone, in which nothing is
pub empty_counted : HoldsCounts map.empty (map.insert map.empty 1 0)
empty_counted = with_none map.empty map.empty (λ d. ap or_zero (get-empty nat_cmp d) ∙ sym (none_in_empty d)) 1 (λ q x stands same. let clash : None ≡ Some x = sym (get-empty dentry_cmp q) ∙ stands in cc)

-- nothing is in what has an unused number, also once an inode with it came
no_directory : (tree : Tree) (n : ℕ) → IsUnused tree n → is_directory tree n ≡ true → ⊥
no_directory tree n unused stands = ⊎_elim (λ root. unused.not_root root) (λ (w : StandsAs tree n). unused.not_there w.dentry.dir.0 w.dentry.name w.inode w.stands w.numbered) (directory_stands tree n stands)

pub new_is_empty : (tree : Tree) (dentry : Dentry) (inode : Inode) → IsWellFormed tree → MayAdd tree dentry inode → NothingIn (map.insert tree dentry inode) inode.ino.0
new_is_empty tree dentry inode whole may q x stands same =
    ⊎_elim
    (λ w. no_directory tree inode.ino.0 may.unused (ap (is_directory tree) (sym same ∙ ap (λ (p : Dentry). p.dir.0) w.0) ∙ may.parent))
    (λ w. no_directory tree inode.ino.0 may.unused (ap (is_directory tree) (sym same) ∙ whole.parents q.dir.0 q.name x w.1))
    (stands_after_put tree dentry inode q x stands)
