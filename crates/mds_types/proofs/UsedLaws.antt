-- Every number that stands in the tree after a legal history was given.
use Rattle.mds_types.proofs.Common.{Bool, Contains, Dentry, Ino, Inode, IsLegal, IsNext, IsUsed, List, None, Option, Some, Tree, [], after, ap, arith, cond, dentry_cmp, eq_by_cmp, false, find, get-entries, get_or-append_seam, get_or_append_left, inl, inr, is_some, length, length-append, number_or, numbers, refl, slice_index_or, subst, suc, sym, take, take_all, take_more, true, zero, ℕ, ⊎_elim, ◌++◌, ◌<◌, ◌∙◌, ◌∷◌, ◌≡◌, ◌≤◌}
use Rattle.std.specs.Prelude.{◌+◌, map}
use Rattle.std.specs.FinMap as finmap
use Rattle.mds_types.specs.declared.entries.Entry.{Entry}
use Rattle.mds_types.proofs.HistoryLaws.{after-push}
use Rattle.mds_types.proofs.NumberLaws.{old_or_taken}

pair_number : (es : List (Dentry × Inode)) (dentry : Dentry) (inode : Inode) → find dentry_cmp dentry es ≡ Some inode → Contains (map (λ e. e.1.ino.0) es) inode.ino.0
pair_number [] dentry inode found = cc
pair_number (e ∷ es) dentry inode found = go (eq_by_cmp dentry_cmp dentry e.0) refl (λ rest. pair_number es dentry inode rest)
  where
    go : (b : Bool) → eq_by_cmp dentry_cmp dentry e.0 ≡ b → (find dentry_cmp dentry es ≡ Some inode → Contains (map (λ e. e.1.ino.0) es) inode.ino.0) → Contains (e.1.ino.0 ∷ map (λ e. e.1.ino.0) es) inode.ino.0
    go true tied more =
        let values : Some e.1 ≡ Some inode = sym (ap (λ b. cond b (Some e.1) (find dentry_cmp dentry es)) tied) ∙ found in
        let same : e.1 ≡ inode = cc in
        (0, omega arith, ap (λ (i : Inode). i.ino.0) same)
    go false apart more =
        let w = more (sym (ap (λ b. cond b (Some e.1) (find dentry_cmp dentry es)) apart) ∙ found) in
        (suc w.0, omega (arith, w.1), w.2)

-- an inode's number is one of the tree's
number_stands : (tree : Tree) (dentry : Dentry) (inode : Inode) → finmap.get tree dentry ≡ Some inode → Contains (numbers tree) inode.ino.0
number_stands tree dentry inode stands = pair_number (finmap.entries tree) dentry inode (sym (get-entries tree dentry) ∙ stands)

-- what was used is used with one entry more
used_still : (opening : Tree) (past : List Entry) (e : Entry) (n : ℕ) → IsUsed opening past n → IsUsed opening (past ++ e ∷ []) n
used_still opening past e n (inl root) = inl root
used_still opening past e n (inr (inl stands)) = inr (inl stands)
used_still opening past e n (inr (inr (k, x, below, is, took))) =
    inr (inr (k, x, omega (arith, below, length-append past (e ∷ [])), get_or_append_left past (e ∷ []) x k below ∙ is, took))

used_now : (opening : Tree) (past : List Entry) (e : Entry) (n : ℕ) → e.number ≡ Some (record { 0 = n }) → IsUsed opening (past ++ e ∷ []) n
used_now opening past e n took = inr (inr (length past, e, omega (arith, length-append past (e ∷ [])), get_or-append_seam past e [] e, took))

some_number : (number : Option Ino) (n : ℕ) → is_some number ≡ true → n ≡ number_or number → number ≡ Some (record { 0 = n })
some_number None n some is = cc
some_number (Some ino) n some is = ap (λ k. Some (record { 0 = k })) (sym is)

-- one entry more
used_more : (limit : ℕ) (opening : Tree) (past : List Entry) (e : Entry) → ((dentry : Dentry) (inode : Inode) → finmap.get (after limit opening past) dentry ≡ Some inode → IsUsed opening past inode.ino.0) → IsNext limit opening past e
    → (dentry : Dentry) (inode : Inode) → finmap.get (after limit opening (past ++ e ∷ [])) dentry ≡ Some inode → IsUsed opening (past ++ e ∷ []) inode.ino.0
used_more limit opening past e before next dentry inode stands =
    ⊎_elim
    (λ (q, j, stood, same). subst (λ n. IsUsed opening (past ++ e ∷ []) n) same (used_still opening past e j.ino.0 (before q j stood)))
    (λ w. used_now opening past e inode.ino.0 (some_number e.number inode.ino.0 (next.number ∙ w.0) w.1))
    (old_or_taken limit (after limit opening past) e.op (number_or e.number) dentry inode (ap (λ t. finmap.get t dentry) (sym (after-push limit opening past e)) ∙ stands))

-- so far in a history
used_so_far : (limit : ℕ) (opening : Tree) (history : List Entry) (d : Entry) → IsLegal limit opening history → (k : ℕ) → k ≤ length history
    → (dentry : Dentry) (inode : Inode) → finmap.get (after limit opening (take k history)) dentry ≡ Some inode → IsUsed opening (take k history) inode.ino.0
used_so_far limit opening history d legal zero few dentry inode stands = inr (inl (number_stands opening dentry inode stands))
used_so_far limit opening history d legal (suc k) few dentry inode stands =
    let below : k < length history = omega (arith, few) in
    let one : suc k ≡ k + 1 = omega arith in
    let more : take (suc k) history ≡ take k history ++ slice_index_or history k d ∷ [] = ap (λ n. take n history) one ∙ take_more history k d below in
    subst (λ h. IsUsed opening h inode.ino.0) (sym more)
    (used_more limit opening (take k history) (slice_index_or history k d) (used_so_far limit opening history d legal k (omega (arith, few))) (legal k d below) dentry inode
    (ap (λ h. finmap.get (after limit opening h) dentry) (sym more) ∙ stands))

-- every number that stands after a legal history was given
pub numbers_used : (limit : ℕ) (opening : Tree) (history : List Entry) → IsLegal limit opening history → (dentry : Dentry) (inode : Inode) → finmap.get (after limit opening history) dentry ≡ Some inode → IsUsed opening history inode.ino.0
numbers_used limit opening [] legal dentry inode stands = inr (inl (number_stands opening dentry inode stands))
numbers_used limit opening (d ∷ rest) legal dentry inode stands =
    let all : take (length (d ∷ rest)) (d ∷ rest) ≡ d ∷ rest = take_all (length (d ∷ rest)) (d ∷ rest) (omega arith) in
    subst (λ h. IsUsed opening h inode.ino.0) all
    (used_so_far limit opening (d ∷ rest) d legal (length (d ∷ rest)) (omega arith) dentry inode (ap (λ h. finmap.get (after limit opening h) dentry) all ∙ stands))
