-- How many entries a directory has once an entry came, was set or went.
use Rattle.std.specs.Prelude.{◌≡◌, ℕ, ◌<◌, ◌+◌, ◌-◌, ◌==◌, Bool, true, false, not, cond, List, [], ◌∷◌, length, Option, Some, None, is_some, refl}
use Rattle.std.proofs.Common.{sym, ap, ◌∙◌, arith}
use Rattle.std.proofs.lemmas.Bool.{eqb-true, false_from_ne_true}
use Rattle.std.specs.declared.cmp.Ordering.TheVariants.{Equal}
use Rattle.std.specs.Ordering.{eq_by_cmp}
use Rattle.std.specs.FinMap as map
use Rattle.std.specs.FinMap.{find, get-empty, get-entries, get-insert, get-remove, get-retain_keys, len-empty, len-entries, len-insert, len-remove, same_map}
use Rattle.mds_types.specs.declared.dentries.Dentry.{Dentry}
use Rattle.mds_types.specs.declared.inodes.Inode.{Inode}
use Rattle.mds_types.specs.Tree.{Tree, dentry_cmp, entries_in, has_entries, is_in, NothingIn}
use Rattle.sorted_map.proofs.NatKeys.{is_same}
use Rattle.mds_types.specs.OrderLaws.{dentry-exact}
use Rattle.mds_types.proofs.OrderLaws.{dentry-total}
use Rattle.mds_types.proofs.DirectoryLaws.{entry_in, nothing_in_empty}
use Rattle.mds_types.proofs.EntryLaws.{dentry_tied}

-- the test of a directory tells equal dentries alike
alike : (d : ℕ) (q x : Dentry) → dentry_cmp q x ≡ Equal → is_in d x ≡ is_in d q
alike d q x tied = ap (is_in d) (sym (dentry-exact q x tied))

kept : (tree : Tree) (d : ℕ) (q : Dentry) → map.get (map.retain_keys tree (is_in d)) q ≡ cond (is_in d q) (map.get tree q) None
kept tree d q = get-retain_keys tree (is_in d) q (alike d q)

of_same : (d : ℕ) (q p : Dentry) → eq_by_cmp dentry_cmp q p ≡ true → is_in d q ≡ is_in d p
of_same d q p tied = ap (is_in d) (dentry_tied q p tied)

here_alike : {X : Type 0} (e h : Bool) (x y : Option X) → (e ≡ true → h ≡ true) → cond h (cond e x y) None ≡ cond e x (cond h y None)
here_alike true true x y is = refl
here_alike true false x y is = let clash : false ≡ true = is refl in cc
here_alike false true x y is = refl
here_alike false false x y is = refl

beside_alike : {X : Type 0} (e h : Bool) (x y : Option X) → (e ≡ true → h ≡ false) → cond h (cond e x y) None ≡ cond h y None
beside_alike true true x y is = let clash : true ≡ false = is refl in cc
beside_alike true false x y is = refl
beside_alike false true x y is = refl
beside_alike false false x y is = refl

-- the entries of the directory where one is put, and of another
put_here : (tree : Tree) (d : ℕ) (p : Dentry) (x : Inode) → is_in d p ≡ true → map.retain_keys (map.insert tree p x) (is_in d) ≡ map.insert (map.retain_keys tree (is_in d)) p x
put_here tree d p x here = same_map dentry-total dentry-exact _ _ (λ q.
    kept (map.insert tree p x) d q
    ∙ ap (λ r. cond (is_in d q) r None) (get-insert dentry-total tree p x q)
    ∙ here_alike (eq_by_cmp dentry_cmp q p) (is_in d q) (Some x) (map.get tree q) (λ tied. of_same d q p tied ∙ here)
    ∙ ap (λ r. cond (eq_by_cmp dentry_cmp q p) (Some x) r) (sym (kept tree d q))
    ∙ sym (get-insert dentry-total (map.retain_keys tree (is_in d)) p x q))

put_beside : (tree : Tree) (d : ℕ) (p : Dentry) (x : Inode) → is_in d p ≡ false → map.retain_keys (map.insert tree p x) (is_in d) ≡ map.retain_keys tree (is_in d)
put_beside tree d p x there = same_map dentry-total dentry-exact _ _ (λ q.
    kept (map.insert tree p x) d q
    ∙ ap (λ r. cond (is_in d q) r None) (get-insert dentry-total tree p x q)
    ∙ beside_alike (eq_by_cmp dentry_cmp q p) (is_in d q) (Some x) (map.get tree q) (λ tied. of_same d q p tied ∙ there)
    ∙ sym (kept tree d q))

gone_here : (tree : Tree) (d : ℕ) (p : Dentry) → is_in d p ≡ true → map.retain_keys (map.remove tree p) (is_in d) ≡ map.remove (map.retain_keys tree (is_in d)) p
gone_here tree d p here = same_map dentry-total dentry-exact _ _ (λ q.
    kept (map.remove tree p) d q
    ∙ ap (λ r. cond (is_in d q) r None) (get-remove dentry-total tree p q)
    ∙ here_alike (eq_by_cmp dentry_cmp q p) (is_in d q) None (map.get tree q) (λ tied. of_same d q p tied ∙ here)
    ∙ ap (λ r. cond (eq_by_cmp dentry_cmp q p) None r) (sym (kept tree d q))
    ∙ sym (get-remove dentry-total (map.retain_keys tree (is_in d)) p q))

gone_beside : (tree : Tree) (d : ℕ) (p : Dentry) → is_in d p ≡ false → map.retain_keys (map.remove tree p) (is_in d) ≡ map.retain_keys tree (is_in d)
gone_beside tree d p there = same_map dentry-total dentry-exact _ _ (λ q.
    kept (map.remove tree p) d q
    ∙ ap (λ r. cond (is_in d q) r None) (get-remove dentry-total tree p q)
    ∙ beside_alike (eq_by_cmp dentry_cmp q p) (is_in d q) None (map.get tree q) (λ tied. of_same d q p tied ∙ there)
    ∙ sym (kept tree d q))

-- whether the dentry has an entry, asked of its directory's alone
has_it : (tree : Tree) (d : ℕ) (p : Dentry) (r : Option Inode) → is_in d p ≡ true → map.get tree p ≡ r → is_some (map.get (map.retain_keys tree (is_in d)) p) ≡ is_some r
has_it tree d p r here is = ap is_some (kept tree d p ∙ ap (λ b. cond b (map.get tree p) None) here ∙ is)

-- an entry that comes makes one more in its directory
pub entries_come : (tree : Tree) (d : ℕ) (p : Dentry) (x : Inode) → map.get tree p ≡ None → entries_in (map.insert tree p x) d ≡ cond (is_in d p) (entries_in tree d + 1) (entries_in tree d)
unfolding entries_in
entries_come tree d p x free = go (is_in d p) refl
  where
    go : (b : Bool) → is_in d p ≡ b → map.len (map.retain_keys (map.insert tree p x) (is_in d)) ≡ cond b (map.len (map.retain_keys tree (is_in d)) + 1) (map.len (map.retain_keys tree (is_in d)))
    go true here = ap map.len (put_here tree d p x here) ∙ len-insert dentry-total (map.retain_keys tree (is_in d)) p x
        ∙ ap (λ b. cond b (map.len (map.retain_keys tree (is_in d))) (map.len (map.retain_keys tree (is_in d)) + 1)) (has_it tree d p None here free)
    go false there = ap map.len (put_beside tree d p x there)

-- one that is set makes none
pub entries_set : (tree : Tree) (d : ℕ) (p : Dentry) (was x : Inode) → map.get tree p ≡ Some was → entries_in (map.insert tree p x) d ≡ entries_in tree d
unfolding entries_in
entries_set tree d p was x stands = go (is_in d p) refl
  where
    go : (b : Bool) → is_in d p ≡ b → map.len (map.retain_keys (map.insert tree p x) (is_in d)) ≡ map.len (map.retain_keys tree (is_in d))
    go true here = ap map.len (put_here tree d p x here) ∙ len-insert dentry-total (map.retain_keys tree (is_in d)) p x
        ∙ ap (λ b. cond b (map.len (map.retain_keys tree (is_in d))) (map.len (map.retain_keys tree (is_in d)) + 1)) (has_it tree d p (Some was) here stands)
    go false there = ap map.len (put_beside tree d p x there)

-- one that goes leaves one less
pub entries_go : (tree : Tree) (d : ℕ) (p : Dentry) (was : Inode) → map.get tree p ≡ Some was → entries_in (map.remove tree p) d ≡ cond (is_in d p) (entries_in tree d - 1) (entries_in tree d)
unfolding entries_in
entries_go tree d p was stands = go (is_in d p) refl
  where
    go : (b : Bool) → is_in d p ≡ b → map.len (map.retain_keys (map.remove tree p) (is_in d)) ≡ cond b (map.len (map.retain_keys tree (is_in d)) - 1) (map.len (map.retain_keys tree (is_in d)))
    go true here = ap map.len (gone_here tree d p here) ∙ len-remove dentry-total (map.retain_keys tree (is_in d)) p
        ∙ ap (λ b. cond b (map.len (map.retain_keys tree (is_in d)) - 1) (map.len (map.retain_keys tree (is_in d)))) (has_it tree d p (Some was) here stands)
    go false there = ap map.len (gone_beside tree d p there)

-- where nothing stands in a directory it has no entry
pub none_in : (tree : Tree) (d : ℕ) → NothingIn tree d → entries_in tree d ≡ 0
unfolding entries_in
none_in tree d nothing = ap map.len (same_map dentry-total dentry-exact (map.retain_keys tree (is_in d)) map.empty (λ q. kept tree d q ∙ go q (is_in d q) refl (map.get tree q) refl ∙ sym (get-empty dentry_cmp q))) ∙ len-empty dentry_cmp Inode
  where
    go : (q : Dentry) (b : Bool) → is_in d q ≡ b → (r : Option Inode) → map.get tree q ≡ r → cond b r None ≡ None
    go q true here None is = refl
    go q true here (Some x) is = absurd (nothing q x is (eqb-true q.dir.0 d here))
    go q false there r is = refl

-- where something stands in a directory it has one
pub some_in : (tree : Tree) (p : Dentry) (x : Inode) → map.get tree p ≡ Some x → 0 < entries_in tree p.dir.0
unfolding entries_in
some_in tree p x stands = go (map.entries mine) (len-entries mine) (sym (get-entries mine p) ∙ kept tree p.dir.0 p ∙ ap (λ b. cond b (map.get tree p) None) (is_same p.dir.0 p.dir.0 refl) ∙ stands)
  where
    mine : Tree
    mine = map.retain_keys tree (is_in p.dir.0)

    go : (es : List (Dentry × Inode)) → map.len mine ≡ length es → find dentry_cmp p es ≡ Some x → 0 < map.len mine
    go [] long found = cc
    go (e ∷ es) long found = omega (arith, long)

-- the empty tree's directories have none
pub none_in_empty : (d : ℕ) → entries_in map.empty d ≡ 0
none_in_empty d = none_in map.empty d (λ q x stands same. let clash : None ≡ Some x = sym (get-empty dentry_cmp q) ∙ stands in cc)

-- a directory has an entry exactly where its count isn't 0
pub none_counted : (tree : Tree) (d : ℕ) → (entries_in tree d == 0) ≡ not (has_entries tree d)
none_counted tree d = go (has_entries tree d) refl
  where
    no_zero : (n : ℕ) → 0 < n → (n == 0) ≡ false
    no_zero n more = false_from_ne_true (n == 0) (λ is. omega (arith, eqb-true n 0 is, more))

    go : (b : Bool) → has_entries tree d ≡ b → (entries_in tree d == 0) ≡ not (has_entries tree d)
    go true some =
        let its = entry_in tree d some in
        ap (λ n. n == 0) (ap (entries_in tree) (sym its.2)) ∙ no_zero (entries_in tree its.0.0.dir.0) (some_in tree its.0.0 its.0.1 its.1) ∙ ap not (sym some)
    go false none = ap (λ n. n == 0) (none_in tree d (nothing_in_empty tree d none)) ∙ ap not (sym none)
