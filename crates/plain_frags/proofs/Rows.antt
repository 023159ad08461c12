-- The names of a directory among dentries in order: a run of neighbours.
use Rattle.plain_frags.proofs.Common.{Bool, Dentry, Equal, Greater, Inode, Less, List, MatchOption, MatchOrdering, None, Option, Ordering, Some, T, Tree, [], ap, arith, below_all, cond, dentry_cmp, dentry_of, entries_listed, false, filter, has_entries, is_after, is_apart, is_le, is_lt, is_some, is_sorted, left_of, map, nat_cmp, nat_tests, no_entries_listed, not, ordering_then, ranks, refl, right_of, run, slice_cmp, sym, true, ℕ, ◌&&◌, ◌<◌, ◌==◌, ◌∙◌, ◌∷◌, ◌≡◌, ◌≤◌}
use Rattle.std.specs.FinMap as finmap
use Rattle.mds_types.specs.Step.{names_after}

-- whether a dentry comes after a name of the directory; after none, whether it comes no earlier than the directory's names
abbrev pub begins : ℕ → Option (List ℕ) → Dentry → Bool
begins d None dentry = is_le (dentry_cmp (dentry_of d []) dentry)
begins d (Some name) dentry = is_lt (dentry_cmp (dentry_of d name) dentry)

-- the rows from there on
abbrev pub rows_from : ℕ → Option (List ℕ) → List (Dentry × Inode) → List (Dentry × Inode)
rows_from d after rows = filter (λ e. begins d after e.0) rows

-- the test of `names_after`
abbrev pub is_listed : ℕ → Option (List ℕ) → Dentry × Inode → Bool
is_listed d after e = (e.0.dir.0 == d) && is_after after e.0.name

abbrev pub named : Dentry × Inode → List ℕ × Inode
named e = (e.0.name, e.1)

-- how a dentry stands to the names of d after `after`
pub data Standing (d : ℕ) (after : Option (List ℕ)) (dentry : Dentry) : Type 0 where
  earlier : begins d after dentry ≡ false → (dentry.dir.0 == d) ≡ false → Standing d after dentry
  here : begins d after dentry ≡ is_after after dentry.name → (dentry.dir.0 == d) ≡ true → Standing d after dentry
  later : begins d after dentry ≡ true → d < dentry.dir.0 → Standing d after dentry

-- nothing comes before the empty name
from_empty : (name : List ℕ) → is_le (slice_cmp nat_cmp [] name) ≡ true
from_empty [] = refl
from_empty (x ∷ name) = refl

begins_by : (d : ℕ) (after : Option (List ℕ)) (dentry : Dentry) (r : Ordering) → nat_cmp d dentry.dir.0 ≡ r → MatchOrdering r (d < dentry.dir.0) (d ≡ dentry.dir.0) (dentry.dir.0 < d) → Standing d after dentry
begins_by d None dentry Less is h = later (ap (λ r. is_le (ordering_then r (slice_cmp nat_cmp [] dentry.name))) is) h
begins_by d (Some name) dentry Less is h = later (ap (λ r. is_lt (ordering_then r (slice_cmp nat_cmp name dentry.name))) is) h
begins_by d None dentry Equal is h = here (ap (λ r. is_le (ordering_then r (slice_cmp nat_cmp [] dentry.name))) is ∙ from_empty dentry.name) (grind (arith, nat_tests))
begins_by d (Some name) dentry Equal is h = here (ap (λ r. is_lt (ordering_then r (slice_cmp nat_cmp name dentry.name))) is) (grind (arith, nat_tests))
begins_by d None dentry Greater is h = earlier (ap (λ r. is_le (ordering_then r (slice_cmp nat_cmp [] dentry.name))) is) (is_apart dentry.dir.0 d (λ e. omega arith))
begins_by d (Some name) dentry Greater is h = earlier (ap (λ r. is_lt (ordering_then r (slice_cmp nat_cmp name dentry.name))) is) (is_apart dentry.dir.0 d (λ e. omega arith))

standing : (d : ℕ) (after : Option (List ℕ)) (dentry : Dentry) → Standing d after dentry
standing d after dentry = begins_by d after dentry (nat_cmp d dentry.dir.0) refl (ranks d dentry.dir.0)

-- a greater dentry is in no lesser directory
dir_rises_by : (a b : Dentry) (r : Ordering) → MatchOrdering r (a.dir.0 < b.dir.0) (a.dir.0 ≡ b.dir.0) (b.dir.0 < a.dir.0) → T (is_lt (ordering_then r (slice_cmp nat_cmp a.name b.name))) → b.dir.0 < a.dir.0 → ⊥
dir_rises_by a b Less h less back = omega arith
dir_rises_by a b Equal h less back = omega arith
dir_rises_by a b Greater h less back = less

dir_rises : (a b : Dentry) → T (is_lt (dentry_cmp a b)) → a.dir.0 ≤ b.dir.0
dir_rises a b less = at_least a.dir.0 b.dir.0 (dir_rises_by a b (nat_cmp a.dir.0 b.dir.0) (ranks a.dir.0 b.dir.0) less)
  where
    at_least : (m n : ℕ) → (n < m → ⊥) → m ≤ n
    at_least m n apart = omega arith

-- behind a dentry of a later directory no name of d is listed
none_later : (d : ℕ) (after : Option (List ℕ)) (dentry : Dentry) (es : List (Dentry × Inode)) → d < dentry.dir.0 → T (below_all dentry_cmp dentry es) → filter (is_listed d after) es ≡ []
none_later d after dentry [] past below = refl
none_later d after dentry (e ∷ es) past below =
    let apart : (e.0.dir.0 == d) ≡ false = is_apart e.0.dir.0 d (λ same. omega (arith, dir_rises dentry e.0 (left_of _ _ below))) in
    ap (λ b. cond (b && is_after after e.0.name) (e ∷ filter (is_listed d after) es) (filter (is_listed d after) es)) apart
    ∙ none_later d after dentry es past (right_of _ _ below)

-- one row more, by how its dentry stands
row_more : (d : ℕ) (after : Option (List ℕ)) (e : Dentry × Inode) (es : List (Dentry × Inode)) → T (below_all dentry_cmp e.0 es)
    → map named (filter (is_listed d after) es) ≡ run d (rows_from d after es) → Standing d after e.0
    → map named (filter (is_listed d after) (e ∷ es)) ≡ run d (rows_from d after (e ∷ es))
row_more d after e es below same (earlier outside other) =
    ap (λ b. map named (cond (b && is_after after e.0.name) (e ∷ filter (is_listed d after) es) (filter (is_listed d after) es))) other
    ∙ same ∙ sym (ap (λ b. run d (cond b (e ∷ rows_from d after es) (rows_from d after es))) outside)
row_more d after e es below same (here starts inside) =
    ap (λ b. map named (cond (b && is_after after e.0.name) (e ∷ filter (is_listed d after) es) (filter (is_listed d after) es))) inside
    ∙ both_ways (is_after after e.0.name)
    ∙ sym (ap (λ b. run d (cond b (e ∷ rows_from d after es) (rows_from d after es))) starts)
  where
    both_ways : (b : Bool) → map named (cond b (e ∷ filter (is_listed d after) es) (filter (is_listed d after) es)) ≡ run d (cond b (e ∷ rows_from d after es) (rows_from d after es))
    both_ways true = ap (λ names. named e ∷ names) same ∙ sym (ap (λ b. cond b (named e ∷ run d (rows_from d after es)) []) inside)
    both_ways false = same
row_more d after e es below same (later starts past) =
    let other : (e.0.dir.0 == d) ≡ false = is_apart e.0.dir.0 d (λ is. omega (arith, is)) in
    ap (λ b. map named (cond (b && is_after after e.0.name) (e ∷ filter (is_listed d after) es) (filter (is_listed d after) es))) other
    ∙ ap (map named) (none_later d after e.0 es past below)
    ∙ sym (ap (λ b. run d (cond b (e ∷ rows_from d after es) (rows_from d after es))) starts ∙ ap (λ b. cond b (named e ∷ run d (rows_from d after es)) []) other)

-- the listed names are the run of neighbours from there on
pub listed-run : (d : ℕ) (after : Option (List ℕ)) (es : List (Dentry × Inode)) → T (is_sorted dentry_cmp es) → map named (filter (is_listed d after) es) ≡ run d (rows_from d after es)
listed-run d after [] sorted = refl
listed-run d after (e ∷ es) sorted = row_more d after e es (left_of _ _ sorted) (listed-run d after es (right_of _ _ sorted)) (standing d after e.0)

-- the names of a directory greater than a given one are the run of neighbours from there on
pub names_run : (tree : Tree) (d : ℕ) (after : Option (List ℕ)) → names_after tree d after ≡ run d (rows_from d after (finmap.entries tree))
unfolding names_after
names_run tree d after = listed-run d after (finmap.entries tree) (finmap.entries_sorted tree)

-- whether a directory is empty, by the first name of its listing
pub empty_told : {R : Type 0} (named_by : R → List ℕ × Inode) (tree : Tree) (d : ℕ) (first : Option R) (names rest : List (List ℕ × Inode)) (told : Bool) → names ≡ names_after tree d None
    → MatchOption first (names ≡ []) (λ r. names ≡ named_by r ∷ rest) → is_some first ≡ not told → told ≡ not (has_entries tree d)
empty_told named_by tree d None names rest true are none is = ap not (sym (no_entries_listed tree d (sym are ∙ none)))
empty_told named_by tree d None names rest false are none is = cc
empty_told named_by tree d (Some r) names rest true are some is = cc
empty_told named_by tree d (Some r) names rest false are some is = ap not (sym (entries_listed tree d (named_by r) rest (sym are ∙ some)))
