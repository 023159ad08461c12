-- Laws of listings: which names they have, in which order, and how pages make up the whole.
use Rattle.std.specs.Prelude.{◌≡◌, ℕ, zero, suc, ◌<◌, Bool, true, false, cond, ◌&&◌, ◌||◌, ◌==◌, T, List, [], ◌∷◌, ◌++◌, map, filter, take, drop, slice_get, Option, Some, None, refl}
use Rattle.std.specs.List.{list_any}
use Rattle.std.proofs.Common.{sym, ap, subst, ◌∙◌, arith}
use Rattle.std.proofs.lemmas.Bool.Decides.{nat_tests}
use Rattle.std.proofs.lemmas.List.{take-append-drop}
use Rattle.std.proofs.lemmas.Map.Lookups.{exact_bytes}
use Rattle.std.proofs.lemmas.Bool.{and_parts, true≢false, false≢true}
use Rattle.std.specs.declared.cmp.Ordering.{Ordering}
use Rattle.std.specs.declared.cmp.Ordering.TheVariants.{Less, Equal, Greater}
use Rattle.std.specs.Ordering.{nat_cmp, ordering_then, ordering_reverse, is_lt, is_eq, eq_by_cmp, MatchOrdering}
use Rattle.std.specs.Cmp.{IsTotalOrder, ranks, tied_itself}
use Rattle.std.specs.Cmp.Lexicographic.{slice_cmp, nat_list_cmp_total}
use Rattle.std.specs.FinMap as finmap
use Rattle.std.specs.FinMap.{find, is_sorted, get-entries}
use Rattle.std.specs.FinMap.Entries.{below_all}
use Rattle.mds_types.specs.declared.dentries.Dentry.{Dentry}
use Rattle.mds_types.specs.declared.inodes.Inode.{Inode}
use Rattle.mds_types.specs.Tree.{Tree, dentry_cmp, dentry_of, has_entries}
use Rattle.mds_types.specs.Step.{is_after, names_after}
use Rattle.sorted_map.proofs.Bools.{left_of, right_of, both_of}
use Rattle.mds_types.specs.Outcomes.{IsListing}
use Rattle.sorted_map.proofs.PlaceLaws.{less as less_of}
use Rattle.sorted_map.proofs.MapLaws.{tie}

abbrev is_listed : ℕ → Option (List ℕ) → Dentry × Inode → Bool
is_listed d after e = (e.0.dir.0 == d) && is_after after e.0.name

abbrev named : Dentry × Inode → List ℕ × Inode
named e = (e.0.name, e.1)

abbrev listed : ℕ → Option (List ℕ) → List (Dentry × Inode) → List (List ℕ × Inode)
listed d after es = map named (filter (is_listed d after) es)

-- in one directory dentries are ordered as their names
same_dir : (d : ℕ) (a b : Dentry) → (a.dir.0 == d) ≡ true → (b.dir.0 == d) ≡ true → dentry_cmp a b ≡ slice_cmp nat_cmp a.name b.name
same_dir d a b p q = go (nat_cmp a.dir.0 b.dir.0) (ranks a.dir.0 b.dir.0)
  where
    go : (r : Ordering) → MatchOrdering r (a.dir.0 < b.dir.0) (a.dir.0 ≡ b.dir.0) (b.dir.0 < a.dir.0) → ordering_then r (slice_cmp nat_cmp a.name b.name) ≡ slice_cmp nat_cmp a.name b.name
    go Less h = absurd (grind (arith, nat_tests))
    go Equal h = refl
    go Greater h = absurd (grind (arith, nat_tests))

-- a listed row, or one that is left out
chosen : (d : ℕ) (after : Option (List ℕ)) (e : Dentry × Inode) (es : List (Dentry × Inode)) (b : Bool) → is_listed d after e ≡ b → listed d after (e ∷ es) ≡ cond b (named e ∷ listed d after es) (listed d after es)
chosen d after e es true is = ap (λ c. map named (cond c (e ∷ filter (is_listed d after) es) (filter (is_listed d after) es))) is
chosen d after e es false is = ap (λ c. map named (cond c (e ∷ filter (is_listed d after) es) (filter (is_listed d after) es))) is

-- the names behind a name of the directory are greater
below_listed : (d : ℕ) (after : Option (List ℕ)) (dentry : Dentry) (es : List (Dentry × Inode)) → (dentry.dir.0 == d) ≡ true → T (below_all dentry_cmp dentry es) → T (below_all (slice_cmp nat_cmp) dentry.name (listed d after es))
below_listed d after dentry [] here below = tt
below_listed d after dentry (e ∷ es) here below = go (is_listed d after e) refl (below_listed d after dentry es here (right_of _ _ below))
  where
    go : (b : Bool) → is_listed d after e ≡ b → T (below_all (slice_cmp nat_cmp) dentry.name (listed d after es)) → T (below_all (slice_cmp nat_cmp) dentry.name (listed d after (e ∷ es)))
    go true is rest =
        let less : T (is_lt (slice_cmp nat_cmp dentry.name e.0.name)) = subst (λ r. T (is_lt r)) (same_dir d dentry e.0 here (and_parts _ _ is).0) (left_of _ _ below) in
        subst (λ names. T (below_all (slice_cmp nat_cmp) dentry.name names)) (sym (chosen d after e es true is)) (both_of _ _ less rest)
    go false is rest = subst (λ names. T (below_all (slice_cmp nat_cmp) dentry.name names)) (sym (chosen d after e es false is)) rest

sorted_listed : (d : ℕ) (after : Option (List ℕ)) (es : List (Dentry × Inode)) → T (is_sorted dentry_cmp es) → T (is_sorted (slice_cmp nat_cmp) (listed d after es))
sorted_listed d after [] sorted = tt
sorted_listed d after (e ∷ es) sorted = go (is_listed d after e) refl (sorted_listed d after es (right_of _ _ sorted))
  where
    go : (b : Bool) → is_listed d after e ≡ b → T (is_sorted (slice_cmp nat_cmp) (listed d after es)) → T (is_sorted (slice_cmp nat_cmp) (listed d after (e ∷ es)))
    go true is rest =
        subst (λ names. T (is_sorted (slice_cmp nat_cmp) names)) (sym (chosen d after e es true is))
        (both_of _ _ (below_listed d after e.0 es (and_parts _ _ is).0 (left_of _ _ sorted)) rest)
    go false is rest = subst (λ names. T (is_sorted (slice_cmp nat_cmp) names)) (sym (chosen d after e es false is)) rest

-- a dentry of the directory is found among dentries as its name among names
pub tied_dentry : (d : ℕ) (name : List ℕ) (dentry : Dentry) (b : Bool) → (dentry.dir.0 == d) ≡ b → eq_by_cmp dentry_cmp (dentry_of d name) dentry ≡ (b && eq_by_cmp (slice_cmp nat_cmp) name dentry.name)
tied_dentry d name dentry true here = ap is_eq (same_dir d (dentry_of d name) dentry (grind (arith, nat_tests)) here)
tied_dentry d name dentry false other = go (nat_cmp d dentry.dir.0) (ranks d dentry.dir.0)
  where
    go : (r : Ordering) → MatchOrdering r (d < dentry.dir.0) (d ≡ dentry.dir.0) (dentry.dir.0 < d) → is_eq (ordering_then r (slice_cmp nat_cmp name dentry.name)) ≡ false
    go Less h = refl
    go Equal h = absurd (grind (arith, nat_tests))
    go Greater h = refl

-- one row more: found by its name where it is listed
found_more : (here past tied : Bool) (row : Inode) (rest others : Option Inode) (p : Bool) → (tied ≡ true → past ≡ p) → rest ≡ cond p others None
    → cond (here && past) (cond tied (Some row) rest) rest ≡ cond p (cond (here && tied) (Some row) others) None
found_more true true true row rest others true same e = refl
found_more true true true row rest others false same e = absurd (true≢false (same refl))
found_more true true false row rest others p same e = e
found_more true false true row rest others true same e = absurd (false≢true (same refl))
found_more true false true row rest others false same e = e
found_more true false false row rest others p same e = e
found_more false past tied row rest others p same e = e

find_chosen : (name : List ℕ) (d : ℕ) (after : Option (List ℕ)) (e : Dentry × Inode) (es : List (Dentry × Inode)) (b : Bool) → is_listed d after e ≡ b
    → find (slice_cmp nat_cmp) name (listed d after (e ∷ es)) ≡ cond b (cond (eq_by_cmp (slice_cmp nat_cmp) name e.0.name) (Some e.1) (find (slice_cmp nat_cmp) name (listed d after es))) (find (slice_cmp nat_cmp) name (listed d after es))
find_chosen name d after e es true is = ap (find (slice_cmp nat_cmp) name) (chosen d after e es true is)
find_chosen name d after e es false is = ap (find (slice_cmp nat_cmp) name) (chosen d after e es false is)

tied_name : (a b : List ℕ) → eq_by_cmp (slice_cmp nat_cmp) a b ≡ true → a ≡ b
tied_name a b tied = exact_bytes a b (tie (slice_cmp nat_cmp a b) tied)

find_listed : (d : ℕ) (after : Option (List ℕ)) (name : List ℕ) (es : List (Dentry × Inode))
    → find (slice_cmp nat_cmp) name (listed d after es) ≡ cond (is_after after name) (find dentry_cmp (dentry_of d name) es) None
find_listed d after name [] = none (is_after after name)
  where
    none : (b : Bool) → None ≡ cond {A = Option Inode} b None None
    none true = refl
    none false = refl
find_listed d after name (e ∷ es) =
    find_chosen name d after e es _ refl
    ∙ found_more (e.0.dir.0 == d) (is_after after e.0.name) (eq_by_cmp (slice_cmp nat_cmp) name e.0.name) e.1 _ (find dentry_cmp (dentry_of d name) es) (is_after after name)
    (λ tied. ap (is_after after) (sym (tied_name name e.0.name tied))) (find_listed d after name es)
    ∙ ap (λ b. cond (is_after after name) (cond b (Some e.1) (find dentry_cmp (dentry_of d name) es)) None) (sym (tied_dentry d name e.0 (e.0.dir.0 == d) refl))

-- the names after a given one are a listing
pub names_are_listed : (tree : Tree) (d : ℕ) (after : Option (List ℕ)) → IsListing tree d after (names_after tree d after)
unfolding names_after
names_are_listed tree d after = record {
  rises = sorted_listed d after (finmap.entries tree) (finmap.entries_sorted tree);
  exact = λ name. find_listed d after name (finmap.entries tree) ∙ ap (λ o. cond (is_after after name) o None) (sym (get-entries tree (dentry_of d name)));
}

any_listed : (d : ℕ) (es : List (Dentry × Inode)) (row : List ℕ × Inode) (rows : List (List ℕ × Inode)) → listed d None es ≡ row ∷ rows → list_any (λ e. e.0.dir.0 == d) es ≡ true
any_listed d [] row rows is = cc
any_listed d (e ∷ es) row rows is = go (e.0.dir.0 == d) refl (λ rest. any_listed d es row rows rest)
  where
    go : (b : Bool) → (e.0.dir.0 == d) ≡ b → (listed d None es ≡ row ∷ rows → list_any (λ e. e.0.dir.0 == d) es ≡ true) → ((e.0.dir.0 == d) || list_any (λ e. e.0.dir.0 == d) es) ≡ true
    go true here more = ap (λ b. b || list_any (λ e. e.0.dir.0 == d) es) here
    go false other more =
        ap (λ b. b || list_any (λ e. e.0.dir.0 == d) es) other
        ∙ more (sym (chosen d None e es false (ap (λ b. b && true) other)) ∙ is)

none_listed : (d : ℕ) (es : List (Dentry × Inode)) → listed d None es ≡ [] → list_any (λ e. e.0.dir.0 == d) es ≡ false
none_listed d [] is = refl
none_listed d (e ∷ es) is = go (e.0.dir.0 == d) refl (λ rest. none_listed d es rest)
  where
    go : (b : Bool) → (e.0.dir.0 == d) ≡ b → (listed d None es ≡ [] → list_any (λ e. e.0.dir.0 == d) es ≡ false) → ((e.0.dir.0 == d) || list_any (λ e. e.0.dir.0 == d) es) ≡ false
    go true here more = let none : named e ∷ listed d None es ≡ [] = sym (chosen d None e es true (ap (λ b. b && true) here)) ∙ is in absurd cc
    go false other more =
        ap (λ b. b || list_any (λ e. e.0.dir.0 == d) es) other
        ∙ more (sym (chosen d None e es false (ap (λ b. b && true) other)) ∙ is)

-- a directory has entries where its listing has a name, and none where it is empty
pub entries_listed : (tree : Tree) (d : ℕ) (row : List ℕ × Inode) (rows : List (List ℕ × Inode)) → names_after tree d None ≡ row ∷ rows → has_entries tree d ≡ true
unfolding names_after has_entries
entries_listed tree d row rows is = any_listed d (finmap.entries tree) row rows is

pub no_entries_listed : (tree : Tree) (d : ℕ) → names_after tree d None ≡ [] → has_entries tree d ≡ false
unfolding names_after has_entries
no_entries_listed tree d is = none_listed d (finmap.entries tree) is

not_after : (r : Ordering) → r ≡ Less → is_lt (ordering_reverse r) ≡ false
not_after r is = ap (λ s. is_lt (ordering_reverse s)) is

-- what is left of a page: the names greater than one of them are those behind it
module _ {K X : Type 0} {R : K → K → Ordering} (o : IsTotalOrder R) where
  abbrev greater : K → List (K × X) → List (K × X)
  greater k es = filter (λ e. is_lt (R k e.0)) es

  all_greater : (k : K) (es : List (K × X)) → T (below_all R k es) → greater k es ≡ es
  all_greater k [] below = refl
  all_greater k (e ∷ es) below = go (is_lt (R k e.0)) (left_of _ _ below) (all_greater k es (right_of _ _ below))
    where
      go : (b : Bool) → T b → greater k es ≡ es → cond b (e ∷ greater k es) (greater k es) ≡ e ∷ es
      go true h rest = ap (λ xs. e ∷ xs) rest
      go false h rest = absurd h

  below_at : (k : K) (es : List (K × X)) (i : ℕ) (row : K × X) → T (below_all R k es) → slice_get es i ≡ Some row → R k row.0 ≡ Less
  below_at k [] i row below is = cc
  below_at k (e ∷ es) zero row below is = let same : e ≡ row = cc in subst (λ x. R k x.0 ≡ Less) same (less_of _ (left_of _ _ below))
  below_at k (e ∷ es) (suc i) row below is = below_at k es i row (right_of _ _ below) is

  pub greater_than_row : (es : List (K × X)) (i : ℕ) (row : K × X) → T (is_sorted R es) → slice_get es i ≡ Some row → greater row.0 es ≡ drop (suc i) es
  greater_than_row [] i row sorted is = cc
  greater_than_row (e ∷ es) zero row sorted is =
      let same : e ≡ row = cc in
      subst (λ (x : K × X). greater x.0 (e ∷ es) ≡ es) same
      (ap (λ r. cond (is_lt r) (e ∷ greater e.0 es) (greater e.0 es)) (tied_itself o e.0) ∙ all_greater e.0 es (left_of _ _ sorted))
  greater_than_row (e ∷ es) (suc i) row sorted is =
      let less : R e.0 row.0 ≡ Less = below_at e.0 es i row (left_of _ _ sorted) is in
      ap (λ b. cond b (e ∷ greater row.0 es) (greater row.0 es)) (ap is_lt (o.antisymm row.0 e.0) ∙ not_after _ less)
      ∙ greater_than_row es i row (right_of _ _ sorted) is

-- listed after x, and listed after `after` and then greater than x, come to one where x itself comes after `after`
narrowed : (here past greater : Bool) (row : List ℕ × Inode) (rest others : List (List ℕ × Inode)) (x : List ℕ) → (greater ≡ true → past ≡ true) → greater ≡ is_lt (slice_cmp nat_cmp x row.0)
    → rest ≡ filter (λ p. is_lt (slice_cmp nat_cmp x p.0)) others
    → cond (here && greater) (row ∷ rest) rest ≡ filter (λ p. is_lt (slice_cmp nat_cmp x p.0)) (cond (here && past) (row ∷ others) others)
narrowed true true true row rest others x implies is e = ap (λ xs. row ∷ xs) e ∙ ap (λ b. cond b (row ∷ filter (λ p. is_lt (slice_cmp nat_cmp x p.0)) others) (filter (λ p. is_lt (slice_cmp nat_cmp x p.0)) others)) is
narrowed true true false row rest others x implies is e = e ∙ ap (λ b. cond b (row ∷ filter (λ p. is_lt (slice_cmp nat_cmp x p.0)) others) (filter (λ p. is_lt (slice_cmp nat_cmp x p.0)) others)) is
narrowed true false true row rest others x implies is e = let never : false ≡ true = implies refl in cc
narrowed true false false row rest others x implies is e = e
narrowed false past greater row rest others x implies is e = e

chosen_by : (d : ℕ) (after : Option (List ℕ)) (e : Dentry × Inode) (es : List (Dentry × Inode)) → listed d after (e ∷ es) ≡ cond (is_listed d after e) (named e ∷ listed d after es) (listed d after es)
chosen_by d after e es = chosen d after e es (is_listed d after e) refl

listed_narrowed : (d : ℕ) (after : Option (List ℕ)) (x : List ℕ) (es : List (Dentry × Inode)) → ((name : List ℕ) → is_lt (slice_cmp nat_cmp x name) ≡ true → is_after after name ≡ true)
    → listed d (Some x) es ≡ filter (λ p. is_lt (slice_cmp nat_cmp x p.0)) (listed d after es)
listed_narrowed d after x [] implies = refl
listed_narrowed d after x (e ∷ es) implies =
    chosen_by d (Some x) e es
    ∙ narrowed (e.0.dir.0 == d) (is_after after e.0.name) (is_lt (slice_cmp nat_cmp x e.0.name)) (named e) _ (listed d after es) x (implies e.0.name) refl (listed_narrowed d after x es implies)
    ∙ sym (ap (filter (λ p. is_lt (slice_cmp nat_cmp x p.0))) (chosen_by d after e es))

pub less_is : (r : Ordering) → is_lt r ≡ true → r ≡ Less
less_is Less h = refl
less_is Equal h = cc
less_is Greater h = cc

-- a name greater than one that comes after `after` comes after it too
after_chain : (after : Option (List ℕ)) (x : List ℕ) → is_after after x ≡ true → (name : List ℕ) → is_lt (slice_cmp nat_cmp x name) ≡ true → is_after after name ≡ true
after_chain None x past name less = refl
after_chain (Some a) x past name less = ap is_lt (nat_list_cmp_total.trans a x name (less_is _ past) (less_is _ less))

listed_after_by : (d : ℕ) (after : Option (List ℕ)) (e : Dentry × Inode) (es : List (Dentry × Inode)) (i : ℕ) (row : List ℕ × Inode) (b : Bool) → is_listed d after e ≡ b
    → ((j : ℕ) → slice_get (listed d after es) j ≡ Some row → is_after after row.0 ≡ true) → slice_get (listed d after (e ∷ es)) i ≡ Some row → is_after after row.0 ≡ true
listed_after_by d after e es zero row true is others got =
    let same : Some (named e) ≡ Some row = sym (ap (λ names. slice_get names 0) (chosen d after e es true is)) ∙ got in
    let one : named e ≡ row = cc in
    subst (λ (r : List ℕ × Inode). is_after after r.0 ≡ true) one (and_parts _ _ is).1
listed_after_by d after e es (suc i) row true is others got = others i (sym (ap (λ names. slice_get names (suc i)) (chosen d after e es true is)) ∙ got)
listed_after_by d after e es i row false is others got = others i (sym (ap (λ names. slice_get names i) (chosen d after e es false is)) ∙ got)

-- each listed name comes after `after`
listed_after : (d : ℕ) (after : Option (List ℕ)) (es : List (Dentry × Inode)) (i : ℕ) (row : List ℕ × Inode) → slice_get (listed d after es) i ≡ Some row → is_after after row.0 ≡ true
listed_after d after [] i row is = cc
listed_after d after (e ∷ es) i row is = listed_after_by d after e es i row (is_listed d after e) refl (λ j. listed_after d after es j row) is

-- the names that follow a listed one are those listed after it: paged by its last name, a listing is whole
pub pages_make_up : (tree : Tree) (d : ℕ) (after : Option (List ℕ)) (i : ℕ) (row : List ℕ × Inode) → slice_get (names_after tree d after) i ≡ Some row
    → take (suc i) (names_after tree d after) ++ names_after tree d (Some row.0) ≡ names_after tree d after
unfolding names_after
pages_make_up tree d after i row is =
    let es = finmap.entries tree in
    let rest : listed d (Some row.0) es ≡ drop (suc i) (listed d after es) =
    listed_narrowed d after row.0 es (after_chain after row.0 (listed_after d after es i row is))
    ∙ greater_than_row nat_list_cmp_total (listed d after es) i row (sorted_listed d after es (finmap.entries_sorted tree)) is in
    ap (λ names. take (suc i) (listed d after es) ++ names) rest ∙ take-append-drop (suc i) (listed d after es)
