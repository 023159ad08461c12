-- The shown tree is told by the names of the live leaves.
use Rattle.mdcache.proofs.Common.{Contains, Covers, Fragment, Homes, IsLive, Leaf, List, Names, [], ap, contains_key-keys, directories, dentries_in, entries_of, entries_under, eq_by_cmp, is_known, is_same, is_some, later, leaves_of, list_any, nat_cmp, or_cases, or_left, or_right, refl, sym, true, unsigned_tied, ℕ, ⊎_elim, ◌++◌, ◌==◌, ◌∙◌, ◌∷◌, ◌≡◌}
use Rattle.std.specs.FinMap as finmap
use Rattle.mdcache.specs.Shown.{tree_of}
use Rattle.fragtree.proofs.TreeLaws.{first}

under_alike : (new old : Leaf → Names) (d : ℕ) (leaves : List Fragment) → ((f : Fragment) → Contains leaves f → new (record { 0 = d }, f) ≡ old (record { 0 = d }, f)) → entries_under new d leaves ≡ entries_under old d leaves
under_alike new old d [] same = refl
under_alike new old d (f ∷ fs) same =
    let here : new (record { 0 = d }, f) ≡ old (record { 0 = d }, f) = same f (first f fs) in
    let rest : entries_under new d fs ≡ entries_under old d fs = under_alike new old d fs (λ g has. same g (later f g fs has)) in
    λ i. entries_of d (finmap.entries (here i)) ++ rest i

in_alike : (new old : Leaf → Names) (covers : Covers) (dirs : List ℕ) → ((d : ℕ) → list_any (eq_by_cmp nat_cmp d) dirs ≡ true → entries_under new d (leaves_of covers d) ≡ entries_under old d (leaves_of covers d))
    → dentries_in new covers dirs ≡ dentries_in old covers dirs
in_alike new old covers [] same = refl
in_alike new old covers (d ∷ dirs) same =
    let here : entries_under new d (leaves_of covers d) ≡ entries_under old d (leaves_of covers d) = same d (or_left (eq_by_cmp nat_cmp d d) (list_any (eq_by_cmp nat_cmp d) dirs) (unsigned_tied d d ∙ is_same d d refl)) in
    let rest : dentries_in new covers dirs ≡ dentries_in old covers dirs = in_alike new old covers dirs (λ e has. same e (or_right (eq_by_cmp nat_cmp e d) (list_any (eq_by_cmp nat_cmp e) dirs) has)) in
    λ i. here i ++ rest i

known_of : (homes : Homes) (d : ℕ) → list_any (eq_by_cmp nat_cmp d) (directories homes) ≡ true → is_known homes d ≡ true
known_of homes d has = ⊎_elim
    (λ root. or_left (d == 1) (is_some (finmap.get homes d)) (sym (unsigned_tied d 1) ∙ root))
    (λ listed. or_right (d == 1) (is_some (finmap.get homes d)) (contains_key-keys homes d ∙ listed))
    (or_cases (eq_by_cmp nat_cmp d 1) (list_any (eq_by_cmp nat_cmp d) (finmap.keys homes)) has)

-- live leaves that show the same names show the same tree
pub tree_alike : (homes : Homes) (covers : Covers) (new old : Leaf → Names) → ((leaf : Leaf) → IsLive homes covers leaf → new leaf ≡ old leaf) → tree_of homes covers new ≡ tree_of homes covers old
unfolding tree_of
tree_alike homes covers new old same =
    ap (λ es. finmap.from_entries es) (in_alike new old covers (directories homes) (λ d has. under_alike new old d (leaves_of covers d) (λ f stands. same (record { 0 = d }, f) (record { known = known_of homes d has; stands = stands }))))
