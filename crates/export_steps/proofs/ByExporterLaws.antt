-- The roots of each exporter: what a step keeps of them, and which is the next.
use Rattle.export_steps.proofs.Common.{AreExports, Bool, Equal, ExportState, Greater, IsAntisymmetric, IsRootBehind, IsBetweenRanks, IsFirstKey, IsNextOf, IsNextRoot, IsSome, IsTotalOrder, Leaf, Less, List, MatchOrdering, None, Option, Ordering, Rank, RootsBy, Some, Standing, StandingExport, T, [], ap, arith, below_all, by_cmp, come_to, comes, cond, entries_sorted, eq_by_cmp, eqb-true, exact_pairs, false, false_from_ne_true, find, find-where_key, first_root_of, get-empty, get-entries, get-insert, get-remove, get_beside, get_left, get_put, get_removed, inl, inr, is_eq, is_le, is_lt, is_export_of, is_same, is_some, is_sorted, is_sorted-where_key, leaf-exact, leaf-total, leaf_cmp, left_of, nat_cmp, nat_cmp-IsAntisymmetric, nat_cmp_total, on_total, ordering_then, ranks, refl, right_of, root_fragment, same_or_apart, subst, sym, then_total, tie, tied_itself, true, where_key, ℕ, ◌<◌, ◌==◌, ◌∙◌, ◌∷◌, ◌≡◌, ◌≢◌, ◌⊎◌}
use Rattle.std.specs.FinMap as map
use Rattle.sorted_map.proofs.PlaceLaws.{less as less_of}
use Rattle.export_steps.proofs.Between.{come_between, empty_between, put_between, removed_between}

-- ---- the order

pub by-total : IsTotalOrder by_cmp
by-total = then_total (on_total (λ (k : ℕ × Leaf). k.0) nat_cmp_total) (on_total (λ (k : ℕ × Leaf). k.1) leaf-total)

pub by-exact : IsAntisymmetric by_cmp
by-exact = exact_pairs nat_cmp leaf_cmp nat_cmp-IsAntisymmetric leaf-exact

same_key : (a b : ℕ × Leaf) → a ≡ b → eq_by_cmp by_cmp a b ≡ true
same_key a b same = ap (eq_by_cmp by_cmp a) (sym same) ∙ ap is_eq (tied_itself by-total a)

apart_key : (a b : ℕ × Leaf) → (a ≡ b → ⊥) → eq_by_cmp by_cmp a b ≡ false
apart_key a b apart = false_from_ne_true _ (λ tied. apart (by-exact a b (tie _ tied)))

same_or_other : (a b : ℕ × Leaf) → (a ≡ b) ⊎ (a ≡ b → ⊥)
same_or_other a b = go (eq_by_cmp by_cmp a b) refl
  where
    go : (t : Bool) → eq_by_cmp by_cmp a b ≡ t → (a ≡ b) ⊎ (a ≡ b → ⊥)
    go true tied = inl (by-exact a b (tie _ tied))
    go false is = inr (λ same. let clash : true ≡ false = sym (same_key a b same) ∙ is in absurd cc)

-- ---- what is kept

pub empty_exports : (standing : Standing) (by : RootsBy) → standing ≡ map.empty → by ≡ map.empty → AreExports standing by
empty_exports standing by is none = record {
  between = empty_between standing is;
  told = λ rank root.
      ap (λ (m : RootsBy). is_some (map.get m (rank, root))) none ∙ ap (λ (o : Option (Unit {0})). is_some o) (get-empty by_cmp (rank, root))
      ∙ sym (ap (λ (m : Standing). is_export_of rank (map.get m root)) is ∙ ap (is_export_of rank) (get-empty leaf_cmp root));
}

module _ (old new : Standing) (root : Leaf) (by : RootsBy) (kept : AreExports old by) where
  -- an export begins
  pub put_exports : (export : StandingExport) (then : RootsBy) → map.get old root ≡ None → new ≡ map.insert old root export → then ≡ map.insert by (export.exporter.0, root) tt → IsBetweenRanks export → AreExports new then
  put_exports export then none changed put its = record {
    between = put_between old new root kept.between export changed its;
    told = λ rank leaf. at rank leaf (same_or_apart leaf root);
  }
    where
      at : (rank : ℕ) (leaf : Leaf) → (leaf ≡ root) ⊎ (leaf ≡ root → ⊥) → is_some (map.get then (rank, leaf)) ≡ is_export_of rank (map.get new leaf)
      at rank leaf (inl same) =
          ap (λ (m : RootsBy). is_some (map.get m (rank, leaf))) put
          ∙ ap (λ (o : Option (Unit {0})). is_some o) (get-insert by-total by (export.exporter.0, root) tt (rank, leaf))
          ∙ here (same_or_other (rank, leaf) (export.exporter.0, root))
          ∙ sym (ap (λ (m : Standing). is_export_of rank (map.get m leaf)) changed ∙ ap (λ (l : Leaf). is_export_of rank (map.get (map.insert old root export) l)) same ∙ ap (is_export_of rank) (get_put old root export))
        where
          none_by : is_some (map.get by (rank, leaf)) ≡ false
          none_by = kept.told rank leaf ∙ ap (λ (l : Leaf). is_export_of rank (map.get old l)) same ∙ ap (is_export_of rank) none

          here : (◌≡◌ {A = ℕ × Leaf} (rank, leaf) (export.exporter.0, root)) ⊎ (◌≡◌ {A = ℕ × Leaf} (rank, leaf) (export.exporter.0, root) → ⊥) → is_some (cond (eq_by_cmp by_cmp (rank, leaf) (export.exporter.0, root)) (Some tt) (map.get by (rank, leaf))) ≡ (rank == export.exporter.0)
          here (inl one) =
              ap (λ b. is_some (cond b (Some tt) (map.get by (rank, leaf)))) (same_key (rank, leaf) (export.exporter.0, root) one)
              ∙ sym (is_same rank export.exporter.0 (ap (λ (k : ℕ × Leaf). k.0) one))
          here (inr other) =
              ap (λ b. is_some (cond b (Some tt) (map.get by (rank, leaf)))) (apart_key (rank, leaf) (export.exporter.0, root) other)
              ∙ none_by
              ∙ sym (false_from_ne_true _ (λ is. other (λ i. (eqb-true rank export.exporter.0 is i, same i))))
      at rank leaf (inr apart) =
          ap (λ (m : RootsBy). is_some (map.get m (rank, leaf))) put
          ∙ ap (λ (o : Option (Unit {0})). is_some o) (get-insert by-total by (export.exporter.0, root) tt (rank, leaf))
          ∙ ap (λ b. is_some (cond b (Some tt) (map.get by (rank, leaf)))) (apart_key (rank, leaf) (export.exporter.0, root) (λ one. apart (ap (λ (k : ℕ × Leaf). k.1) one)))
          ∙ kept.told rank leaf
          ∙ sym (ap (λ (m : Standing). is_export_of rank (map.get m leaf)) changed ∙ ap (is_export_of rank) (get_beside old root export leaf apart))

  -- it has come to another state
  pub come_exports : (export : StandingExport) (state : ExportState) → map.get old root ≡ Some export → new ≡ map.insert old root (come_to state export) → AreExports new by
  come_exports export state stood changed = record {
    between = come_between old new root kept.between export state stood changed;
    told = λ rank leaf. at rank leaf (same_or_apart leaf root);
  }
    where
      at : (rank : ℕ) (leaf : Leaf) → (leaf ≡ root) ⊎ (leaf ≡ root → ⊥) → is_some (map.get by (rank, leaf)) ≡ is_export_of rank (map.get new leaf)
      at rank leaf (inl same) =
          kept.told rank leaf ∙ ap (λ (l : Leaf). is_export_of rank (map.get old l)) same ∙ ap (is_export_of rank) stood
          ∙ sym (ap (λ (m : Standing). is_export_of rank (map.get m leaf)) changed ∙ ap (λ (l : Leaf). is_export_of rank (map.get (map.insert old root (come_to state export)) l)) same ∙ ap (is_export_of rank) (get_put old root (come_to state export)))
      at rank leaf (inr apart) =
          kept.told rank leaf ∙ sym (ap (λ (m : Standing). is_export_of rank (map.get m leaf)) changed ∙ ap (is_export_of rank) (get_beside old root (come_to state export) leaf apart))

  -- it ends
  pub end_exports : (export : StandingExport) (then : RootsBy) → map.get old root ≡ Some export → new ≡ map.remove old root → then ≡ map.remove by (export.exporter.0, root) → AreExports new then
  end_exports export then stood changed gone = record {
    between = removed_between old new root kept.between changed;
    told = λ rank leaf. at rank leaf (same_or_apart leaf root);
  }
    where
      at : (rank : ℕ) (leaf : Leaf) → (leaf ≡ root) ⊎ (leaf ≡ root → ⊥) → is_some (map.get then (rank, leaf)) ≡ is_export_of rank (map.get new leaf)
      at rank leaf (inl same) =
          ap (λ (m : RootsBy). is_some (map.get m (rank, leaf))) gone
          ∙ ap (λ (o : Option (Unit {0})). is_some o) (get-remove by-total by (export.exporter.0, root) (rank, leaf))
          ∙ here (same_or_other (rank, leaf) (export.exporter.0, root))
          ∙ sym (ap (λ (m : Standing). is_export_of rank (map.get m leaf)) changed ∙ ap (λ (l : Leaf). is_export_of rank (map.get (map.remove old root) l)) same ∙ ap (is_export_of rank) (get_removed old root))
        where
          was : is_some (map.get by (rank, leaf)) ≡ (rank == export.exporter.0)
          was = kept.told rank leaf ∙ ap (λ (l : Leaf). is_export_of rank (map.get old l)) same ∙ ap (is_export_of rank) stood

          here : (◌≡◌ {A = ℕ × Leaf} (rank, leaf) (export.exporter.0, root)) ⊎ (◌≡◌ {A = ℕ × Leaf} (rank, leaf) (export.exporter.0, root) → ⊥) → is_some (cond (eq_by_cmp by_cmp (rank, leaf) (export.exporter.0, root)) None (map.get by (rank, leaf))) ≡ false
          here (inl one) = ap (λ b. is_some (cond b None (map.get by (rank, leaf)))) (same_key (rank, leaf) (export.exporter.0, root) one)
          here (inr other) =
              ap (λ b. is_some (cond b None (map.get by (rank, leaf)))) (apart_key (rank, leaf) (export.exporter.0, root) other)
              ∙ was ∙ false_from_ne_true _ (λ is. other (λ i. (eqb-true rank export.exporter.0 is i, same i)))
      at rank leaf (inr apart) =
          ap (λ (m : RootsBy). is_some (map.get m (rank, leaf))) gone
          ∙ ap (λ (o : Option (Unit {0})). is_some o) (get-remove by-total by (export.exporter.0, root) (rank, leaf))
          ∙ ap (λ b. is_some (cond b None (map.get by (rank, leaf)))) (apart_key (rank, leaf) (export.exporter.0, root) (λ one. apart (ap (λ (k : ℕ × Leaf). k.1) one)))
          ∙ kept.told rank leaf
          ∙ sym (ap (λ (m : Standing). is_export_of rank (map.get m leaf)) changed ∙ ap (is_export_of rank) (get_left old root leaf apart))

-- ---- the first key

behind : (first : ℕ × Leaf) (es : List ((ℕ × Leaf) × Unit {0})) (key : ℕ × Leaf) → T (below_all by_cmp first es) → IsSome (find by_cmp key es) → by_cmp first key ≡ Less
behind first [] key below some = let clash : false ≡ true = some in absurd cc
behind first (e ∷ es) key below some = go (eq_by_cmp by_cmp key e.0) refl some (behind first es key (right_of _ _ below))
  where
    go : (b : Bool) → eq_by_cmp by_cmp key e.0 ≡ b → IsSome (cond b (Some e.1) (find by_cmp key es)) → (IsSome (find by_cmp key es) → by_cmp first key ≡ Less) → by_cmp first key ≡ Less
    go true tied its more = ap (by_cmp first) (by-exact key e.0 (tie _ tied)) ∙ less_of _ (left_of _ _ below)
    go false apart its more = more its

pub first_key : (by : RootsBy) (passes : ℕ × Leaf → Bool) (left : List ((ℕ × Leaf) × Unit {0})) → left ≡ where_key by_cmp passes (map.entries by) → IsFirstKey by passes (first_root_of left)
first_key by passes left is = go left sorted found
  where
    sorted : T (is_sorted by_cmp left)
    sorted = subst (λ es. T (is_sorted by_cmp es)) (sym is) (is_sorted-where_key by_cmp passes (map.entries by) (entries_sorted by))

    found : (key : ℕ × Leaf) → find by_cmp key left ≡ cond (passes key) (map.get by key) None
    found key =
        ap (find by_cmp key) is
        ∙ find-where_key by_cmp passes key (λ x tied. ap passes (sym (by-exact key x tied))) (map.entries by)
        ∙ ap (λ o. cond (passes key) o None) (sym (get-entries by key))

    there : (es : List ((ℕ × Leaf) × Unit {0})) → ((key : ℕ × Leaf) → find by_cmp key es ≡ cond (passes key) (map.get by key) None) → (key : ℕ × Leaf) → passes key ≡ true → map.get by key ≡ find by_cmp key es
    there es each key on = sym (each key ∙ ap (λ b. cond b (map.get by key) None) on)

    own : (e : (ℕ × Leaf) × Unit {0}) (b : Bool) → passes e.0 ≡ b → Some e.1 ≡ cond b (map.get by e.0) None → (passes e.0 ≡ true) × IsSome (map.get by e.0)
    own e true on gets = (on, subst (λ (o : Option (Unit {0})). IsSome o) gets refl)
    own e false off gets = let clash : Some e.1 ≡ None = gets in absurd cc

    go : (es : List ((ℕ × Leaf) × Unit {0})) → T (is_sorted by_cmp es) → ((key : ℕ × Leaf) → find by_cmp key es ≡ cond (passes key) (map.get by key) None) → IsFirstKey by passes (first_root_of es)
    go [] ordered each = λ key on. there [] each key on
    go (e ∷ es) ordered each =
        let itself : find by_cmp e.0 (e ∷ es) ≡ Some e.1 = ap (λ r. cond (is_eq r) (Some e.1) (find by_cmp e.0 es)) (tied_itself by-total e.0) in
        let mine = own e (passes e.0) refl (sym itself ∙ each e.0) in
        (mine.0, mine.1, λ key on some. later key (eq_by_cmp by_cmp key e.0) refl (subst (λ (o : Option (Unit {0})). IsSome o) (there (e ∷ es) each key on) some))
      where
        later : (key : ℕ × Leaf) (b : Bool) → eq_by_cmp by_cmp key e.0 ≡ b → IsSome (cond b (Some e.1) (find by_cmp key es)) → (key ≡ e.0) ⊎ (by_cmp e.0 key ≡ Less)
        later key true tied some = inl (by-exact key e.0 (tie _ tied))
        later key false apart some = inr (behind e.0 es key (left_of _ _ ordered) some)

-- ---- the next root

-- keys of one rank are in the order of their roots
same_rank : (rank : ℕ) (a b : Leaf) → by_cmp (rank, a) (rank, b) ≡ leaf_cmp a b
same_rank rank a b = ap (λ r. ordering_then r (leaf_cmp a b)) (tied_itself nat_cmp_total rank)

least_le : (root : Leaf) → is_le (leaf_cmp (record { 0 = 0 }, root_fragment) root) ≡ true
least_le root = go (nat_cmp 0 root.0.0) (nat_cmp 0 root.1.value) (nat_cmp 0 root.1.bits) (ranks 0 root.0.0) (ranks 0 root.1.value) (ranks 0 root.1.bits)
  where
    go : (r s t : Ordering) → MatchOrdering r (0 < root.0.0) (0 ≡ root.0.0) (root.0.0 < 0) → MatchOrdering s (0 < root.1.value) (0 ≡ root.1.value) (root.1.value < 0) → MatchOrdering t (0 < root.1.bits) (0 ≡ root.1.bits) (root.1.bits < 0) → is_le (ordering_then r (ordering_then s t)) ≡ true
    go Less s t a b c = refl
    go Equal Less t a b c = refl
    go Equal Equal Less a b c = refl
    go Equal Equal Equal a b c = refl
    go Equal Equal Greater a b c = absurd (omega (arith, c))
    go Equal Greater t a b c = absurd (omega (arith, b))
    go Greater s t a b c = absurd (omega (arith, a))

-- just the rank's roots behind one come
comes_to : (rank : ℕ) (after : Option Leaf) (root : Leaf) → IsRootBehind after root → comes rank after (rank, root) ≡ true
comes_to rank None root behind = ap is_le (same_rank rank (record { 0 = 0 }, root_fragment) root) ∙ least_le root
comes_to rank (Some one) root behind = ap is_lt (same_rank rank one root ∙ behind)

comes_from : (rank : ℕ) (after : Option Leaf) (root : Leaf) → comes rank after (rank, root) ≡ true → IsRootBehind after root
comes_from rank None root is = tt
comes_from rank (Some one) root is = less_of (leaf_cmp one root) (subst (λ r. T (is_lt r)) (same_rank rank one root) (subst T (sym is) tt))

-- what comes is of the rank or a later one
le_by : (d e : ℕ) (r s : Ordering) → MatchOrdering r (d < e) (d ≡ e) (e < d) → is_le (ordering_then r s) ≡ true → (e < d → ⊥)
le_by d e Less s h le more = omega (arith, h, more)
le_by d e Equal s h le more = omega (arith, h, more)
le_by d e Greater s h le more = let clash : false ≡ true = le in cc

lt_le : (r : Ordering) → is_lt r ≡ true → is_le r ≡ true
lt_le Less is = refl
lt_le Equal is = let clash : false ≡ true = is in cc
lt_le Greater is = let clash : false ≡ true = is in cc

comes_late : (rank : ℕ) (after : Option Leaf) (key : ℕ × Leaf) → comes rank after key ≡ true → key.0 < rank → ⊥
comes_late rank None key is early = le_by rank key.0 (nat_cmp rank key.0) (leaf_cmp (record { 0 = 0 }, root_fragment) key.1) (ranks rank key.0) is early
comes_late rank (Some one) key is early = le_by rank key.0 (nat_cmp rank key.0) (leaf_cmp one key.1) (ranks rank key.0) (lt_le _ is) early

less_late : (a b : ℕ × Leaf) → by_cmp a b ≡ Less → b.0 < a.0 → ⊥
less_late a b less early = le_by a.0 b.0 (nat_cmp a.0 b.0) (leaf_cmp a.1 b.1) (ranks a.0 b.0) (ap is_le less) early

module _ (by : RootsBy) (rank : ℕ) (after : Option Leaf) where
  some_there : (root : Leaf) → IsSome (map.get by (rank, root)) → map.get by (rank, root) ≡ None → ⊥
  some_there root some none = let clash : false ≡ true = subst (λ (o : Option (Unit {0})). IsSome o) none some in absurd cc

  -- the first is of a later rank
  pub other_next : (key : ℕ × Leaf) → IsFirstKey by (comes rank after) (Some key) → key.0 ≢ rank → IsNextRoot by rank after None
  other_next key first other root some behind = go (first.2 (rank, root) (comes_to rank after root behind) some)
    where
      go : (◌≡◌ {A = ℕ × Leaf} (rank, root) key) ⊎ (by_cmp key (rank, root) ≡ Less) → ⊥
      go (inl same) = other (sym (ap (λ (k : ℕ × Leaf). k.0) same))
      go (inr less) = other (both_ways (λ early. comes_late rank after key first.0 early) (λ early. less_late key (rank, root) less early))
        where
          both_ways : (key.0 < rank → ⊥) → (rank < key.0 → ⊥) → key.0 ≡ rank
          both_ways low high = omega (arith, low, high)

  pub some_next : (root : Leaf) → IsFirstKey by (comes rank after) (Some (rank, root)) → IsNextRoot by rank after (Some root)
  some_next root first = (first.1, comes_from rank after root first.0, λ other some behind. go other (first.2 (rank, other) (comes_to rank after other behind) some))
    where
      go : (other : Leaf) → (◌≡◌ {A = ℕ × Leaf} (rank, other) (rank, root)) ⊎ (by_cmp (rank, root) (rank, other) ≡ Less) → (other ≡ root) ⊎ (leaf_cmp root other ≡ Less)
      go other (inl same) = inl (ap (λ (k : ℕ × Leaf). k.1) same)
      go other (inr less) = inr (sym (same_rank rank root other) ∙ less)

  pub some_next_at : (key : ℕ × Leaf) → IsFirstKey by (comes rank after) (Some key) → key.0 ≡ rank → IsNextRoot by rank after (Some key.1)
  some_next_at key first same = some_next key.1 (subst (λ (k : ℕ × Leaf). IsFirstKey by (comes rank after) (Some k)) (λ i. (same i, key.1)) first)

-- ---- the next export

is_of_true : (rank : Rank) (o : Option StandingExport) → is_export_of rank.0 o ≡ true → (export : StandingExport) × (o ≡ Some export) × (export.exporter ≡ rank)
is_of_true rank None is = let clash : false ≡ true = is in absurd cc
is_of_true rank (Some export) is = (export, refl, λ i. record { 0 = sym (eqb-true rank.0 export.exporter.0 is) i })

module _ (standing : Standing) (by : RootsBy) (kept : AreExports standing by) (rank : Rank) (after : Option Leaf) where
  stands_by : (root : Leaf) → IsSome (map.get by (rank.0, root)) → (export : StandingExport) × (map.get standing root ≡ Some export) × (export.exporter ≡ rank)
  stands_by root some = is_of_true rank (map.get standing root) (sym (kept.told rank.0 root) ∙ some)

  by_stands : (root : Leaf) (export : StandingExport) → map.get standing root ≡ Some export → export.exporter ≡ rank → IsSome (map.get by (rank.0, root))
  by_stands root export stands exporter =
      kept.told rank.0 root ∙ ap (is_export_of rank.0) stands ∙ is_same rank.0 export.exporter.0 (sym (ap (λ (r : Rank). r.0) exporter))

  -- the next root has an export
  pub next_stands : (root : Leaf) → IsNextRoot by rank.0 after (Some root) → map.get standing root ≡ None → ⊥
  next_stands root next none =
      let found = stands_by root next.0 in
      let clash : None ≡ Some found.0 = sym none ∙ found.1 in
      cc

  pub none_export : IsNextRoot by rank.0 after None → IsNextOf standing rank after None
  none_export none root export stands exporter behind = none root (by_stands root export stands exporter) behind

pub is_none : {A : Type 0} (o : Option A) → is_some o ≡ false → o ≡ None
is_none None is = refl
is_none (Some x) is = let clash : true ≡ false = is in absurd cc
