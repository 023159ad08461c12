-- What a page gathers, name by name.
use Rattle.mdcache.proofs.Common.{Bool, Equal, Gathered, Greater, Inode, IsKeyAt, IsBeyond, IsGap, IsPageOf, IsTotalOrder, Less, List, Ordering, NamedInode, T, TakesRow, [], ap, arith, below_all, by_order, cond, drop, false, get_or, insert, is_lt, is_sorted-put, key_cmp, left_of, length, length-insert, length-set, length-take, less, nat_list_cmp_total, nat_tests, put, put_at, put_gap, puts, refl, right_of, rules, subst, suc, sym, take, take-append-drop, take_all, true, turned, zero, ℕ, ◌||◌, ◌∙◌, ◌∷◌, ◌≡◌, ◌≤◌}
use Rattle.std.proofs.Common.{set, nat_lt}
use Rattle.std.specs.FinMap.Entries.{is_sorted}
use Rattle.sorted_map.proofs.HomeLaws.{sorted_front}

-- ---- the first of a list

taken_twice : {A : Type 0} (m n : ℕ) (xs : List A) → m ≤ n → take m (take n xs) ≡ take m xs
taken_twice zero n xs le = refl
taken_twice (suc m) zero xs le = absurd (omega (arith, le))
taken_twice (suc m) (suc n) [] le = refl
taken_twice (suc m) (suc n) (x ∷ xs) le = ap (λ ys. x ∷ ys) (taken_twice m n xs (omega (arith, le)))

pub insert_taken : {A : Type 0} (n i : ℕ) (xs : List A) (x : A) → i ≤ n → insert (take n xs) i x ≡ take (suc n) (insert xs i x)
insert_taken n zero xs x le = refl
insert_taken zero (suc i) xs x le = absurd (omega (arith, le))
insert_taken (suc n) (suc i) [] x le = refl
insert_taken (suc n) (suc i) (y ∷ xs) x le = ap (λ ys. y ∷ ys) (insert_taken n i xs x (omega (arith, le)))

-- ---- a name put to others, and to the first of them

module _ {K V : Type 0} (R : K → K → Ordering) where
  take_put : (n : ℕ) (k : K) (v : V) (es : List (K × V)) → take n (put R k v (take n es)) ≡ take n (put R k v es)
  take_put zero k v es = refl
  take_put (suc n) k v [] = refl
  take_put (suc n) k v (e ∷ es) =
      elim (R k e.0) as (λ r. take (suc n) (by_order r ((k, v) ∷ e ∷ take n es) ((e.0, v) ∷ take n es) (e ∷ put R k v (take n es))) ≡ take (suc n) (by_order r ((k, v) ∷ e ∷ es) ((e.0, v) ∷ es) (e ∷ put R k v es))) [
        | Less ↦ ap (λ xs. (k, v) ∷ xs) (taken_twice n (suc n) (e ∷ es) (omega arith))
        | Equal ↦ ap (λ xs. (e.0, v) ∷ xs) (taken_twice n n es (omega arith))
        | Greater ↦ ap (λ xs. e ∷ xs) (take_put n k v es)
      ]

  put_longer : (k : K) (v : V) (es : List (K × V)) → length es ≤ length (put R k v es)
  put_longer k v [] = omega arith
  put_longer k v (e ∷ es) = elim (R k e.0) as (λ r. suc (length es) ≤ length (by_order r ((k, v) ∷ e ∷ es) ((e.0, v) ∷ es) (e ∷ put R k v es))) [
    | Less ↦ omega arith
    | Equal ↦ omega arith
    | Greater ↦ omega (arith, put_longer k v es)
  ]

  more_put : (n : ℕ) (k : K) (v : V) (es : List (K × V)) → (nat_lt n (length es) || nat_lt n (length (put R k v (take n es)))) ≡ nat_lt n (length (put R k v es))
  more_put n k v es = grind (arith, nat_tests, put_longer k v es, take_all n es)

  -- a name greater than all of the first
  put_beyond : (n : ℕ) (k : K) (v : V) (es : List (K × V)) → length (take n es) ≡ n → IsGap R k (take n es) n → take n (put R k v es) ≡ take n es
  put_beyond zero k v es full gap = refl
  put_beyond (suc n) k v [] full gap = absurd (omega (arith, full))
  put_beyond (suc n) k v (e ∷ es) full gap = rw gap.0 (ap (λ xs. e ∷ xs) (put_beyond n k v es (omega (arith, full)) gap.1))

  sorted_taken : (n : ℕ) (es : List (K × V)) → T (is_sorted R es) → T (is_sorted R (take n es))
  sorted_taken n es sorted = sorted_front R (take n es) (drop n es) (subst (λ xs. T (is_sorted R xs)) (sym (take-append-drop n es)) sorted)

module _ {K V : Type 0} {R : K → K → Ordering} (o : IsTotalOrder R) where
  -- so is each greater name
  gap_past : (k q : K) (n : ℕ) (es : List (K × V)) → R k q ≡ Less → length es ≡ n → IsGap R k es n → IsGap R q es n
  gap_past k q zero [] less_than full gap = tt
  gap_past k q (suc n) [] less_than full gap = absurd (omega (arith, full))
  gap_past k q zero (e ∷ es) less_than full gap = absurd (omega (arith, full))
  gap_past k q (suc n) (e ∷ es) less_than full gap =
      (turned o e.0 q Less (o.trans e.0 k q (turned o k e.0 Greater gap.0) less_than), gap_past k q n es less_than (omega (arith, full)) gap.1)

-- ---- pages

-- a page that takes in a name is the page of all names with it
pub taken_in : (whole : List NamedInode) (row : NamedInode) (old new : Gathered) → TakesRow row old new → IsPageOf whole old → IsPageOf (put key_cmp row.0 row.1 whole) new
taken_in whole row old new takes page = record {
  rows = takes.rows ∙ ap (λ xs. take old.most (put key_cmp row.0 row.1 xs)) page.rows ∙ take_put key_cmp old.most row.0 row.1 whole ∙ ap (λ n. take n (put key_cmp row.0 row.1 whole)) (sym takes.most);
  more = takes.more ∙ (λ i. page.more i || nat_lt old.most (length (put key_cmp row.0 row.1 (page.rows i)))) ∙ more_put key_cmp old.most row.0 row.1 whole ∙ ap (λ n. nat_lt n (length (put key_cmp row.0 row.1 whole))) (sym takes.most);
}

-- names that are beyond a page leave it
pub left_out : (rest whole : List NamedInode) (name : List ℕ) (page : Gathered) → IsBeyond name page → T (below_all key_cmp name rest) → IsPageOf whole page → IsPageOf (puts key_cmp whole rest) page
left_out [] whole name page beyond below is = is
left_out (row ∷ rest) whole name page beyond below is =
    let past = gap_past nat_list_cmp_total name row.0 page.most page.rows (less (key_cmp name row.0) (left_of (is_lt (key_cmp name row.0)) (below_all key_cmp name rest) below)) beyond.full beyond.less in
    let many : nat_lt page.most (length whole) ≡ true = sym is.more ∙ beyond.more in
    let long = put_longer key_cmp row.0 row.1 whole in
    let more : nat_lt page.most (length (put key_cmp row.0 row.1 whole)) ≡ true = grind (arith, nat_tests) in
    left_out rest (put key_cmp row.0 row.1 whole) name page beyond (right_of _ _ below) (record {
      rows = is.rows ∙ sym (put_beyond key_cmp page.most row.0 row.1 whole (ap length (sym is.rows) ∙ beyond.full) (subst (λ xs. IsGap key_cmp row.0 xs page.most) is.rows past));
      more = beyond.more ∙ sym more;
    })

-- the next of a leaf's names is taken in, and the others are left
pub next_taken : (row : NamedInode) (names rest now names' whole : List NamedInode) (old new : Gathered) → names ≡ row ∷ rest → TakesRow row old new → IsPageOf now old → puts key_cmp now names ≡ puts key_cmp whole names' → T (is_sorted key_cmp names)
    → (x : List NamedInode) × IsPageOf x new × (puts key_cmp x rest ≡ puts key_cmp whole names') × T (is_sorted key_cmp rest)
next_taken row names rest now names' whole old new is takes page same sorted = (
  put key_cmp row.0 row.1 now,
  taken_in now row old new takes page,
  ap (puts key_cmp now) (sym is) ∙ same,
  right_of (below_all key_cmp row.0 rest) (is_sorted key_cmp rest) (subst (λ xs. T (is_sorted key_cmp xs)) is sorted),
)

-- the leaf is left, and its other names with it
pub leaf_left : (row : NamedInode) (names rest now names' whole : List NamedInode) (old new : Gathered) → names ≡ row ∷ rest → TakesRow row old new → IsBeyond row.0 new → IsPageOf now old → puts key_cmp now names ≡ puts key_cmp whole names' → T (is_sorted key_cmp names)
    → IsPageOf (puts key_cmp whole names') new
leaf_left row names rest now names' whole old new is takes beyond page same sorted =
    subst (λ xs. IsPageOf xs new) (ap (puts key_cmp now) (sym is) ∙ same)
    (left_out rest (put key_cmp row.0 row.1 now) row.0 new beyond (left_of (below_all key_cmp row.0 rest) (is_sorted key_cmp rest) (subst (λ xs. T (is_sorted key_cmp xs)) is sorted)) (taken_in now row old new takes page))

-- ---- what the calls on a page's fields leave

-- there are more names, where one went or there were before
marked : (more gone : Bool) → cond gone true more ≡ (more || gone)
marked more gone = search rules

-- what a page keeps of its rows
abbrev AreKept : List NamedInode → ℕ → Type 0
AreKept rows most = T (is_sorted key_cmp rows) × (length rows ≤ most)

module _ (name : List ℕ) (inode : Inode) (rows : List NamedInode) (more : Bool) (most : ℕ) (kept : AreKept rows most) (page : Gathered) (view : ◌≡◌ {A = Gathered} (record { rows = rows; more = more; most = most }) page) where
  abbrev with_row : List NamedInode
  with_row = put key_cmp name inode rows

  -- the page takes the name in, with these rows, and keeps what it keeps of them
  abbrev TakesWith : List NamedInode → Bool → Type 0
  TakesWith new more' = TakesRow (name, inode) page (record { rows = new; more = more'; most = most }) × AreKept new most

  takes_by : (new : List NamedInode) (gone : Bool) → new ≡ take most with_row → nat_lt most (length with_row) ≡ gone → TakesWith new (cond gone true more)
  takes_by new gone is over = (
    subst (λ (p : Gathered). TakesRow (name, inode) p (record { rows = new; more = cond gone true more; most = most })) view (record { most = refl; rows = is; more = marked more gone ∙ ap (λ b. more || b) (sym over) }),
    subst (λ xs. AreKept xs most) (sym is) (sorted_taken key_cmp most with_row (is_sorted-put key_cmp nat_list_cmp_total name inode rows kept.0), omega (arith, length-take most with_row)),
  )

  -- with fewer rows it does so too
  pub kept_taken : (n : ℕ) (new : List NamedInode) → new ≡ take n rows → AreKept new most
  kept_taken n new is = let within = kept.1 in subst (λ xs. AreKept xs most) (sym is) (sorted_taken key_cmp n rows kept.0, omega (arith, length-take n rows, within))

  -- the name stands there, and gets another inode
  pub set_takes : (seen new : List NamedInode) (at : ℕ) (value : Inode) → seen ≡ rows → IsKeyAt key_cmp name seen at → value ≡ inode → ((d : NamedInode) → new ≡ set rows at ((get_or rows at d).0, value)) → TakesWith new more
  set_takes seen new at value is_seen there copied is =
      let stands = put_at key_cmp name inode rows at (name, inode) (subst (λ xs. IsKeyAt key_cmp name xs at) is_seen there) in
      let long : length with_row ≡ length rows = ap length stands ∙ length-set rows at ((get_or rows at (name, inode)).0, inode) in
      let within = kept.1 in
      takes_by new false (is (name, inode) ∙ ap (λ x. set rows at ((get_or rows at (name, inode)).0, x)) copied ∙ sym stands ∙ sym (take_all most with_row (omega (arith, long, within)))) (grind (arith, nat_tests))

  -- the name would go to a place
  module _ (seen : List NamedInode) (at : ℕ) (is_seen : seen ≡ rows) (gap : IsGap key_cmp name seen at) (within : at ≤ length seen) where
    here : IsGap key_cmp name rows at
    here = subst (λ xs. IsGap key_cmp name xs at) is_seen gap

    put_is : with_row ≡ insert rows at (name, inode)
    put_is = put_gap key_cmp name inode rows at here

    -- behind a full page
    pub beyond_takes : at ≡ most → TakesWith rows true
    beyond_takes last =
        let seen_long = ap length is_seen in
        let few = kept.1 in
        let full : length rows ≡ most = omega (arith, within, seen_long, few, last) in
        let all : take most rows ≡ rows = take_all most rows few in
        let long : length with_row ≡ length (insert rows at (name, inode)) = ap length put_is in
        let one_more = length-insert rows at (name, inode) (omega (arith, within, seen_long)) in
        takes_by rows true (sym all ∙ sym (put_beyond key_cmp most name inode rows (ap length all ∙ full) (subst (λ xs. IsGap key_cmp name xs most) (sym all) (subst (λ n. IsGap key_cmp name rows n) last here)))) (grind (arith, nat_tests))

    -- within the page
    pub placed_takes : (new : List NamedInode) (row : NamedInode) (n : ℕ) → row ≡ (name, inode) → n ≡ most → new ≡ take n (insert rows at row) → (over : Bool)
        → over ≡ nat_lt n (length (insert rows at row)) → (gone : Bool) → over ≡ gone → TakesWith new (cond gone true more)
    placed_takes new row n copied bound is over told gone same =
        let put : insert rows at row ≡ with_row = ap (insert rows at) copied ∙ sym put_is in
        takes_by new gone (is ∙ (λ i. take (bound i) (put i))) ((λ i. nat_lt (sym bound i) (length (sym put i))) ∙ sym told ∙ same)
