-- Entry counts once one name has another inode.
use Rattle.cached_frag.proofs.Common.{Bool, Equal, Greater, Inode, Less, List, Names, None, Option, Ordering, Some, T, [], ap, arith, by_order, cond, counts_of, dirs_in, entries-insert, entries_sorted, false, files_in, filter, find, get-entries, get_beside, get_left, get_put, get_removed, inl, inr, is_dir, is_dir_kind, is_eq, is_file, is_sorted, key_cmp, left_of, len-empty, len-entries, length, nat_list_cmp_total, nil_from_length, not, not_found_below, one_map, put, refl, right_of, same_or_apart, sym, true, with_changed_name, ℕ, ◌+◌, ◌∙◌, ◌∷◌, ◌≡◌, ◌≤◌, ◌⊎◌}
use Rattle.std.specs.FinMap as map
use Rattle.cached_frag.proofs.RowLaws.{below_chain}

module _ (p : Inode → Bool) where
  abbrev tally : List (List ℕ × Inode) → ℕ
  tally es = length (filter (λ e. p e.1) es)

  abbrev weight : Option Inode → ℕ
  weight None = 0
  weight (Some inode) = cond (p inode) 1 0

  longer : {A : Type 0} (b : Bool) (x : A) (rest : List A) → length (cond b (x ∷ rest) rest) ≡ cond b 1 0 + length rest
  longer true x rest = omega arith
  longer false x rest = omega arith

  one_more : (e : List ℕ × Inode) (es : List (List ℕ × Inode)) → tally (e ∷ es) ≡ weight (Some e.1) + tally es
  one_more e es = longer (p e.1) e (filter (λ (f : List ℕ × Inode). p f.1) es)

  put_tally : (k : List ℕ) (v : Inode) (es : List (List ℕ × Inode)) → T (is_sorted key_cmp es) → tally (put key_cmp k v es) + weight (find key_cmp k es) ≡ tally es + weight (Some v)
  put_tally k v [] sorted = let e : tally ((k, v) ∷ []) ≡ weight (Some v) + 0 = one_more (k, v) [] in omega (arith, e)
  put_tally k v (e ∷ es) sorted = go (put_tally k v es (right_of _ _ sorted)) (key_cmp k e.0) refl
    where
      go : tally (put key_cmp k v es) + weight (find key_cmp k es) ≡ tally es + weight (Some v) → (r : Ordering) → key_cmp k e.0 ≡ r → tally (by_order r ((k, v) ∷ e ∷ es) ((e.0, v) ∷ es) (e ∷ put key_cmp k v es)) + weight (cond (is_eq r) (Some e.1) (find key_cmp k es)) ≡ tally (e ∷ es) + weight (Some v)
      go rest Less is =
          let none : find key_cmp k es ≡ None = not_found_below nat_list_cmp_total k es (below_chain k e.0 es is (left_of _ _ sorted)) in
          let nothing : weight (find key_cmp k es) ≡ 0 = ap weight none in
          let one : tally ((k, v) ∷ e ∷ es) ≡ weight (Some v) + tally (e ∷ es) = one_more (k, v) (e ∷ es) in
          omega (arith, nothing, one)
      go rest Equal is =
          let one : tally ((e.0, v) ∷ es) ≡ weight (Some v) + tally es = one_more (e.0, v) es in
          let two : tally (e ∷ es) ≡ weight (Some e.1) + tally es = one_more e es in
          omega (arith, one, two)
      go rest Greater is =
          let one : tally (e ∷ put key_cmp k v es) ≡ weight (Some e.1) + tally (put key_cmp k v es) = one_more e (put key_cmp k v es) in
          let two : tally (e ∷ es) ≡ weight (Some e.1) + tally es = one_more e es in
          omega (arith, rest, one, two)

  insert_tally : (m : Names) (k : List ℕ) (v : Inode) → tally (map.entries (map.insert m k v)) + weight (map.get m k) ≡ tally (map.entries m) + weight (Some v)
  insert_tally m k v =
      let now : tally (map.entries (map.insert m k v)) ≡ tally (put key_cmp k v (map.entries m)) = ap tally (entries-insert nat_list_cmp_total m k v) in
      let found : weight (map.get m k) ≡ weight (find key_cmp k (map.entries m)) = ap weight (get-entries m k) in
      let rest : tally (put key_cmp k v (map.entries m)) + weight (find key_cmp k (map.entries m)) ≡ tally (map.entries m) + weight (Some v) = put_tally k v (map.entries m) (entries_sorted m) in
      omega (arith, now, found, rest)

  put_back : (m : Names) (k : List ℕ) (v : Inode) → map.get m k ≡ Some v → map.insert (map.remove m k) k v ≡ m
  put_back m k v is = one_map _ _ (λ q. go q (same_or_apart q k))
    where
      go : (q : List ℕ) → (q ≡ k) ⊎ (q ≡ k → ⊥) → map.get (map.insert (map.remove m k) k v) q ≡ map.get m q
      go q (inl same) = ap (λ (a : List ℕ). map.get (map.insert (map.remove m k) k v) a) same ∙ get_put (map.remove m k) k v ∙ sym is ∙ ap (λ (a : List ℕ). map.get m a) (sym same)
      go q (inr apart) = get_beside (map.remove m k) k v q apart ∙ get_left m k q apart

  not_there : (m : Names) (k : List ℕ) → map.get m k ≡ None → map.remove m k ≡ m
  not_there m k is = one_map _ _ (λ q. go q (same_or_apart q k))
    where
      go : (q : List ℕ) → (q ≡ k) ⊎ (q ≡ k → ⊥) → map.get (map.remove m k) q ≡ map.get m q
      go q (inl same) = ap (λ (a : List ℕ). map.get (map.remove m k) a) same ∙ get_removed m k ∙ sym is ∙ ap (λ (a : List ℕ). map.get m a) (sym same)
      go q (inr apart) = get_left m k q apart

  remove_tally : (m : Names) (k : List ℕ) (o : Option Inode) → map.get m k ≡ o → tally (map.entries (map.remove m k)) + weight o ≡ tally (map.entries m)
  remove_tally m k None is = let same : tally (map.entries (map.remove m k)) ≡ tally (map.entries m) = ap (λ (n : Names). tally (map.entries n)) (not_there m k is) in omega (arith, same)
  remove_tally m k (Some v) is =
      let back : tally (map.entries (map.insert (map.remove m k) k v)) ≡ tally (map.entries m) = ap (λ (n : Names). tally (map.entries n)) (put_back m k v is) in
      let none : weight (map.get (map.remove m k) k) ≡ 0 = ap weight (get_removed m k) in
      let rest : tally (map.entries (map.insert (map.remove m k) k v)) + weight (map.get (map.remove m k) k) ≡ tally (map.entries (map.remove m k)) + weight (Some v) = insert_tally (map.remove m k) k v in
      omega (arith, back, none, rest)

  mark_tally : (m : Names) (k : List ℕ) (o : Option Inode) → tally (map.entries (with_changed_name m k o)) + weight (map.get m k) ≡ tally (map.entries m) + weight o
  mark_tally m k (Some v) = insert_tally m k v
  mark_tally m k None = let e : tally (map.entries (map.remove m k)) + weight (map.get m k) ≡ tally (map.entries m) = remove_tally m k (map.get m k) refl in omega (arith, e)

dir_weight : (o : Option Inode) → weight (λ inode. is_dir_kind inode.kind) o ≡ cond (is_dir o) 1 0
dir_weight None = refl
dir_weight (Some inode) = refl

file_weight : (o : Option Inode) → weight (λ inode. not (is_dir_kind inode.kind)) o ≡ cond (is_file o) 1 0
file_weight None = refl
file_weight (Some inode) = refl

-- the counts of names once one of them has another inode, or none
pub dirs_marked : (m : Names) (k : List ℕ) (o : Option Inode) → dirs_in (with_changed_name m k o) + cond (is_dir (map.get m k)) 1 0 ≡ dirs_in m + cond (is_dir o) 1 0
dirs_marked m k o =
    let all : tally (λ inode. is_dir_kind inode.kind) (map.entries (with_changed_name m k o)) + weight (λ inode. is_dir_kind inode.kind) (map.get m k) ≡ tally (λ inode. is_dir_kind inode.kind) (map.entries m) + weight (λ inode. is_dir_kind inode.kind) o =
    mark_tally (λ inode. is_dir_kind inode.kind) m k o in
    omega (arith, all, dir_weight (map.get m k), dir_weight o)

pub files_marked : (m : Names) (k : List ℕ) (o : Option Inode) → files_in (with_changed_name m k o) + cond (is_file (map.get m k)) 1 0 ≡ files_in m + cond (is_file o) 1 0
files_marked m k o =
    let all : tally (λ inode. not (is_dir_kind inode.kind)) (map.entries (with_changed_name m k o)) + weight (λ inode. not (is_dir_kind inode.kind)) (map.get m k) ≡ tally (λ inode. not (is_dir_kind inode.kind)) (map.entries m) + weight (λ inode. not (is_dir_kind inode.kind)) o =
    mark_tally (λ inode. not (is_dir_kind inode.kind)) m k o in
    omega (arith, all, file_weight (map.get m k), file_weight o)

-- a name that is there is counted
pub dirs_some : (m : Names) (k : List ℕ) → cond (is_dir (map.get m k)) 1 0 ≤ dirs_in m
dirs_some m k = let e : dirs_in (with_changed_name m k None) + cond (is_dir (map.get m k)) 1 0 ≡ dirs_in m + 0 = dirs_marked m k None in omega (arith, e)

pub files_some : (m : Names) (k : List ℕ) → cond (is_file (map.get m k)) 1 0 ≤ files_in m
files_some m k = let e : files_in (with_changed_name m k None) + cond (is_file (map.get m k)) 1 0 ≡ files_in m + 0 = files_marked m k None in omega (arith, e)

-- no names have no counts
pub nothing_counted : counts_of map.empty ≡ record { files = 0; dirs = 0 }
nothing_counted =
    let none : map.entries (map.empty {X = Inode} {R = key_cmp}) ≡ [] = nil_from_length (map.entries (map.empty {X = Inode} {R = key_cmp})) (sym (len-entries (map.empty {X = Inode} {R = key_cmp})) ∙ len-empty key_cmp Inode) in
    λ i. record { files = length (filter (λ (e : List ℕ × Inode). not (is_dir_kind e.1.kind)) (none i)); dirs = length (filter (λ (e : List ℕ × Inode). is_dir_kind e.1.kind) (none i)) }

-- ---- names counted one by one

abbrev pub dirs_among : List (List ℕ × Inode) → ℕ
dirs_among es = tally (λ inode. is_dir_kind inode.kind) es

abbrev pub files_among : List (List ℕ × Inode) → ℕ
files_among es = tally (λ inode. not (is_dir_kind inode.kind)) es

pub one_dir : (e : List ℕ × Inode) (es : List (List ℕ × Inode)) → dirs_among (e ∷ es) ≡ cond (is_dir_kind e.1.kind) 1 0 + dirs_among es
one_dir e es = one_more (λ inode. is_dir_kind inode.kind) e es

pub one_file : (e : List ℕ × Inode) (es : List (List ℕ × Inode)) → files_among (e ∷ es) ≡ cond (not (is_dir_kind e.1.kind)) 1 0 + files_among es
one_file e es = one_more (λ inode. not (is_dir_kind inode.kind)) e es

pub either_one : (b : Bool) → cond {A = ℕ} (not b) 1 0 + cond {A = ℕ} b 1 0 ≡ 1
either_one true = omega arith
either_one false = omega arith

pub at_first : (names : Names) (es : List (List ℕ × Inode)) → es ≡ map.entries names → (0 + files_among es ≡ files_in names) × (0 + dirs_among es ≡ dirs_in names) × (0 + 0 + length es ≡ map.len names)
at_first names es is =
    let files : files_among es ≡ files_in names = ap files_among is in
    let dirs : dirs_among es ≡ dirs_in names = ap dirs_among is in
    let count : length es ≡ length (map.entries names) = ap (length {A = List ℕ × Inode}) is in
    (omega (arith, files), omega (arith, dirs), omega (arith, count, len-entries names))

-- files and directories are all names
pub all_among : (es : List (List ℕ × Inode)) → files_among es + dirs_among es ≡ length es
all_among [] = refl
all_among (e ∷ es) = omega (arith, all_among es, one_file e es, one_dir e es, either_one (is_dir_kind e.1.kind))

pub all_counted : (names : Names) → (counts_of names).files + (counts_of names).dirs ≡ map.len names
all_counted names = all_among (map.entries names) ∙ sym (len-entries names)
