-- The counts of pairs are those of the names that they show.
use Rattle.script_output.proofs.ObjectCommon.{Bool, Equal, FragHeader, Greater, Inode, Less, List, Names, None, Option, Ordering, Some, SpellsKey, T, [], ap, arith, by_order, cond, counted_after, dirs_in, entries-from_sorted, entries-insert, entry_key, inode_of_record, false, files_in, filter, find, get-entries, get-from_sorted, is_dir_kind, is_dir_under, is_eq, is_name, is_sorted, key_cmp, left_of, len-empty, len-entries, length, name_of_key, names_of_list, nat_list_cmp_total, nil_from_length, not, not_found, put, reads_key, refl, right_of, same_Some, shows_at_each, spelled_as, suc, sym, true, with_pair, with_one, ℕ, ◌+◌, ◌>>=◌, ◌∙◌, ◌∷◌, ◌≡◌}
use Rattle.std.specs.FinMap as map
use Rattle.dirfrag_codec.specs.FragmentObject.{names_of_pairs}

-- ---- one name more, that wasn't there

module _ (p : Inode → Bool) where
  abbrev tally : List (List ℕ × Inode) → ℕ
  tally es = length (filter (λ (e : List ℕ × Inode). p e.1) es)

  longer : (b : Bool) (x : List ℕ × Inode) (rest : List (List ℕ × Inode)) → length (cond b (x ∷ rest) rest) ≡ cond b 1 0 + length rest
  longer true x rest = omega arith
  longer false x rest = omega arith

  one_more : (e : List ℕ × Inode) (es : List (List ℕ × Inode)) → tally (e ∷ es) ≡ cond (p e.1) 1 0 + tally es
  one_more e es = longer (p e.1) e (filter (λ (f : List ℕ × Inode). p f.1) es)

  put_tally : (k : List ℕ) (v : Inode) (es : List (List ℕ × Inode)) → find key_cmp k es ≡ None → tally (put key_cmp k v es) ≡ cond (p v) 1 0 + tally es
  put_tally k v [] none = one_more (k, v) []
  put_tally k v (e ∷ es) none = go (put_tally k v es) (key_cmp k e.0) none
    where
      go : (find key_cmp k es ≡ None → tally (put key_cmp k v es) ≡ cond (p v) 1 0 + tally es) → (r : Ordering) → cond (is_eq r) (Some e.1) (find key_cmp k es) ≡ None
          → tally (by_order r ((k, v) ∷ e ∷ es) ((e.0, v) ∷ es) (e ∷ put key_cmp k v es)) ≡ cond (p v) 1 0 + tally (e ∷ es)
      go rest Less is = one_more (k, v) (e ∷ es)
      go rest Equal is = absurd cc
      go rest Greater is =
          let so_far : tally (put key_cmp k v es) ≡ cond (p v) 1 0 + tally es = rest is in
          let one : tally (e ∷ put key_cmp k v es) ≡ cond (p e.1) 1 0 + tally (put key_cmp k v es) = one_more e (put key_cmp k v es) in
          let two : tally (e ∷ es) ≡ cond (p e.1) 1 0 + tally es = one_more e es in
          omega (arith, so_far, one, two)

  pub insert_tally : (m : Names) (k : List ℕ) (v : Inode) → map.get m k ≡ None → tally (map.entries (map.insert m k v)) ≡ cond (p v) 1 0 + tally (map.entries m)
  insert_tally m k v none = ap tally (entries-insert nat_list_cmp_total m k v) ∙ put_tally k v (map.entries m) (sym (get-entries m k) ∙ none)

-- ---- a name whose key isn't among pairs isn't shown by them

nothing : (b : Bool) → cond b (None >>= inode_of_record) None ≡ None
nothing true = refl
nothing false = refl

not_shown : (es : List (List ℕ × List ℕ)) (name : List ℕ) → T (is_sorted key_cmp es) → find key_cmp (entry_key name) es ≡ None → map.get (names_of_list es) name ≡ None
unfolding names_of_pairs
not_shown es name sorted none =
    ap (λ (l : List (List ℕ × List ℕ)). map.get (names_of_list l) name) (sym (entries-from_sorted key_cmp es sorted)) ∙ shows_at_each (map.from_sorted {R = key_cmp} es) name
    ∙ ap (λ (r : Option (List ℕ)). cond (is_name name) (r >>= inode_of_record) None) (get-from_sorted key_cmp es (entry_key name) sorted ∙ none) ∙ nothing (is_name name)

-- ---- pairs counted one by one

-- a header with so many entries more
abbrev pub with_counts : FragHeader → ℕ → ℕ → FragHeader
with_counts header files dirs = record { version = header.version; files = header.files + files; dirs = header.dirs + dirs }

one_step : (header : FragHeader) (is_dir : Bool) (files dirs more_files more_dirs : ℕ) → more_files ≡ cond (not is_dir) 1 0 + files → more_dirs ≡ cond is_dir 1 0 + dirs
    → with_counts (with_one header is_dir) files dirs ≡ with_counts header more_files more_dirs
one_step header true files dirs more_files more_dirs f d =
    let a : header.files + files ≡ header.files + more_files = omega (arith, f) in
    let b : suc header.dirs + dirs ≡ header.dirs + more_dirs = omega (arith, d) in
    λ i. record { version = header.version; files = a i; dirs = b i }
one_step header false files dirs more_files more_dirs f d =
    let a : suc header.files + files ≡ header.files + more_files = omega (arith, f) in
    let b : header.dirs + dirs ≡ header.dirs + more_dirs = omega (arith, d) in
    λ i. record { version = header.version; files = a i; dirs = b i }

no_names : (header : FragHeader) → header ≡ with_counts header (files_in (names_of_list [])) (dirs_in (names_of_list []))
no_names header =
    let none : map.entries (map.empty {X = Inode} {R = key_cmp}) ≡ [] = nil_from_length (map.entries (map.empty {X = Inode} {R = key_cmp})) (sym (len-entries (map.empty {X = Inode} {R = key_cmp})) ∙ len-empty key_cmp Inode) in
    let files : tally (λ (i : Inode). not (is_dir_kind i.kind)) (map.entries (map.empty {X = Inode} {R = key_cmp})) ≡ 0 = ap (tally (λ (i : Inode). not (is_dir_kind i.kind))) none in
    let dirs : tally (λ (i : Inode). is_dir_kind i.kind) (map.entries (map.empty {X = Inode} {R = key_cmp})) ≡ 0 = ap (tally (λ (i : Inode). is_dir_kind i.kind)) none in
    let a : header.files ≡ header.files + tally (λ (i : Inode). not (is_dir_kind i.kind)) (map.entries (map.empty {X = Inode} {R = key_cmp})) = omega (arith, files) in
    let b : header.dirs ≡ header.dirs + tally (λ (i : Inode). is_dir_kind i.kind) (map.entries (map.empty {X = Inode} {R = key_cmp})) = omega (arith, dirs) in
    λ i. record { version = header.version; files = a i; dirs = b i }

-- the header that counts pairs has the entry counts of the names that they show
pub names_counted : (es : List (List ℕ × List ℕ)) (header all : FragHeader) → T (is_sorted key_cmp es) → counted_after header es ≡ Some all
    → all ≡ with_counts header (files_in (names_of_list es)) (dirs_in (names_of_list es))
names_counted [] header all sorted is = sym (same_Some header all is) ∙ no_names header
names_counted (e ∷ es) header all sorted is = go (λ next so. names_counted es next all (right_of _ _ sorted) so) (name_of_key e.0) (inode_of_record e.1) refl refl is
  where
    go : ((next : FragHeader) → counted_after next es ≡ Some all → all ≡ with_counts next (files_in (names_of_list es)) (dirs_in (names_of_list es)))
        → (n : Option (List ℕ)) (o : Option Inode) → name_of_key e.0 ≡ n → inode_of_record e.1 ≡ o → (is_dir_under n o >>= λ is_dir. counted_after (with_one header is_dir) es) ≡ Some all
        → all ≡ with_counts header (files_in (with_pair (names_of_list es) n o)) (dirs_in (with_pair (names_of_list es) n o))
    go rest (Some name) (Some inode) k r so =
        let keyed : e.0 ≡ entry_key name = (spelled_as SpellsKey name_of_key reads_key e.0 name k).1 in
        let none : map.get (names_of_list es) name ≡ None = not_shown es name (right_of _ _ sorted) (not_found e.0 (entry_key name) es (sym keyed) (left_of _ _ sorted)) in
        let files = insert_tally (λ (i : Inode). not (is_dir_kind i.kind)) (names_of_list es) name inode none in
        let dirs = insert_tally (λ (i : Inode). is_dir_kind i.kind) (names_of_list es) name inode none in
        rest (with_one header (is_dir_kind inode.kind)) so
        ∙ one_step header (is_dir_kind inode.kind) (files_in (names_of_list es)) (dirs_in (names_of_list es)) (files_in (map.insert (names_of_list es) name inode)) (dirs_in (map.insert (names_of_list es) name inode)) files dirs
    go rest (Some name) None k r so = absurd cc
    go rest None o k r so = absurd cc
