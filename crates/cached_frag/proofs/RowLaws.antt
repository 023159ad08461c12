-- Two lists of rows in the order of their names, merged.
use Rattle.cached_frag.proofs.Common.{Bool, Change, Equal, Greater, Inode, Less, List, Mark, Marks, Names, None, Option, Ordering, NamedInode, Some, T, [], all_kept, ap, below_all, both_of, by_order, changed_rows, cond, entries_sorted, eq_by_cmp, exact_bytes, false, find, find-where_key, head_of, get-entries, inl, inode_or, inr, is_after, is_lt, is_sorted, is_sorted-where_key, key_apart, key_cmp, key_same, key_tied, left_of, merged, merged_one, nat_list_cmp_total, not_found, ordering_reverse, patched, refl, right_of, rows_after, same_entries, same_or_apart, subst, sym, true, where_key, with_change, ℕ, ◌∙◌, ◌∷◌, ◌≡◌, ◌⊎◌}
use Rattle.std.specs.FinMap as map
use Rattle.sorted_map.proofs.PlaceLaws.{less as less_of}
use Rattle.cached_frag.proofs.MarkLaws.{get-patched}

is_less : (r : Ordering) → r ≡ Less → T (is_lt r)
is_less Less h = tt
is_less Equal h = cc
is_less Greater h = cc

-- ---- a name below others

pub below_chain : {X : Type 0} (a b : List ℕ) (es : List (List ℕ × X)) → key_cmp a b ≡ Less → T (below_all key_cmp b es) → T (below_all key_cmp a es)
below_chain a b [] less below = tt
below_chain a b (e ∷ es) less below = both_of _ _ (is_less _ (nat_list_cmp_total.trans a b e.0 less (less_of _ (left_of _ _ below)))) (below_chain a b es less (right_of _ _ below))

below_same : {X : Type 0} (a b : List ℕ) (es : List (List ℕ × X)) → a ≡ b → T (below_all key_cmp b es) → T (below_all key_cmp a es)
below_same a b es same below = subst (λ (k : List ℕ). T (below_all key_cmp k es)) (sym same) below

below_change : (x name : List ℕ) (inode : Option Inode) (rows : List NamedInode) → T (is_lt (key_cmp x name)) → T (below_all key_cmp x rows) → T (below_all key_cmp x (with_change name inode rows))
below_change x name (Some inode) rows less below = both_of _ _ less below
below_change x name None rows less below = below

below_changes : (x : List ℕ) (ms : List Change) → T (below_all key_cmp x ms) → T (below_all key_cmp x (changed_rows ms))
below_changes x [] below = tt
below_changes x (m ∷ ms) below = below_change x m.0 m.1.inode (changed_rows ms) (left_of _ _ below) (below_changes x ms (right_of _ _ below))

below_order : (x : List ℕ) (r : Ordering) (a b c : List NamedInode) → T (below_all key_cmp x a) → T (below_all key_cmp x b) → T (below_all key_cmp x c) → T (below_all key_cmp x (by_order r a b c))
below_order x Less a b c p q s = p
below_order x Equal a b c p q s = q
below_order x Greater a b c p q s = s

below_one : (x : List ℕ) (e : NamedInode) (rest : List Change → List NamedInode) → T (is_lt (key_cmp x e.0)) → ((ms : List Change) → T (below_all key_cmp x ms) → T (below_all key_cmp x (rest ms)))
    → (ms : List Change) → T (below_all key_cmp x ms) → T (below_all key_cmp x (merged_one e rest ms))
below_one x e rest less behind [] below = both_of _ _ less (behind [] tt)
below_one x e rest less behind (m ∷ ms) below =
    below_order x (key_cmp e.0 m.0) _ _ _ (both_of _ _ less (behind (m ∷ ms) below)) (below_change x m.0 m.1.inode (rest ms) (left_of _ _ below) (behind ms (right_of _ _ below)))
    (below_change x m.0 m.1.inode (merged_one e rest ms) (left_of _ _ below) (below_one x e rest less behind ms (right_of _ _ below)))

below_merged : (x : List ℕ) (es : List NamedInode) (ms : List Change) → T (below_all key_cmp x es) → T (below_all key_cmp x ms) → T (below_all key_cmp x (merged es ms))
below_merged x [] ms b c = below_changes x ms c
below_merged x (e ∷ es) ms b c = below_one x e (merged es) (left_of _ _ b) (λ ns d. below_merged x es ns (right_of _ _ b) d) ms c

-- ---- in order

sorted_change : (name : List ℕ) (inode : Option Inode) (rows : List NamedInode) → T (below_all key_cmp name rows) → T (is_sorted key_cmp rows) → T (is_sorted key_cmp (with_change name inode rows))
sorted_change name (Some inode) rows below sorted = both_of _ _ below sorted
sorted_change name None rows below sorted = sorted

sorted_changes : (ms : List Change) → T (is_sorted key_cmp ms) → T (is_sorted key_cmp (changed_rows ms))
sorted_changes [] sorted = tt
sorted_changes (m ∷ ms) sorted = sorted_change m.0 m.1.inode (changed_rows ms) (below_changes m.0 ms (left_of _ _ sorted)) (sorted_changes ms (right_of _ _ sorted))

greater_back : (a b : List ℕ) → key_cmp a b ≡ Greater → key_cmp b a ≡ Less
greater_back a b is = nat_list_cmp_total.antisymm b a ∙ ap ordering_reverse is

equal_is : (a b : List ℕ) → key_cmp a b ≡ Equal → a ≡ b
equal_is a b is = exact_bytes a b is

sorted_one : (e : NamedInode) (es : List NamedInode) → T (below_all key_cmp e.0 es) → ((ms : List Change) → T (is_sorted key_cmp ms) → T (is_sorted key_cmp (merged es ms)))
    → (ms : List Change) → T (is_sorted key_cmp ms) → T (is_sorted key_cmp (merged_one e (merged es) ms))
sorted_one e es below behind [] sorted = both_of _ _ (below_merged e.0 es [] below tt) (behind [] tt)
sorted_one e es below behind (m ∷ ms) sorted = go (sorted_one e es below behind ms (right_of _ _ sorted)) (key_cmp e.0 m.0) refl
  where
    go : T (is_sorted key_cmp (merged_one e (merged es) ms)) → (r : Ordering) → key_cmp e.0 m.0 ≡ r
        → T (is_sorted key_cmp (by_order r (e ∷ merged es (m ∷ ms)) (with_change m.0 m.1.inode (merged es ms)) (with_change m.0 m.1.inode (merged_one e (merged es) ms))))
    go rest Less is = both_of _ _ (below_merged e.0 es (m ∷ ms) below (both_of _ _ (is_less _ is) (below_chain e.0 m.0 ms is (left_of _ _ sorted)))) (behind (m ∷ ms) sorted)
    go rest Equal is = sorted_change m.0 m.1.inode (merged es ms) (below_merged m.0 es ms (below_same m.0 e.0 es (sym (equal_is e.0 m.0 is)) below) (left_of _ _ sorted)) (behind ms (right_of _ _ sorted))
    go rest Greater is =
        sorted_change m.0 m.1.inode (merged_one e (merged es) ms)
        (below_merged m.0 (e ∷ es) ms (both_of _ _ (is_less _ (greater_back e.0 m.0 is)) (below_chain m.0 e.0 es (greater_back e.0 m.0 is) below)) (left_of _ _ sorted)) rest

merged_sorted : (es : List NamedInode) (ms : List Change) → T (is_sorted key_cmp es) → T (is_sorted key_cmp ms) → T (is_sorted key_cmp (merged es ms))
merged_sorted [] ms s t = sorted_changes ms t
merged_sorted (e ∷ es) ms s t = sorted_one e es (left_of _ _ s) (λ ns u. merged_sorted es ns (right_of _ _ s) u) ms t

-- ---- what is found

find_change : (q name : List ℕ) (inode : Option Inode) (rows : List NamedInode) → (q ≡ name → find key_cmp q rows ≡ None) → find key_cmp q (with_change name inode rows) ≡ cond (eq_by_cmp key_cmp q name) inode (find key_cmp q rows)
find_change q name (Some inode) rows none = refl
find_change q name None rows none = go (same_or_apart q name)
  where
    go : (q ≡ name) ⊎ (q ≡ name → ⊥) → find key_cmp q rows ≡ cond (eq_by_cmp key_cmp q name) None (find key_cmp q rows)
    go (inl same) = none same ∙ sym (ap (λ (b : Bool). cond b None (find key_cmp q rows)) (key_same q name same))
    go (inr apart) = sym (ap (λ (b : Bool). cond b None (find key_cmp q rows)) (key_apart q name apart))

-- what became of a name, if it is among the dirty ones, and otherwise what it was
changed_find : (q : List ℕ) (m : Change) (ms : List Change) (below : Option Inode) → cond (eq_by_cmp key_cmp q m.0) m.1.inode (inode_or (find key_cmp q ms) below) ≡ inode_or (find key_cmp q (m ∷ ms)) below
changed_find q m ms below = go (eq_by_cmp key_cmp q m.0)
  where
    go : (b : Bool) → cond b m.1.inode (inode_or (find key_cmp q ms) below) ≡ inode_or (cond b (Some m.1) (find key_cmp q ms)) below
    go true = refl
    go false = refl

find_changes : (q : List ℕ) (ms : List Change) → T (is_sorted key_cmp ms) → find key_cmp q (changed_rows ms) ≡ inode_or (find key_cmp q ms) None
find_changes q [] sorted = refl
find_changes q (m ∷ ms) sorted =
    let rest : find key_cmp q (changed_rows ms) ≡ inode_or (find key_cmp q ms) None = find_changes q ms (right_of _ _ sorted) in
    find_change q m.0 m.1.inode (changed_rows ms) (λ same. rest ∙ ap (λ (r : Option Mark). inode_or r None) (not_found m.0 q ms same (left_of _ _ sorted)))
    ∙ ap (λ (r : Option Inode). cond (eq_by_cmp key_cmp q m.0) m.1.inode r) rest ∙ changed_find q m ms None

-- a row before all the dirty names
row_first : (q : List ℕ) (e : NamedInode) (es : List NamedInode) (later : Option Mark) → (q ≡ e.0 → later ≡ None) → cond (eq_by_cmp key_cmp q e.0) (Some e.1) (inode_or later (find key_cmp q es)) ≡ inode_or later (find key_cmp q (e ∷ es))
row_first q e es later none = go later none (eq_by_cmp key_cmp q e.0) refl
  where
    go : (l : Option Mark) → (q ≡ e.0 → l ≡ None) → (b : Bool) → eq_by_cmp key_cmp q e.0 ≡ b → cond b (Some e.1) (inode_or l (find key_cmp q es)) ≡ inode_or l (cond b (Some e.1) (find key_cmp q es))
    go (Some mark) n true is = let clash : Some mark ≡ None = n (key_tied q e.0 is) in absurd cc
    go (Some mark) n false is = refl
    go None n true is = refl
    go None n false is = refl

-- a row that one of the dirty names replaces
row_apart : (q : List ℕ) (e : NamedInode) (es : List NamedInode) (b : Bool) → eq_by_cmp key_cmp q e.0 ≡ b → find key_cmp q (e ∷ es) ≡ cond b (Some e.1) (find key_cmp q es)
row_apart q e es b is = ap (λ (t : Bool). cond t (Some e.1) (find key_cmp q es)) is

find_one : (q : List ℕ) (e : NamedInode) (es : List NamedInode) → T (below_all key_cmp e.0 es) → ((ms : List Change) → T (is_sorted key_cmp ms) → find key_cmp q (merged es ms) ≡ inode_or (find key_cmp q ms) (find key_cmp q es))
    → (ms : List Change) → T (is_sorted key_cmp ms) → find key_cmp q (merged_one e (merged es) ms) ≡ inode_or (find key_cmp q ms) (find key_cmp q (e ∷ es))
find_one q e es below behind [] sorted = ap (λ (r : Option Inode). cond (eq_by_cmp key_cmp q e.0) (Some e.1) r) (behind [] tt)
find_one q e es below behind (m ∷ ms) sorted = go (find_one q e es below behind ms (right_of _ _ sorted)) (key_cmp e.0 m.0) refl
  where
    gone : q ≡ m.0 → find key_cmp q ms ≡ None
    gone same = not_found m.0 q ms same (left_of _ _ sorted)

    at_change : (below : Option Inode) (rows : List NamedInode) → (q ≡ m.0 → below ≡ None) → find key_cmp q rows ≡ inode_or (find key_cmp q ms) below → find key_cmp q (with_change m.0 m.1.inode rows) ≡ inode_or (find key_cmp q (m ∷ ms)) below
    at_change under rows none found =
        find_change q m.0 m.1.inode rows (λ same. found ∙ ap (λ (r : Option Mark). inode_or r under) (gone same) ∙ none same)
        ∙ ap (λ (r : Option Inode). cond (eq_by_cmp key_cmp q m.0) m.1.inode r) found ∙ changed_find q m ms under

    replaced : e.0 ≡ m.0 → inode_or (find key_cmp q (m ∷ ms)) (find key_cmp q es) ≡ inode_or (find key_cmp q (m ∷ ms)) (find key_cmp q (e ∷ es))
    replaced one = by (same_or_apart q m.0)
      where
        by : (q ≡ m.0) ⊎ (q ≡ m.0 → ⊥) → inode_or (find key_cmp q (m ∷ ms)) (find key_cmp q es) ≡ inode_or (find key_cmp q (m ∷ ms)) (find key_cmp q (e ∷ es))
        by (inl same) = let here : find key_cmp q (m ∷ ms) ≡ Some m.1 = ap (λ (b : Bool). cond b (Some m.1) (find key_cmp q ms)) (key_same q m.0 same) in
            ap (λ (r : Option Mark). inode_or r (find key_cmp q es)) here ∙ sym (ap (λ (r : Option Mark). inode_or r (find key_cmp q (e ∷ es))) here)
        by (inr apart) = ap (inode_or (find key_cmp q (m ∷ ms))) (sym (row_apart q e es false (key_apart q e.0 (λ same. apart (same ∙ one)))))

    go : find key_cmp q (merged_one e (merged es) ms) ≡ inode_or (find key_cmp q ms) (find key_cmp q (e ∷ es)) → (r : Ordering) → key_cmp e.0 m.0 ≡ r
        → find key_cmp q (by_order r (e ∷ merged es (m ∷ ms)) (with_change m.0 m.1.inode (merged es ms)) (with_change m.0 m.1.inode (merged_one e (merged es) ms))) ≡ inode_or (find key_cmp q (m ∷ ms)) (find key_cmp q (e ∷ es))
    go rest Less is =
        ap (λ (r : Option Inode). cond (eq_by_cmp key_cmp q e.0) (Some e.1) r) (behind (m ∷ ms) sorted)
        ∙ row_first q e es (find key_cmp q (m ∷ ms)) (λ same. not_found e.0 q (m ∷ ms) same (both_of _ _ (is_less _ is) (below_chain e.0 m.0 ms is (left_of _ _ sorted))))
    go rest Equal is =
        let one : e.0 ≡ m.0 = equal_is e.0 m.0 is in
        at_change (find key_cmp q es) (merged es ms) (λ same. not_found e.0 q es (same ∙ sym one) below) (behind ms (right_of _ _ sorted)) ∙ replaced one
    go rest Greater is =
        let less : key_cmp m.0 e.0 ≡ Less = greater_back e.0 m.0 is in
        at_change (find key_cmp q (e ∷ es)) (merged_one e (merged es) ms) (λ same. not_found m.0 q (e ∷ es) same (both_of _ _ (is_less _ less) (below_chain m.0 e.0 es less below))) rest

find_merged : (q : List ℕ) (es : List NamedInode) (ms : List Change) → T (is_sorted key_cmp es) → T (is_sorted key_cmp ms) → find key_cmp q (merged es ms) ≡ inode_or (find key_cmp q ms) (find key_cmp q es)
find_merged q [] ms s t = find_changes q ms t
find_merged q (e ∷ es) ms s t = find_one q e es (left_of _ _ s) (λ ns u. find_merged q es ns (right_of _ _ s) u) ms t

-- ---- the rows of a fragment

both_past : (b : Bool) (mark : Option Mark) (inode : Option Inode) → inode_or (cond b mark None) (cond b inode None) ≡ cond b (inode_or mark inode) None
both_past true mark inode = refl
both_past false mark inode = refl

alike : (after : Option (List ℕ)) (q x : List ℕ) → key_cmp q x ≡ Equal → is_after after x ≡ is_after after q
alike after q x tied = ap (is_after after) (sym (exact_bytes q x tied))

pub rows_are : (clean : Names) (dirty : Marks) (after : Option (List ℕ)) → merged (where_key key_cmp (is_after after) (map.entries clean)) (where_key key_cmp (is_after after) (map.entries dirty)) ≡ rows_after after (map.entries (patched clean dirty))
rows_are clean dirty after =
    let past = is_after after in
    let rows = where_key key_cmp past (map.entries clean) in
    let changes = where_key key_cmp past (map.entries dirty) in
    let rows_rise : T (is_sorted key_cmp rows) = is_sorted-where_key key_cmp past (map.entries clean) (entries_sorted clean) in
    let changes_rise : T (is_sorted key_cmp changes) = is_sorted-where_key key_cmp past (map.entries dirty) (entries_sorted dirty) in
    same_entries key_cmp nat_list_cmp_total exact_bytes (merged rows changes) (rows_after after (map.entries (patched clean dirty))) (merged_sorted rows changes rows_rise changes_rise)
    (is_sorted-where_key key_cmp past (map.entries (patched clean dirty)) (entries_sorted (patched clean dirty))) (λ q.
    find_merged q rows changes rows_rise changes_rise
    ∙ ap (λ (r : Option Mark). inode_or r (find key_cmp q rows)) (find-where_key key_cmp past q (alike after q) (map.entries dirty))
    ∙ ap (inode_or (cond (past q) (find key_cmp q (map.entries dirty)) None)) (find-where_key key_cmp past q (alike after q) (map.entries clean))
    ∙ both_past (past q) (find key_cmp q (map.entries dirty)) (find key_cmp q (map.entries clean))
    ∙ ap (λ (r : Option Mark). cond (past q) (inode_or r (find key_cmp q (map.entries clean))) None) (sym (get-entries dirty q))
    ∙ ap (λ (r : Option Inode). cond (past q) (inode_or (map.get dirty q) r) None) (sym (get-entries clean q))
    ∙ ap (λ (r : Option Inode). cond (past q) r None) (sym (get-patched clean dirty q) ∙ get-entries (patched clean dirty) q)
    ∙ sym (find-where_key key_cmp past q (alike after q) (map.entries (patched clean dirty))))

-- ---- lists

pub first_is : {A : Type 0} (es : List A) (x : A) → head_of es ≡ Some x → (rest : List A) × (es ≡ x ∷ rest)
first_is [] x is = absurd cc
first_is (y ∷ rest) x is = let same : y ≡ x = cc in (rest, ap (λ z. z ∷ rest) same)

pub all_rows_are : (clean : Names) (dirty : Marks) → merged (map.entries clean) (map.entries dirty) ≡ rows_after None (map.entries (patched clean dirty))
all_rows_are clean dirty = (λ i. merged (sym (all_kept (map.entries clean)) i) (sym (all_kept (map.entries dirty)) i)) ∙ rows_are clean dirty None
