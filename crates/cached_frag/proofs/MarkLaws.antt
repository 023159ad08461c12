-- What dirty names make of the names below them.
use Rattle.std.proofs.Common.{◌≡◌, ℕ, Bool, true, false, cond, ◌⊎◌, List, [], ◌∷◌, Option, Some, None, refl, sym, ap, subst, ◌∙◌, inl, inr}
use Rattle.std.specs.Prelude.{T}
use Rattle.std.specs.List.{AllByRecursion}
use Rattle.std.specs.Ordering.{eq_by_cmp, is_lt}
use Rattle.std.specs.FinMap as map
use Rattle.std.specs.FinMap.{find, is_sorted, entries_sorted, get-empty, get-entries, entries-from_sorted, get-from_sorted}
use Rattle.std.specs.FinMap.Entries.{below_all}
use Rattle.sorted_map.proofs.Bools.{both_of, left_of, right_of}
use Rattle.mds_types.specs.declared.inodes.Inode.{Inode}
use Rattle.objstore.specs.Omap.{key_cmp}
use Rattle.dirfrag_codec.specs.FragmentObject.{Names}
use Rattle.dirfrag_codec.proofs.ByteKeys.{get_beside, get_left, get_put, get_removed, key_apart, key_same, not_found, one_map, same_or_apart}
use Rattle.cached_frag.specs.declared.marks.Mark.{Mark}
use Rattle.cached_frag.specs.Marks.{AreDirtyNames, IsDirtyName, Marks, inode_or, patched, with_changed_name, with_marks}

pub marked_here : (names : Names) (name : List ℕ) (inode : Option Inode) → map.get (with_changed_name names name inode) name ≡ inode
marked_here names name (Some inode) = get_put names name inode
marked_here names name None = get_removed names name

pub marked_beside : (names : Names) (name : List ℕ) (inode : Option Inode) (q : List ℕ) → (q ≡ name → ⊥) → map.get (with_changed_name names name inode) q ≡ map.get names q
marked_beside names name (Some inode) q apart = get_beside names name inode q apart
marked_beside names name None q apart = get_left names name q apart

get-with_marks : (names : Names) (es : List (List ℕ × Mark)) (q : List ℕ) → T (is_sorted key_cmp es) → map.get (with_marks names es) q ≡ inode_or (find key_cmp q es) (map.get names q)
get-with_marks names [] q sorted = refl
get-with_marks names (e ∷ es) q sorted = get-with_marks (with_changed_name names e.0 e.1.inode) es q (right_of _ _ sorted) ∙ go (same_or_apart q e.0)
  where
    go : (q ≡ e.0) ⊎ (q ≡ e.0 → ⊥) → inode_or (find key_cmp q es) (map.get (with_changed_name names e.0 e.1.inode) q) ≡ inode_or (cond (eq_by_cmp key_cmp q e.0) (Some e.1) (find key_cmp q es)) (map.get names q)
    go (inl same) =
        let here : map.get (with_changed_name names e.0 e.1.inode) q ≡ e.1.inode = ap (λ (k : List ℕ). map.get (with_changed_name names e.0 e.1.inode) k) same ∙ marked_here names e.0 e.1.inode in
        ap (λ (r : Option Mark). inode_or r (map.get (with_changed_name names e.0 e.1.inode) q)) (not_found e.0 q es same (left_of _ _ sorted)) ∙ here
        ∙ sym (ap (λ (b : Bool). inode_or (cond b (Some e.1) (find key_cmp q es)) (map.get names q)) (key_same q e.0 same))
    go (inr apart) =
        ap (inode_or (find key_cmp q es)) (marked_beside names e.0 e.1.inode q apart)
        ∙ sym (ap (λ (b : Bool). inode_or (cond b (Some e.1) (find key_cmp q es)) (map.get names q)) (key_apart q e.0 apart))

pub patched_is : (names : Names) (marks : Marks) → with_marks names (map.entries marks) ≡ patched names marks
unfolding patched
patched_is names marks = refl

pub get-patched : (names : Names) (marks : Marks) (q : List ℕ) → map.get (patched names marks) q ≡ inode_or (map.get marks q) (map.get names q)
unfolding patched
get-patched names marks q = get-with_marks names (map.entries marks) q (entries_sorted marks) ∙ ap (λ (r : Option Mark). inode_or r (map.get names q)) (sym (get-entries marks q))

-- ---- over nothing, the names are the present ones

abbrev pub with_present : List ℕ → Option Inode → List (List ℕ × Inode) → List (List ℕ × Inode)
with_present name (Some inode) rest = (name, inode) ∷ rest
with_present name None rest = rest

abbrev pub present : List (List ℕ × Mark) → List (List ℕ × Inode)
present [] = []
present (e ∷ es) = with_present e.0 e.1.inode (present es)

below_one : (x name : List ℕ) (inode : Option Inode) (rest : List (List ℕ × Inode)) → T (is_lt (key_cmp x name)) → T (below_all key_cmp x rest) → T (below_all key_cmp x (with_present name inode rest))
below_one x name (Some inode) rest h below = both_of _ _ h below
below_one x name None rest h below = below

below_present : (x : List ℕ) (es : List (List ℕ × Mark)) → T (below_all key_cmp x es) → T (below_all key_cmp x (present es))
below_present x [] h = tt
below_present x (e ∷ es) h = below_one x e.0 e.1.inode (present es) (left_of _ _ h) (below_present x es (right_of _ _ h))

sorted_one : (name : List ℕ) (inode : Option Inode) (rest : List (List ℕ × Inode)) → T (below_all key_cmp name rest) → T (is_sorted key_cmp rest) → T (is_sorted key_cmp (with_present name inode rest))
sorted_one name (Some inode) rest below sorted = both_of _ _ below sorted
sorted_one name None rest below sorted = sorted

present_sorted : (es : List (List ℕ × Mark)) → T (is_sorted key_cmp es) → T (is_sorted key_cmp (present es))
present_sorted [] h = tt
present_sorted (e ∷ es) h = sorted_one e.0 e.1.inode (present es) (below_present e.0 es (left_of _ _ h)) (present_sorted es (right_of _ _ h))

find_one : (q name : List ℕ) (mark : Mark) (inode : Option Inode) (rest : List (List ℕ × Inode)) (later : Option Mark) → mark.inode ≡ inode → (q ≡ name → later ≡ None) → find key_cmp q rest ≡ inode_or later None
    → find key_cmp q (with_present name inode rest) ≡ inode_or (cond (eq_by_cmp key_cmp q name) (Some mark) later) None
find_one q name mark inode rest later is none found = go inode is (same_or_apart q name)
  where
    here : (b : Bool) → eq_by_cmp key_cmp q name ≡ b → inode_or (cond b (Some mark) later) None ≡ inode_or (cond (eq_by_cmp key_cmp q name) (Some mark) later) None
    here b e = sym (ap (λ (t : Bool). inode_or (cond t (Some mark) later) None) e)

    go : (o : Option Inode) → mark.inode ≡ o → (q ≡ name) ⊎ (q ≡ name → ⊥) → find key_cmp q (with_present name o rest) ≡ inode_or (cond (eq_by_cmp key_cmp q name) (Some mark) later) None
    go (Some i) e (inl same) = ap (λ (t : Bool). cond t (Some i) (find key_cmp q rest)) (key_same q name same) ∙ sym e ∙ here true (key_same q name same)
    go (Some i) e (inr apart) = ap (λ (t : Bool). cond t (Some i) (find key_cmp q rest)) (key_apart q name apart) ∙ found ∙ here false (key_apart q name apart)
    go None e (inl same) = found ∙ ap (λ (r : Option Mark). inode_or r None) (none same) ∙ sym e ∙ here true (key_same q name same)
    go None e (inr apart) = found ∙ here false (key_apart q name apart)

find_present : (q : List ℕ) (es : List (List ℕ × Mark)) → T (is_sorted key_cmp es) → find key_cmp q (present es) ≡ inode_or (find key_cmp q es) None
find_present q [] sorted = refl
find_present q (e ∷ es) sorted =
    find_one q e.0 e.1 e.1.inode (present es) (find key_cmp q es) refl (λ same. not_found e.0 q es same (left_of _ _ sorted)) (find_present q es (right_of _ _ sorted))

pub entries-fresh : (marks : Marks) → map.entries (patched map.empty marks) ≡ present (map.entries marks)
entries-fresh marks =
    let es = map.entries marks in
    let sorted : T (is_sorted key_cmp (present es)) = present_sorted es (entries_sorted marks) in
    let same : patched map.empty marks ≡ map.from_sorted (present es) =
    one_map (patched map.empty marks) (map.from_sorted (present es)) (λ q.
    get-patched map.empty marks q ∙ ap (inode_or (map.get marks q)) (get-empty key_cmp q) ∙ ap (λ (r : Option Mark). inode_or r None) (get-entries marks q)
    ∙ sym (get-from_sorted key_cmp (present es) q sorted ∙ find_present q es (entries_sorted marks))) in
    ap map.entries same ∙ entries-from_sorted key_cmp (present es) sorted

-- ---- what dirty names keep

pub none_dirty : (marks : Marks) → marks ≡ map.empty → AreDirtyNames marks
none_dirty marks is name mark found =
    let clash : None ≡ Some mark = sym (get-empty key_cmp name) ∙ sym (ap (λ (m : Marks). map.get m name) is) ∙ found in
    absurd cc

pub one_dirty : (old new : Marks) (name : List ℕ) (mark : Mark) → AreDirtyNames old → IsDirtyName name mark → new ≡ map.insert old name mark → AreDirtyNames new
one_dirty old new name mark before now is q found it = go (same_or_apart q name)
  where
    at : map.get (map.insert old name mark) q ≡ Some found
    at = ap (λ (m : Marks). map.get m q) (sym is) ∙ it

    go : (q ≡ name) ⊎ (q ≡ name → ⊥) → IsDirtyName q found
    go (inl same) =
        let value : Some mark ≡ Some found = sym (get_put old name mark) ∙ ap (λ (k : List ℕ). map.get (map.insert old name mark) k) (sym same) ∙ at in
        let marks : mark ≡ found = cc in
        subst (λ (m : Mark). IsDirtyName q m) marks (subst (λ (k : List ℕ). IsDirtyName k mark) (sym same) now)
    go (inr apart) = before q found (sym (get_beside old name mark q apart) ∙ at)

all_among : (es : List (List ℕ × Mark)) → T (is_sorted key_cmp es) → ((name : List ℕ) (mark : Mark) → find key_cmp name es ≡ Some mark → IsDirtyName name mark) → AllByRecursion (λ (e : List ℕ × Mark). IsDirtyName e.0 e.1) es
all_among [] sorted each = tt
all_among (e ∷ es) sorted each =
    (each e.0 e.1 (ap (λ (b : Bool). cond b (Some e.1) (find key_cmp e.0 es)) (key_same e.0 e.0 refl)), all_among es (right_of _ _ sorted) (λ name mark found. each name mark (behind name mark found (same_or_apart name e.0))))
  where
    behind : (name : List ℕ) (mark : Mark) → find key_cmp name es ≡ Some mark → (name ≡ e.0) ⊎ (name ≡ e.0 → ⊥) → cond (eq_by_cmp key_cmp name e.0) (Some e.1) (find key_cmp name es) ≡ Some mark
    behind name mark found (inl same) = let clash : None ≡ Some mark = sym (not_found e.0 name es same (left_of _ _ sorted)) ∙ found in absurd cc
    behind name mark found (inr apart) = ap (λ (b : Bool). cond b (Some e.1) (find key_cmp name es)) (key_apart name e.0 apart) ∙ found

-- each of them in the list of entries
pub all_dirty : (marks : Marks) → AreDirtyNames marks → AllByRecursion (λ (e : List ℕ × Mark). IsDirtyName e.0 e.1) (map.entries marks)
all_dirty marks dirty = all_among (map.entries marks) (entries_sorted marks) (λ name mark found. dirty name mark (get-entries marks name ∙ found))
