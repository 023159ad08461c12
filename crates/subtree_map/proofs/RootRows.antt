-- The rows from a root on: it comes first, and behind it those from the next root on.
use Rattle.subtree_map.proofs.Common.{Bool, Equal, Greater, IsFirst, IsRootIfSome, Leaf, Less, List, None, Option, Ordering, Rank, Roots, Some, T, [], ap, below_all, cond, entries_sorted, false, find, get-entries, inl, inr, is_leaf_after, is_eq, is_from, is_le, is_lt, is_some, is_sorted, leaf-exact, leaf-total, leaf_cmp, left_of, ordering_reverse, refl, right_of, rows_from, sym, tied_itself, true, where_key, ◌∙◌, ◌∷◌, ◌≡◌, ◌⊎◌}
use Rattle.std.specs.FinMap as map
use Rattle.sorted_map.proofs.PlaceLaws.{less as less_of}
use Rattle.subtree_map.proofs.Firsts.{behind, first_row}
use Rattle.subtree_map.proofs.ListFirsts.{all_pass}

-- all rows pass that are above a leaf where what is above it passes
above_all : (p : Leaf → Bool) (q : Leaf) (es : List (Leaf × Rank)) → ((x : Leaf) → leaf_cmp q x ≡ Less → p x ≡ true) → T (below_all leaf_cmp q es) → where_key leaf_cmp p es ≡ es
above_all p q [] pass below = refl
above_all p q (e ∷ es) pass below =
    ap (λ b. cond b (e ∷ where_key leaf_cmp p es) (where_key leaf_cmp p es)) (pass e.0 (less_of _ (left_of _ _ below))) ∙ ap (λ t. e ∷ t) (above_all p q es pass (right_of _ _ below))

turned : (a b : Leaf) (r : Ordering) → leaf_cmp a b ≡ r → leaf_cmp b a ≡ ordering_reverse r
turned a b r is = leaf-total.antisymm b a ∙ ap ordering_reverse is

-- of a test that passes what is above something that passes, the rows that pass are those from the first of them on
pub from_first : (p : Leaf → Bool) → ((x y : Leaf) → p x ≡ true → leaf_cmp x y ≡ Less → p y ≡ true) → (es rest : List (Leaf × Rank)) (e : Leaf × Rank) → T (is_sorted leaf_cmp es) → where_key leaf_cmp p es ≡ e ∷ rest
    → where_key leaf_cmp (is_from leaf_cmp e.0) es ≡ e ∷ rest
from_first p up [] rest e sorted is = let clash : [] ≡ e ∷ rest = is in absurd cc
from_first p up (d ∷ ds) rest e sorted is = go (from_first p up ds rest e (right_of _ _ sorted)) (p d.0) refl
  where
    all : (q : Leaf × Rank) → q ≡ d → where_key leaf_cmp (is_from leaf_cmp q.0) (d ∷ ds) ≡ d ∷ ds
    all q same =
        ap (λ b. cond b (d ∷ where_key leaf_cmp (is_from leaf_cmp q.0) ds) (where_key leaf_cmp (is_from leaf_cmp q.0) ds)) (ap is_le (ap (λ (k : Leaf × Rank). leaf_cmp k.0 d.0) same ∙ tied_itself leaf-total d.0))
        ∙ ap (λ t. d ∷ t) (above_all (is_from leaf_cmp q.0) d.0 ds (λ x less. ap is_le (ap (λ (k : Leaf × Rank). leaf_cmp k.0 x) same ∙ less)) (left_of _ _ sorted))

    head : (a b : Leaf × Rank) (s t : List (Leaf × Rank)) → a ∷ s ≡ b ∷ t → b ≡ a
    head a b s t same = cc

    there : (es : List (Leaf × Rank)) → T (below_all leaf_cmp d.0 es) → where_key leaf_cmp p es ≡ e ∷ rest → leaf_cmp d.0 e.0 ≡ Less
    there [] below none = let clash : [] ≡ e ∷ rest = none in absurd cc
    there (c ∷ cs) below some = more (there cs (right_of _ _ below)) (p c.0) refl
      where
        more : (where_key leaf_cmp p cs ≡ e ∷ rest → leaf_cmp d.0 e.0 ≡ Less) → (b : Bool) → p c.0 ≡ b → leaf_cmp d.0 e.0 ≡ Less
        more later true on =
            ap (λ (k : Leaf × Rank). leaf_cmp d.0 k.0) (head c e (where_key leaf_cmp p cs) rest (sym (ap (λ b. cond b (c ∷ where_key leaf_cmp p cs) (where_key leaf_cmp p cs)) on) ∙ some)) ∙ less_of _ (left_of _ _ below)
        more later false off = later (sym (ap (λ b. cond b (c ∷ where_key leaf_cmp p cs) (where_key leaf_cmp p cs)) off) ∙ some)

    go : (where_key leaf_cmp p ds ≡ e ∷ rest → where_key leaf_cmp (is_from leaf_cmp e.0) ds ≡ e ∷ rest) → (b : Bool) → p d.0 ≡ b → where_key leaf_cmp (is_from leaf_cmp e.0) (d ∷ ds) ≡ e ∷ rest
    go later true on =
        let whole : where_key leaf_cmp p (d ∷ ds) ≡ d ∷ ds =
        ap (λ b. cond b (d ∷ where_key leaf_cmp p ds) (where_key leaf_cmp p ds)) on ∙ ap (λ t. d ∷ t) (above_all p d.0 ds (λ x less. up d.0 x on less) (left_of _ _ sorted)) in
        all e (head d e ds rest (sym whole ∙ is)) ∙ sym whole ∙ is
    go later false off =
        let rest_is : where_key leaf_cmp p ds ≡ e ∷ rest = sym (ap (λ b. cond b (d ∷ where_key leaf_cmp p ds) (where_key leaf_cmp p ds)) off) ∙ is in
        let low : is_le (leaf_cmp e.0 d.0) ≡ false = ap is_le (turned d.0 e.0 Less (there ds (left_of _ _ sorted) rest_is)) in
        ap (λ b. cond b (d ∷ where_key leaf_cmp (is_from leaf_cmp e.0) ds) (where_key leaf_cmp (is_from leaf_cmp e.0) ds)) low ∙ later rest_is

-- two firsts are one
one_first : (rows : Roots) (p : Leaf → Bool) (a b : Option Leaf) → IsFirst rows p a → IsFirst rows p b → a ≡ b
one_first rows p None None none also = refl
one_first rows p None (Some b) none (on, some, first) = let clash : false ≡ true = ap is_some (sym (none b on)) ∙ some in absurd cc
one_first rows p (Some a) None (on, some, first) none = let clash : false ≡ true = ap is_some (sym (none a on)) ∙ some in absurd cc
one_first rows p (Some a) (Some b) (on, some, first) (also, there, least) = go (first b also there) (least a on some)
  where
    go : (b ≡ a) ⊎ (leaf_cmp a b ≡ Less) → (a ≡ b) ⊎ (leaf_cmp b a ≡ Less) → Some a ≡ Some b
    go (inl same) other = ap Some (sym same)
    go (inr less) (inl same) = ap Some same
    go (inr less) (inr more) = let clash : Greater ≡ Less = sym (turned a b Less less) ∙ more in absurd cc

-- the rows that pass such a test are those from the first of them on
pub rows_pass : (rows : Roots) (p : Leaf → Bool) → ((x y : Leaf) → p x ≡ true → leaf_cmp x y ≡ Less → p y ≡ true) → (first : Option Leaf) → IsFirst rows p first → where_key leaf_cmp p (map.entries rows) ≡ rows_from rows first
rows_pass rows p up first is = go (where_key leaf_cmp p (map.entries rows)) refl
  where
    go : (left : List (Leaf × Rank)) → where_key leaf_cmp p (map.entries rows) ≡ left → where_key leaf_cmp p (map.entries rows) ≡ rows_from rows first
    go [] none = none ∙ ap (rows_from rows) (one_first rows p None first (first_row rows p [] (sym none)) is)
    go (e ∷ rest) some =
        some ∙ sym (from_first p up (map.entries rows) rest e (entries_sorted rows) some) ∙ ap (rows_from rows) (one_first rows p (Some e.0) first (first_row rows p (e ∷ rest) (sym some)) is)

pub all_rows : (rows : Roots) (first : Option Leaf) → IsFirst rows (is_leaf_after None) first → rows_from rows first ≡ map.entries rows
all_rows rows first is = sym (all_pass (map.entries rows) ∙ rows_pass rows (is_leaf_after None) (λ x y on less. refl) first is)

lt_less : (r : Ordering) → is_lt r ≡ true → r ≡ Less
lt_less Less is = refl
lt_less Equal is = let clash : false ≡ true = is in absurd cc
lt_less Greater is = let clash : false ≡ true = is in absurd cc

-- a root comes first of the rows from it on
leads : (es : List (Leaf × Rank)) (leaf : Leaf) (rank : Rank) → T (is_sorted leaf_cmp es) → find leaf_cmp leaf es ≡ Some rank → where_key leaf_cmp (is_from leaf_cmp leaf) es ≡ (leaf, rank) ∷ where_key leaf_cmp (is_leaf_after (Some leaf)) es
leads [] leaf rank sorted has = let clash : None ≡ Some rank = has in absurd cc
leads (e ∷ es) leaf rank sorted has = go (leads es leaf rank (right_of _ _ sorted)) (leaf_cmp leaf e.0) refl
  where
    tests : (b c : Bool) → is_le (leaf_cmp leaf e.0) ≡ b → is_lt (leaf_cmp leaf e.0) ≡ c → cond b (e ∷ where_key leaf_cmp (is_from leaf_cmp leaf) es) (where_key leaf_cmp (is_from leaf_cmp leaf) es) ≡ (leaf, rank) ∷ cond c (e ∷ where_key leaf_cmp (is_leaf_after (Some leaf)) es) (where_key leaf_cmp (is_leaf_after (Some leaf)) es)
        → where_key leaf_cmp (is_from leaf_cmp leaf) (e ∷ es) ≡ (leaf, rank) ∷ where_key leaf_cmp (is_leaf_after (Some leaf)) (e ∷ es)
    tests b c at below is =
        ap (λ t. cond t (e ∷ where_key leaf_cmp (is_from leaf_cmp leaf) es) (where_key leaf_cmp (is_from leaf_cmp leaf) es)) at ∙ is
        ∙ ap (λ t. (leaf, rank) ∷ cond t (e ∷ where_key leaf_cmp (is_leaf_after (Some leaf)) es) (where_key leaf_cmp (is_leaf_after (Some leaf)) es)) (sym below)

    found_here : leaf_cmp leaf e.0 ≡ Equal → Some e.1 ≡ Some rank
    found_here tied = sym (ap (λ r. cond (is_eq r) (Some e.1) (find leaf_cmp leaf es)) tied) ∙ has

    found_later : (r : Ordering) → leaf_cmp leaf e.0 ≡ r → is_eq r ≡ false → find leaf_cmp leaf es ≡ Some rank
    found_later r at apart = sym (ap (λ b. cond b (Some e.1) (find leaf_cmp leaf es)) (ap is_eq at ∙ apart)) ∙ has

    same_row : leaf ≡ e.0 → Some e.1 ≡ Some rank → ◌≡◌ {A = Leaf × Rank} e (leaf, rank)
    same_row same value = let v : e.1 ≡ rank = (let x : Some e.1 ≡ Some rank = value in cc) in λ i. (sym same i, v i)

    go : (find leaf_cmp leaf es ≡ Some rank → where_key leaf_cmp (is_from leaf_cmp leaf) es ≡ (leaf, rank) ∷ where_key leaf_cmp (is_leaf_after (Some leaf)) es) → (r : Ordering) → leaf_cmp leaf e.0 ≡ r
        → where_key leaf_cmp (is_from leaf_cmp leaf) (e ∷ es) ≡ (leaf, rank) ∷ where_key leaf_cmp (is_leaf_after (Some leaf)) (e ∷ es)
    go later Less at =
        let after = behind e.0 es leaf (left_of _ _ sorted) (ap is_some (found_later Less at refl)) in
        let clash : Greater ≡ Less = sym (turned leaf e.0 Less at) ∙ after in
        absurd cc
    go later Equal at =
        let same = leaf-exact leaf e.0 at in
        let above : (x : Leaf) → leaf_cmp e.0 x ≡ Less → leaf_cmp leaf x ≡ Less = λ x less. ap (λ (k : Leaf). leaf_cmp k x) same ∙ less in
        tests true false (ap is_le at) (ap is_lt at)
        (ap (λ t. e ∷ t) (above_all (is_from leaf_cmp leaf) e.0 es (λ x less. ap is_le (above x less)) (left_of _ _ sorted) ∙ sym (above_all (is_leaf_after (Some leaf)) e.0 es (λ x less. ap is_lt (above x less)) (left_of _ _ sorted)))
        ∙ ap (λ d. d ∷ where_key leaf_cmp (is_leaf_after (Some leaf)) es) (same_row same (found_here at)))
    go later Greater at = tests false false (ap is_le at) (ap is_lt at) (later (found_later Greater at refl))

-- a root, and behind it the rows from the next one on
pub next_rows : (rows : Roots) (leaf : Leaf) (rank : Rank) (next : Option Leaf) → map.get rows leaf ≡ Some rank → IsFirst rows (is_leaf_after (Some leaf)) next → rows_from rows (Some leaf) ≡ (leaf, rank) ∷ rows_from rows next
next_rows rows leaf rank next has is =
    leads (map.entries rows) leaf rank (entries_sorted rows) (sym (get-entries rows leaf) ∙ has)
    ∙ ap (λ t. (leaf, rank) ∷ t) (rows_pass rows (is_leaf_after (Some leaf)) (λ x y on less. ap is_lt (leaf-total.trans leaf x y (lt_less _ on) less)) next is)
