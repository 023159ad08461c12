-- How the texts that name objects compare, by the numbers that they are made of.
use Rattle.std.proofs.Common.{Bool, List, Ordering, Less, Equal, Greater, [], ap, ap₂, arith, codes, cond, false, nat_cmp, refl, subst, suc, sym, true, zero, ℕ, ◌%◌, ◌++◌, ◌/◌, ◌<◌, ◌==◌, ◌^◌, ◌∙◌, ◌∷◌, ◌≡◌, ◌≢◌, ◌≤◌}
use Rattle.std.proofs.lemmas.Bool.{eq-eqb, eqb-true, ne_eqb}
use Rattle.std.proofs.lemmas.Bool.Decides.{nat_tests}
use Rattle.std.specs.Cmp.{ranks}
use Rattle.std.specs.Cmp.Lexicographic.{slice_cmp}
use Rattle.std.specs.Fmt.{digit_glyph, digits, digits_onto}
use Rattle.std.specs.Ordering.{MatchOrdering, ordering_then}
use Rattle.mds_types.specs.declared.object_names.ObjName.{ObjName}
use Rattle.mds_types.specs.declared.object_names.ObjName.TheVariants.{Frag, Tree}
use Rattle.mds_types.specs.Frag.{word_of}
use Rattle.mds_types.specs.ObjectText.{is_tree, is_whole, dir_number, object_text, word_text}
use Rattle.mds_types.proofs.ByteOrderLaws.{equal, greater, less}

-- ---- digits and what stands behind them

onto-append : (k n : ℕ) (xs us : List ℕ) → digits_onto k 16 false n (xs ++ us) ≡ digits_onto k 16 false n xs ++ us
onto-append zero n xs us = refl
onto-append (suc k) n xs us = at (n / 16 == 0) (onto-append k (n / 16) (digit_glyph false (n % 16) ∷ xs) us)
  where
    at : (last : Bool) → digits_onto k 16 false (n / 16) (digit_glyph false (n % 16) ∷ (xs ++ us)) ≡ digits_onto k 16 false (n / 16) (digit_glyph false (n % 16) ∷ xs) ++ us
        → cond last (digit_glyph false (n % 16) ∷ (xs ++ us)) (digits_onto k 16 false (n / 16) (digit_glyph false (n % 16) ∷ (xs ++ us)))
        ≡ cond last (digit_glyph false (n % 16) ∷ xs) (digits_onto k 16 false (n / 16) (digit_glyph false (n % 16) ∷ xs)) ++ us
    at true more = refl
    at false more = more

pub digits_before : (n : ℕ) (us : List ℕ) → digits 16 false n ++ us ≡ digits_onto 64 16 false n us
unfolding digits
digits_before n us = sym (onto-append 64 n [] us)

-- ---- the order of digits

rising : (d e : ℕ) → d < e → e < 16 → digit_glyph false d < digit_glyph false e
rising d e l few = grind (arith, nat_tests)

glyph_order : (d e : ℕ) → d < 16 → e < 16 → nat_cmp (digit_glyph false d) (digit_glyph false e) ≡ nat_cmp d e
glyph_order d e few less_than = at (nat_cmp d e) (ranks d e)
  where
    at : (r : Ordering) → MatchOrdering r (d < e) (d ≡ e) (e < d) → nat_cmp (digit_glyph false d) (digit_glyph false e) ≡ nat_cmp d e
    at Less l = less (rising d e l less_than) ∙ sym (less {x = d} {y = e} l)
    at Equal l = equal (ap (digit_glyph false) l) ∙ sym (equal {x = d} {y = e} l)
    at Greater l = greater (rising e d l few) ∙ sym (greater {x = d} {y = e} l)

-- numbers compare by all digits but the last, and then by the last
by_last : (a b : ℕ) → nat_cmp a b ≡ ordering_then (nat_cmp (a / 16) (b / 16)) (nat_cmp (a % 16) (b % 16))
by_last a b = at (nat_cmp (a / 16) (b / 16)) (ranks (a / 16) (b / 16))
  where
    last : a / 16 ≡ b / 16 → (r : Ordering) → MatchOrdering r (a % 16 < b % 16) (a % 16 ≡ b % 16) (b % 16 < a % 16) → nat_cmp a b ≡ nat_cmp (a % 16) (b % 16)
    last same Less l = less {x = a} {y = b} (omega arith) ∙ sym (less {x = a % 16} {y = b % 16} l)
    last same Equal l = equal {x = a} {y = b} (omega arith) ∙ sym (equal {x = a % 16} {y = b % 16} l)
    last same Greater l = greater {x = a} {y = b} (omega arith) ∙ sym (greater {x = a % 16} {y = b % 16} l)

    at : (q : Ordering) → MatchOrdering q (a / 16 < b / 16) (a / 16 ≡ b / 16) (b / 16 < a / 16) → nat_cmp a b ≡ ordering_then (nat_cmp (a / 16) (b / 16)) (nat_cmp (a % 16) (b % 16))
    at Less l = less {x = a} {y = b} (omega arith) ∙ sym (ap (λ r. ordering_then r (nat_cmp (a % 16) (b % 16))) (less {x = a / 16} {y = b / 16} l))
    at Equal l = last l (nat_cmp (a % 16) (b % 16)) (ranks (a % 16) (b % 16)) ∙ sym (ap (λ r. ordering_then r (nat_cmp (a % 16) (b % 16))) (equal {x = a / 16} {y = b / 16} l))
    at Greater l = greater {x = a} {y = b} (omega arith) ∙ sym (ap (λ r. ordering_then r (nat_cmp (a % 16) (b % 16))) (greater {x = a / 16} {y = b / 16} l))

then_then : (p q r : Ordering) → ordering_then p (ordering_then q r) ≡ ordering_then (ordering_then p q) r
then_then Less q r = refl
then_then Equal q r = refl
then_then Greater q r = refl

-- a number of so many digits, and one more
abbrev pub IsLong : ℕ → ℕ → Type 0
IsLong zero n = n < 16
IsLong (suc m) n = (16 ≤ n) × IsLong m (n / 16)

one_digit : (k n : ℕ) (us : List ℕ) → n < 16 → digits_onto (suc k) 16 false n us ≡ digit_glyph false n ∷ us
one_digit k n us few =
    let low : n / 16 ≡ 0 = omega arith in
    let same : n % 16 ≡ n = omega arith in
    ap (λ t. cond t (digit_glyph false (n % 16) ∷ us) (digits_onto k 16 false (n / 16) (digit_glyph false (n % 16) ∷ us))) (eq-eqb (n / 16) 0 low)
    ∙ ap (λ d. digit_glyph false d ∷ us) same

more_digits : (k n : ℕ) (us : List ℕ) → 16 ≤ n → digits_onto (suc k) 16 false n us ≡ digits_onto k 16 false (n / 16) (digit_glyph false (n % 16) ∷ us)
more_digits k n us many =
    ap (λ t. cond t (digit_glyph false (n % 16) ∷ us) (digits_onto k 16 false (n / 16) (digit_glyph false (n % 16) ∷ us))) (ne_eqb (n / 16) 0 (omega arith))

-- two numbers of as many digits compare as their digits do
pub order_onto : (m k a b : ℕ) (us vs : List ℕ) → m < k → IsLong m a → IsLong m b
    → slice_cmp nat_cmp (digits_onto k 16 false a us) (digits_onto k 16 false b vs) ≡ ordering_then (nat_cmp a b) (slice_cmp nat_cmp us vs)
order_onto m zero a b us vs few one two = absurd (omega arith)
order_onto zero (suc k) a b us vs few one two =
    ap₂ (slice_cmp nat_cmp) (one_digit k a us one) (one_digit k b vs two)
    ∙ ap (λ r. ordering_then r (slice_cmp nat_cmp us vs)) (glyph_order a b one two)
order_onto (suc m) (suc k) a b us vs few one two =
    let rest : Ordering = slice_cmp nat_cmp us vs in
    ap₂ (slice_cmp nat_cmp) (more_digits k a us one.0) (more_digits k b vs two.0)
    ∙ order_onto m k (a / 16) (b / 16) (digit_glyph false (a % 16) ∷ us) (digit_glyph false (b % 16) ∷ vs) (omega arith) one.1 two.1
    ∙ ap (λ r. ordering_then (nat_cmp (a / 16) (b / 16)) (ordering_then r rest)) (glyph_order (a % 16) (b % 16) (omega arith) (omega arith))
    ∙ then_then (nat_cmp (a / 16) (b / 16)) (nat_cmp (a % 16) (b % 16)) rest
    ∙ ap (λ r. ordering_then r rest) (sym (by_last a b))

-- ---- numbers of eleven digits, as those of the first fifteen ranks have

power-some : (m : ℕ) → 1 ≤ 16 ^ m
power-some zero = omega arith
power-some (suc m) = let some = power-some m in omega (arith, some)

long_from : (m n : ℕ) → 16 ^ m ≤ n → n < 16 ^ (suc m) → IsLong m n
long_from zero n low high = omega (arith, high)
long_from (suc m) n low high =
    let some = power-some m in
    (omega (arith, some, low), long_from m (n / 16) (omega (arith, low)) (omega (arith, high)))

pub eleven_digits : (n : ℕ) → 1099511627776 ≤ n → n < 17592186044416 → IsLong 10 n
eleven_digits n low high = long_from 10 n (omega (arith, low)) (omega (arith, high))

-- ---- texts

-- what stands behind the digits of a directory's number
abbrev pub rest_of : ObjName → List ℕ
rest_of (Frag ino frag) = codes "." ++ word_text (word_of frag)
rest_of (Tree ino) = codes ".fragtree"

text_is : (name : ObjName) → object_text name ≡ digits_onto 64 16 false (dir_number name) (rest_of name)
text_is (Frag ino frag) = digits_before ino.0 (codes "." ++ word_text (word_of frag))
text_is (Tree ino) = digits_before ino.0 (codes ".fragtree")

-- texts of directories with eleven digits compare as the directories' numbers, where these differ
pub by_numbers : (x y : ObjName) → IsLong 10 (dir_number x) → IsLong 10 (dir_number y) → dir_number x ≢ dir_number y
    → slice_cmp nat_cmp (object_text x) (object_text y) ≡ nat_cmp (dir_number x) (dir_number y)
by_numbers x y one two differ =
    ap₂ (slice_cmp nat_cmp) (text_is x) (text_is y)
    ∙ order_onto 10 64 (dir_number x) (dir_number y) (rest_of x) (rest_of y) (omega arith) one two
    ∙ settled (nat_cmp (dir_number x) (dir_number y)) (ranks (dir_number x) (dir_number y))
  where
    settled : (r : Ordering) → MatchOrdering r (dir_number x < dir_number y) (dir_number x ≡ dir_number y) (dir_number y < dir_number x)
        → ordering_then r (slice_cmp nat_cmp (rest_of x) (rest_of y)) ≡ r
    settled Less l = refl
    settled Equal l = absurd (differ l)
    settled Greater l = refl

-- what stands in front of both decides nothing
past_front : (front xs ys : List ℕ) → slice_cmp nat_cmp (front ++ xs) (front ++ ys) ≡ slice_cmp nat_cmp xs ys
past_front [] xs ys = refl
past_front (x ∷ front) xs ys =
    ap (λ r. ordering_then r (slice_cmp nat_cmp (front ++ xs) (front ++ ys))) (equal {x = x} {y = x} refl) ∙ past_front front xs ys

-- the object of a directory's whole fragment comes before that of its tree
whole_first : slice_cmp nat_cmp (codes "." ++ word_text 0) (codes ".fragtree") ≡ Less
unfolding digits
whole_first = refl

tree_last : slice_cmp nat_cmp (codes ".fragtree") (codes "." ++ word_text 0) ≡ Greater
unfolding digits
tree_last = refl

pub whole_before_tree : (x y : ObjName) → dir_number x ≡ dir_number y → is_whole x ≡ true → is_tree y ≡ true → Less ≡ slice_cmp nat_cmp (object_text x) (object_text y)
whole_before_tree (Frag ino frag) (Tree other) same whole tree = sym
    (ap (λ n. slice_cmp nat_cmp (digits 16 false ino.0 ++ (codes "." ++ word_text (word_of frag))) (digits 16 false n ++ codes ".fragtree")) (sym same)
    ∙ past_front (digits 16 false ino.0) (codes "." ++ word_text (word_of frag)) (codes ".fragtree")
    ∙ ap (λ w. slice_cmp nat_cmp (codes "." ++ word_text w) (codes ".fragtree")) (eqb-true (word_of frag) 0 whole) ∙ whole_first)
whole_before_tree (Frag ino frag) (Frag other part) same whole tree = absurd cc
whole_before_tree (Tree ino) y same whole tree = absurd cc

pub tree_behind_whole : (x y : ObjName) → dir_number x ≡ dir_number y → is_tree x ≡ true → is_whole y ≡ true → Greater ≡ slice_cmp nat_cmp (object_text x) (object_text y)
tree_behind_whole (Tree ino) (Frag other frag) same tree whole = sym
    (ap (λ n. slice_cmp nat_cmp (digits 16 false ino.0 ++ codes ".fragtree") (digits 16 false n ++ (codes "." ++ word_text (word_of frag)))) (sym same)
    ∙ past_front (digits 16 false ino.0) (codes ".fragtree") (codes "." ++ word_text (word_of frag))
    ∙ ap (λ w. slice_cmp nat_cmp (codes ".fragtree") (codes "." ++ word_text w)) (eqb-true (word_of frag) 0 whole) ∙ tree_last)
tree_behind_whole (Tree ino) (Tree other) same tree whole = absurd cc
tree_behind_whole (Frag ino frag) y same tree whole = absurd cc

pub same_trees : (x y : ObjName) → dir_number x ≡ dir_number y → is_tree x ≡ true → is_tree y ≡ true → Equal ≡ slice_cmp nat_cmp (object_text x) (object_text y)
same_trees (Tree ino) (Tree other) same one two = sym
    (ap (λ n. slice_cmp nat_cmp (digits 16 false ino.0 ++ codes ".fragtree") (digits 16 false n ++ codes ".fragtree")) (sym same)
    ∙ past_front (digits 16 false ino.0) (codes ".fragtree") (codes ".fragtree"))
same_trees (Tree ino) (Frag other frag) same one two = absurd cc
same_trees (Frag ino frag) y same one two = absurd cc

pub by_numbers_of : (x y : ObjName) (a b : ℕ) → a ≡ dir_number x → b ≡ dir_number y → (1099511627776 ≤ a) × (a < 17592186044416) → (1099511627776 ≤ b) × (b < 17592186044416) → a ≢ b
    → nat_cmp a b ≡ slice_cmp nat_cmp (object_text x) (object_text y)
by_numbers_of x y a b one two (low, high) (lower, higher) differ =
    ap₂ nat_cmp one two ∙ sym (by_numbers x y (subst (IsLong 10) one (eleven_digits a low high)) (subst (IsLong 10) two (eleven_digits b lower higher)) (λ same. differ (one ∙ same ∙ sym two)))
