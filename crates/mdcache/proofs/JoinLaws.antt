-- The names of leaves, taken into a fragment one leaf after the other; and the leaves that end with a merge.
use Rattle.mdcache.proofs.Common.{Bool, Cached, Contains, ContainsFragment, Fragment, HasJoined, HasLeaf, Ino, IsTrue, Leaf, List, Names, TakesIn, [], and_from, and_parts, ap, arith, both_ways, cond, drop, drop-cons, each, eq-eqb, eqb-true, false, filter-append, get_or, in_directory, later, leaves_in, leaves_inside, length, lies_inside, lt-ltb, marked_as, name_joined, nat_lt, refl, span, suc, sym, true, zero, ℕ, ◌++◌, ◌+◌, ◌/◌, ◌<◌, ◌==◌, ◌↔◌, ◌∙◌, ◌∷◌, ◌≡◌}
use Rattle.std.proofs.lemmas.List.{append-nil, append_assoc}
use Rattle.std.specs.FinMap as map
use Rattle.mdcache.proofs.GoneLaws.{contains_mapped}
use Rattle.mdcache.proofs.SplitLaws.{has_inside, not_itself}

-- ---- names

-- those of one leaf
pub one_joined : (names : Leaf → Names) (version : ℕ) (leaf : Leaf) (old new : Cached) → TakesIn old new (names leaf) version → HasJoined names version (leaf ∷ []) old new
one_joined names version leaf old new taken = record { base = ap (λ (f : Cached). f.base) taken.same; generation = ap (λ (f : Cached). f.generation) taken.same; dirty = taken.dirty }

-- a part is one of the leaves
pub part_among : (dir : Ino) (parts : List Fragment) (i : ℕ) (part : Fragment) → i < length parts → part ≡ get_or parts i part → Contains (leaves_in dir parts) (dir, part)
part_among dir parts i part within is = contains_mapped (in_directory dir.0) parts part (i, within, sym is)

-- the names of one more leaf, before those of the leaves to come
pub next_of : {A : Type 0} (xs : List A) (i : ℕ) (x : A) → i < length xs → x ≡ get_or xs i x → drop i xs ≡ x ∷ drop (i + 1) xs
next_of xs i x within is = let next : suc i ≡ i + 1 = omega arith in drop-cons xs i x within ∙ (λ k. sym is k ∷ drop (next k) xs)

pub joined_on : (names now_names : Leaf → Names) (version : ℕ) (dir : Ino) (parts : List Fragment) (i : ℕ) (part : Fragment) (old new : Cached) → i < length parts → part ≡ get_or parts i part
    → now_names (dir, part) ≡ names (dir, part) → HasJoined now_names version ((dir, part) ∷ []) old new
    → (name : List ℕ) → name_joined names version (leaves_in dir (drop (i + 1) parts)) name (map.get new.dirty name) ≡ name_joined names version (leaves_in dir (drop i parts)) name (map.get old.dirty name)
joined_on names now_names version dir parts i part old new within is same joined name =
    ap (name_joined names version (leaves_in dir (drop (i + 1) parts)) name) (joined.dirty name ∙ ap (λ (m : Names). marked_as version (map.get m name) (map.get old.dirty name)) same)
    ∙ sym (ap (λ (ps : List Fragment). name_joined names version (leaves_in dir ps) name (map.get old.dirty name)) (next_of parts i part within is))

-- ---- the leaves that end

-- whether a leaf lies inside: it fixes more bits, and is contained
pub is_within : (f g : Fragment) (b : Bool) → f.bits < g.bits → (IsTrue b ↔ ContainsFragment f g) → b ≡ lies_inside f g
is_within f g b less contains = both_ways b (lies_inside f g)
    (λ is. and_from (nat_lt f.bits g.bits) (g.value / span f.bits == f.value / span f.bits) (lt-ltb f.bits g.bits less) (eq-eqb (g.value / span f.bits) (f.value / span f.bits) (contains.0 is).1))
    (λ is. contains.1 (omega (arith, less), eqb-true (g.value / span f.bits) (f.value / span f.bits) (and_parts (nat_lt f.bits g.bits) (g.value / span f.bits == f.value / span f.bits) is).1))

-- the leaves inside of one and more
pub inside_on : (frag f : Fragment) (fs rest old new whole : List Fragment) → rest ≡ f ∷ fs → new ≡ old ++ leaves_inside frag (f ∷ []) → old ++ leaves_inside frag rest ≡ whole → new ++ leaves_inside frag fs ≡ whole
inside_on frag f fs rest old new whole steps grown is =
    ap (λ l. l ++ leaves_inside frag fs) grown ∙ append_assoc old (leaves_inside frag (f ∷ [])) (leaves_inside frag fs)
    ∙ ap (λ l. old ++ l) (sym (filter-append (lies_inside frag) (f ∷ []) fs) ∙ ap (leaves_inside frag) (sym steps)) ∙ is

-- one leaf, inside or not
pub inside_none : (frag f : Fragment) (old : List Fragment) → lies_inside frag f ≡ false → old ≡ old ++ leaves_inside frag (f ∷ [])
inside_none frag f old outside = sym (append-nil old) ∙ ap (λ (b : Bool). old ++ cond b (f ∷ []) []) (sym outside)

pub inside_one : (frag f : Fragment) (old new : List Fragment) → lies_inside frag f ≡ true → new ≡ old ++ f ∷ [] → new ≡ old ++ leaves_inside frag (f ∷ [])
inside_one frag f old new inside pushed = pushed ∙ ap (λ (b : Bool). old ++ cond b (f ∷ []) []) (sym inside)

-- one of the leaves of a directory that some fragments are
pub from_mapped : (dir : Ino) (fs : List Fragment) (q : Leaf) → Contains (each (in_directory dir.0) fs) q → (f : Fragment) × HasLeaf fs f × (q ≡ (dir, f))
from_mapped dir [] q (k, within, is) = absurd (omega (arith, within))
from_mapped dir (f ∷ fs) q (zero, within, is) = (f, (zero, omega arith, refl), sym is)
from_mapped dir (f ∷ fs) q (suc k, within, is) = let rest = from_mapped dir fs q (k, omega (arith, within), is) in (rest.0, later f rest.0 fs rest.1, rest.2)

-- a fragment isn't among the leaves properly inside it
pub itself_apart : (dir : Ino) (frag : Fragment) (row : List Fragment) → Contains (each (in_directory dir.0) (leaves_inside frag row)) (dir, frag) → ⊥
itself_apart dir frag row has =
    let w = from_mapped dir (leaves_inside frag row) (dir, frag) has in
    let clash : true ≡ false = sym (has_inside frag w.0 row w.1).1 ∙ ap (λ (l : Leaf). lies_inside frag l.1) (sym w.2) ∙ not_itself frag in
    cc
