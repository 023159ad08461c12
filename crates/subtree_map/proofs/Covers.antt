-- The leaves of directories where one gets others.
use Rattle.subtree_map.proofs.Common.{Bool, CanMerge, Contains, Contains-from_range, Covers, FitsSplit, Fragment, HasLeaf, IsChild, IsFragment, IsTree, List, [], ap, arith, between, cond, false, leaves_inside, leaves_of, length, lies_inside, mul-le-mul_left, or_whole, range_from_inside, refl, some_pick, span, span-split, span_pos, subst, suc, sym, true, zero, ℕ, ◌%◌, ◌*◌, ◌+◌, ◌<◌, ◌^◌, ◌∙◌, ◌∷◌, ◌≡◌, ◌≢◌, ◌≤◌}
use Rattle.std.specs.FinMap as map
use Rattle.sorted_map.proofs.NatKeys as nat

pub leaves_here : (covers : Covers) (d : ℕ) (to : List Fragment) → leaves_of (map.insert covers d to) d ≡ to
leaves_here covers d to = ap or_whole (nat.get_put covers d to)

pub leaves_beside : (covers : Covers) (d : ℕ) (to : List Fragment) (e : ℕ) → e ≢ d → leaves_of (map.insert covers d to) e ≡ leaves_of covers e
leaves_beside covers d to e apart = ap or_whole (nat.get_beside covers d to e apart)

pub leaves_left : (covers : Covers) (d e : ℕ) → e ≢ d → leaves_of (map.remove covers d) e ≡ leaves_of covers e
leaves_left covers d e apart = ap or_whole (nat.get_left covers d e apart)

-- the leaves of a table in which one directory got others
pub leaves_now : (covers later : Covers) (d : ℕ) (to : List Fragment) → later ≡ map.insert covers d to → leaves_of later d ≡ to
leaves_now covers later d to changed = ap (λ c. leaves_of c d) changed ∙ leaves_here covers d to

pub leaves_still : (covers later : Covers) (d : ℕ) (to : List Fragment) → later ≡ map.insert covers d to → (e : ℕ) → e ≢ d → leaves_of later e ≡ leaves_of covers e
leaves_still covers later d to changed e apart = ap (λ c. leaves_of c e) changed ∙ leaves_beside covers d to e apart

-- two leaves that contain a hash are one
pub one_leaf : (leaves : List Fragment) (f g : Fragment) (hash : ℕ) → IsTree leaves → HasLeaf leaves f → HasLeaf leaves g → Contains f hash → Contains g hash → f ≡ g
one_leaf leaves f g hash tree has also in_f in_g =
    let pick = some_pick leaves hash tree in
    pick.1.alone f has in_f ∙ sym (pick.1.alone g also in_g)

pub is_fragment : (leaves : List Fragment) (f : Fragment) → IsTree leaves → HasLeaf leaves f → IsFragment f
is_fragment leaves f tree has = (between 0 (2 ^ 24) leaves f tree.tiles has).0

-- a fragment contains the hash that it begins with
pub contains_start : (f : Fragment) → IsFragment f → Contains f f.value
contains_start f h = let same : f.value % 2 ^ 24 ≡ f.value = omega (arith, h.in_range) in Contains-from_range f f.value h (omega (arith, same)) (omega (arith, same, span_pos f.bits))

-- a child of a leaf is none itself
pub child_is_new : (leaves : List Fragment) (f g : Fragment) (nb : ℕ) → IsTree leaves → HasLeaf leaves f → FitsSplit f nb → IsChild f nb g → HasLeaf leaves g → ⊥
child_is_new leaves f g nb tree has fits (i, below, is) also =
    let hf = is_fragment leaves f tree has in
    let hg = is_fragment leaves g tree also in
    let s = span (f.bits + nb) in
    let start : g.value ≡ f.value + i * s = ap (λ (h : Fragment). h.value) is in
    let whole : span f.bits ≡ 2 ^ nb * s = span-split f.bits nb fits.in_all in
    let few : s * (i + 1) ≤ s * 2 ^ nb = mul-le-mul_left s (omega (arith, below)) in
    let next : s * (i + 1) ≡ i * s + s = omega arith in
    let some : 0 < s = span_pos (f.bits + nb) in
    let last : g.value < f.value + span f.bits = omega (arith, start, whole, few, next, some) in
    let same : g.value % 2 ^ 24 ≡ g.value = omega (arith, hg.in_range) in
    let in_f : Contains f g.value = Contains-from_range f g.value hf (omega (arith, same, start)) (omega (arith, same, last)) in
    let one : f ≡ g = one_leaf leaves f g g.value tree has also in_f (contains_start g hg) in
    let bits : f.bits ≡ g.bits = ap (λ (h : Fragment). h.bits) one in
    let more : g.bits ≡ f.bits + nb = ap (λ (h : Fragment). h.bits) is in
    omega (arith, bits, more, fits.some)

-- where leaves can be merged, one lies inside
pub some_inside : (leaves : List Fragment) (f : Fragment) → 1 ≤ length (leaves_inside f leaves) → (g : Fragment) × HasLeaf leaves g × (lies_inside f g ≡ true)
some_inside [] f some = absurd (omega (arith, some))
some_inside (g ∷ gs) f some = go (lies_inside f g) refl some (λ rest. some_inside gs f rest)
  where
    Found : List Fragment → Type 0
    Found ls = (g : Fragment) × HasLeaf ls g × (lies_inside f g ≡ true)

    later : Found gs → Found (g ∷ gs)
    later (h, (k, stands, is), inside) = (h, (suc k, omega (arith, stands), is), inside)

    go : (b : Bool) → lies_inside f g ≡ b → 1 ≤ length (leaves_inside f (g ∷ gs)) → (1 ≤ length (leaves_inside f gs) → Found gs) → Found (g ∷ gs)
    go true is more rest = (g, (zero, omega arith, refl), is)
    go false is more rest = later (rest (subst (λ (b : Bool). 1 ≤ length (cond b (g ∷ leaves_inside f gs) (leaves_inside f gs))) is more))

-- where leaves can be merged at a fragment, it is none itself
pub merged_is_new : (leaves : List Fragment) (f : Fragment) → IsTree leaves → CanMerge leaves f → HasLeaf leaves f → ⊥
merged_is_new leaves f tree can has =
    let inside = some_inside leaves f can.some in
    let g = inside.0 in
    let hf = is_fragment leaves f tree has in
    let hg = is_fragment leaves g tree inside.1 in
    let range = range_from_inside f g hf inside.2 in
    let same : g.value % 2 ^ 24 ≡ g.value = omega (arith, hg.in_range) in
    let one : f ≡ g = one_leaf leaves f g g.value tree has inside.1 (Contains-from_range f g.value hf (omega (arith, same, range.1)) (omega (arith, same, range.2))) (contains_start g hg) in
    let bits : f.bits ≡ g.bits = ap (λ (h : Fragment). h.bits) one in
    omega (arith, bits, range.0)
