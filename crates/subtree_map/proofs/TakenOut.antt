-- Rows taken out one after the other.
use Rattle.subtree_map.proofs.Common.{AreTakenOut, Fragment, IsRootMerge, IsSome, Leaf, None, Option, Rank, Roots, Some, Subtrees, ap, arith, cond, empty_of_len, false, get-empty, get_beside, get_left, get_put, get_removed, inl, inr, is_inside, is_some, leaf-total, leaf_cmp, leaf_in_dir, len-remove, lies_inside, nat_tests, refl, same_or_apart, suc, sym, true, zero, ℕ, ◌-◌, ◌<◌, ◌∙◌, ◌≡◌, ◌≢◌, ◌≤◌}
use Rattle.std.specs.FinMap as map
use Rattle.subtree_map.proofs.Options.{not_none, value_of}
use Rattle.subtree_map.proofs.Merged.{inside_of}

-- what has been taken out so far: nothing, or the root of a rank, which took no room
abbrev pub Found : Subtrees → Subtrees → ℕ → Fragment → Option Rank → Type 0
Found old now d f None = now ≡ old
Found old now d f (Some rank) = ((leaf : Leaf) × (is_inside d f leaf ≡ true) × (map.get old.roots leaf ≡ Some rank)) × (old.room ≤ now.room)

-- a map that loses a key gets shorter
pub shorter : {X : Type 0} (rows now : map.FinMap leaf_cmp X) (leaf : Leaf) → IsSome (map.get rows leaf) → now ≡ map.remove rows leaf → map.len now < map.len rows
shorter {X} rows now leaf there is = go (map.len rows) refl
  where
    less : map.len now ≡ map.len rows - 1
    less = ap map.len is ∙ len-remove leaf-total rows leaf ∙ ap (λ b. cond b (map.len rows - 1) (map.len rows)) there

    go : (n : ℕ) → map.len rows ≡ n → map.len now < map.len rows
    go zero none =
        let clash : true ≡ false = sym there ∙ ap (λ (m : map.FinMap leaf_cmp X). is_some (map.get m leaf)) (empty_of_len rows none) ∙ ap is_some (get-empty _ leaf) in
        cc
    go (suc n) some = omega (arith, less, some)

-- each other row stays
pub other_stays : (rows now : Roots) (gone leaf : Leaf) → now ≡ map.remove rows gone → leaf ≢ gone → map.get now leaf ≡ map.get rows leaf
other_stays rows now gone leaf is apart = ap (λ m. map.get m leaf) is ∙ get_left rows gone leaf apart

-- what is there was there before
pub stays_there : (rows now : Roots) (gone leaf : Leaf) (rank : Rank) → now ≡ map.remove rows gone → map.get now leaf ≡ Some rank → map.get rows leaf ≡ Some rank
stays_there rows now gone leaf rank is has = elim (same_or_apart leaf gone) [
  | inl same ↦ absurd (not_none _ rank (ap (λ m. map.get m leaf) is ∙ ap (map.get (map.remove rows gone)) same ∙ get_removed rows gone) has)
  | inr apart ↦ sym (other_stays rows now gone leaf is apart) ∙ has
]

-- the next root inside is found
pub found_next : (old now next : Subtrees) (d : ℕ) (f : Fragment) (root : Leaf) (before after : Option Rank) → Found old now d f before → is_inside d f root ≡ true → IsSome (map.get now.roots root)
    → ((leaf : Leaf) (rank : Rank) → map.get now.roots leaf ≡ Some rank → map.get old.roots leaf ≡ Some rank) → after ≡ map.get now.roots root → now.room ≤ next.room → Found old next d f after
found_next old now next d f root before after found inside there fewer is room = go after is before found
  where
    some : (rank : Rank) → Some rank ≡ map.get now.roots root → (leaf : Leaf) × (is_inside d f leaf ≡ true) × (map.get old.roots leaf ≡ Some rank)
    some rank gets = (root, inside, fewer root rank (sym gets))

    go : (o : Option Rank) → o ≡ map.get now.roots root → (b : Option Rank) → Found old now d f b → Found old next d f o
    go None none b so_far = let value = value_of _ there in absurd (not_none _ value.0 (sym none) value.1)
    go (Some rank) gets None same = (some rank gets, let rooms : now.room ≡ old.room = ap (λ (s : Subtrees). s.room) same in omega (arith, rooms, room))
    go (Some rank) gets (Some had) so_far = (some rank gets, omega (arith, so_far.1, room))

-- the fragment is put in the place of what was taken out
pub merged_rows : (old mid new : Roots) (d : ℕ) (f : Fragment) (rank : Rank) → AreTakenOut old mid d f (Some rank) → new ≡ map.insert mid (leaf_in_dir d f) rank → IsRootMerge old new d f
merged_rows old mid new d f rank (gone, others, from) is = record {
  gone = λ leaf inside. beside leaf (λ same. itself_out leaf inside same) ∙ gone leaf inside;
  others = λ leaf outside apart. beside leaf apart ∙ others leaf outside;
  some = λ leaf inside had. ap is_some here;
  rank = λ r has. (from.0, inr from.1, from.2 ∙ sym here ∙ has);
}
  where
    here : map.get new (leaf_in_dir d f) ≡ Some rank
    here = ap (λ m. map.get m (leaf_in_dir d f)) is ∙ get_put mid (leaf_in_dir d f) rank

    beside : (leaf : Leaf) → leaf ≢ leaf_in_dir d f → map.get new leaf ≡ map.get mid leaf
    beside leaf apart = ap (λ m. map.get m leaf) is ∙ get_beside mid (leaf_in_dir d f) rank leaf apart

    itself_out : (leaf : Leaf) → is_inside d f leaf ≡ true → leaf ≡ leaf_in_dir d f → ⊥
    itself_out leaf inside same =
        let own : lies_inside f f ≡ true = ap (lies_inside f) (ap (λ (k : Leaf). k.1) (sym same)) ∙ inside_of d f leaf inside in
        let more : f.bits < f.bits = grind (arith, nat_tests) in
        omega arith
