-- Leaves that get a rank where they have none.
use Rattle.subtree_map.proofs.Common.{AreFilled, Bool, Contains, Contains-append_cases, Contains-append_left, Contains-append_right, Fragment, HasLeaf, IsFilled, IsFragment, IsPick, IsTree, Leaf, List, None, Option, Rank, Roots, Some, Tiles, [], ap, arith, false, get_beside, get_put, inl, inr, is_some, leaf_in_dir, length, refl, same_or_apart, span, span_pos, subst, suc, sym, true, zero, ℕ, ◌++◌, ◌+◌, ◌<◌, ◌^◌, ◌∙◌, ◌∷◌, ◌≡◌, ◌≤◌}
use Rattle.std.proofs.lemmas.List.{append_assoc, length-append, append-nil}
use Rattle.std.specs.FinMap as map
use Rattle.subtree_map.proofs.Covers.{contains_start}
use Rattle.subtree_map.proofs.Options.{not_none, value_of}

-- what a test told
pub absent_of : (o : Option Rank) (told : Bool) → told ≡ is_some o → told ≡ false → o ≡ None
absent_of None told is not = refl
absent_of (Some rank) told is not = let clash : false ≡ true = sym not ∙ is in cc

pub filled_one : (old new : Roots) (leaf : Leaf) (rank : Rank) → map.get old leaf ≡ None → new ≡ map.insert old leaf rank → IsFilled old new leaf rank
filled_one old new leaf rank none is = record {
  absent = λ gone. ap (λ m. map.get m leaf) is ∙ get_put old leaf rank;
  there = λ some. let has = value_of _ some in absurd (not_none _ has.0 none has.1);
  others = λ other apart. ap (λ m. map.get m other) is ∙ get_beside old leaf rank other apart;
}

module _ (d : ℕ) (done : List Fragment) (f : Fragment) (rank : Rank) where
  -- one leaf more has the rank where it had none
  pub filled_more : (old now new : Roots) → AreFilled old now d done rank → IsFilled now new (leaf_in_dir d f) rank → AreFilled old new d (done ++ f ∷ []) rank
  filled_more old now new so_far is = record {
    absent = λ g has none. elim (Contains-append_cases done (f ∷ []) g has) [
      | inl before ↦ beside (leaf_in_dir d g) rank (so_far.absent g before none)
      | inr last ↦ here g (only f g last) none (map.get now (leaf_in_dir d g)) refl
    ];
    there = λ leaf some. let has = value_of _ some in beside leaf has.0 (so_far.there leaf some ∙ has.1) ∙ sym has.1;
    elsewhere = λ leaf apart. is.others leaf (λ same. apart (ap (λ (k : Leaf). k.0.0) same)) ∙ so_far.elsewhere leaf apart;
    made = λ leaf none some. elim (same_or_apart leaf (leaf_in_dir d f)) [
      | inl same ↦ (ap (λ (k : Leaf). k.0.0) same, Contains-append_right done (f ∷ []) leaf.1 (zero, omega arith, ap (λ (k : Leaf). k.1) (sym same)))
      | inr apart ↦
          let before = so_far.made leaf none (ap is_some (sym (is.others leaf apart)) ∙ some) in
          (before.0, Contains-append_left done (f ∷ []) leaf.1 before.1)
    ];
  }
    where
      only : (f g : Fragment) → HasLeaf (f ∷ []) g → g ≡ f
      only f g (zero, stands, same) = sym same
      only f g (suc k, stands, same) = absurd (omega (arith, stands))

      -- a leaf that has a rank keeps it
      beside : (leaf : Leaf) (had : Rank) → map.get now leaf ≡ Some had → map.get new leaf ≡ Some had
      beside leaf had has = elim (same_or_apart leaf (leaf_in_dir d f)) [
        | inl same ↦
            let own : map.get now (leaf_in_dir d f) ≡ Some had = ap (map.get now) (sym same) ∙ has in
            ap (map.get new) same ∙ is.there (ap is_some own) ∙ own
        | inr apart ↦ is.others leaf apart ∙ has
      ]

      here : (g : Fragment) → g ≡ f → map.get old (leaf_in_dir d g) ≡ None → (o : Option Rank) → map.get now (leaf_in_dir d g) ≡ o → map.get new (leaf_in_dir d g) ≡ Some rank
      here g same none None gone = ap (λ h. map.get new (leaf_in_dir d h)) same ∙ is.absent (ap (λ h. map.get now (leaf_in_dir d h)) (sym same) ∙ gone)
      here g same none (Some had) has = again (so_far.made (leaf_in_dir d g) none (ap is_some has))
        where
          again : (d ≡ d) × HasLeaf done g → map.get new (leaf_in_dir d g) ≡ Some rank
          again before = beside (leaf_in_dir d g) rank (so_far.absent g before.1 none)

pub filled_none : (old : Roots) (d : ℕ) (rank : Rank) → AreFilled old old d [] rank
filled_none old d rank = record {
  absent = λ f has none. absurd (omega (arith, has.1));
  there = λ leaf some. refl;
  elsewhere = λ leaf apart. refl;
  made = λ leaf none some. let has = value_of _ some in absurd (not_none _ has.0 none has.1);
}

-- the leaves of a directory are filled up to a hash: those done have the rank, and there is room for the rest
pub record Walk (leaves : List Fragment) (hash : ℕ) (old now : Roots) (d : ℕ) (rank : Rank) (before room : ℕ) : Type 0 where
  pub done : List Fragment
  pub rest : List Fragment
  pub all : leaves ≡ done ++ rest
  pub tiles : Tiles hash (2 ^ 24) rest
  pub filled : AreFilled old now d done rank
  pub few : length rest ≤ room
  pub enough : before ≤ room + length done

pub walk_starts : (leaves : List Fragment) (old : Roots) (d : ℕ) (rank : Rank) (room : ℕ) → IsTree leaves → length leaves ≤ room → Walk leaves 0 old old d rank room room
walk_starts leaves old d rank room tree few = record {
  done = [];
  rest = leaves;
  all = refl;
  tiles = tree.tiles;
  filled = filled_none old d rank;
  few = few;
  enough = omega arith;
}

module _ (leaves : List Fragment) (hash : ℕ) (old now : Roots) (d : ℕ) (rank : Rank) (before room : ℕ) (walk : Walk leaves hash old now d rank before room) where
  -- the first of the rest begins at the hash
  abbrev Next : List Fragment → Type 0
  Next rest = (f : Fragment) × (more : List Fragment) × (rest ≡ f ∷ more) × IsFragment f × (f.value ≡ hash) × Tiles (hash + span f.bits) (2 ^ 24) more

  next_of : (rest : List Fragment) → Tiles hash (2 ^ 24) rest → hash < 2 ^ 24 → Next rest
  next_of [] tiles low = absurd (omega (arith, tiles, low))
  next_of (f ∷ more) tiles low = (f, more, refl, tiles.0, tiles.1, tiles.2)

  next : hash < 2 ^ 24 → Next walk.rest
  next low = next_of walk.rest walk.tiles low

  -- so there is room for it
  pub walk_room : hash < 2 ^ 24 → 0 < room
  walk_room low =
      let n = next low in
      let some : length walk.rest ≡ suc (length n.1) = ap (length {A = Fragment}) n.2 in
      omega (arith, walk.few, some)

  -- and it is the pick of the hash
  picked : (leaf : Fragment) → IsPick leaves hash leaf → (low : hash < 2 ^ 24) → (next low).0 ≡ leaf
  picked leaf pick low =
      let n = next low in
      let there : HasLeaf leaves n.0 = subst (λ ls. HasLeaf ls n.0) (sym (walk.all ∙ ap (λ r. walk.done ++ r) n.2)) (Contains-append_right walk.done (n.0 ∷ n.1) n.0 (zero, omega arith, refl)) in
      pick.alone n.0 there (subst (Contains n.0) n.4 (contains_start n.0 n.3))

  -- the walk goes on
  pub walk_on : (leaf : Fragment) (end : ℕ) → hash < 2 ^ 24 → IsPick leaves hash leaf → end ≡ leaf.value + span leaf.bits → hash < end
  walk_on leaf end low pick ends =
      let n = next low in
      let start : leaf.value ≡ hash = ap (λ (f : Fragment). f.value) (sym (picked leaf pick low)) ∙ n.4 in
      omega (arith, ends, start, span_pos leaf.bits)

  pub walk_goes : (new : Roots) (leaf : Fragment) (end left : ℕ) → hash < 2 ^ 24 → IsPick leaves hash leaf → IsFilled now new (leaf_in_dir d leaf) rank → end ≡ leaf.value + span leaf.bits → room ≤ left + 1 → Walk leaves end old new d rank before left
  walk_goes new leaf end left low pick is ends less =
      let n = next low in
      let own : n.0 ≡ leaf = picked leaf pick low in
      let start : leaf.value ≡ hash = ap (λ (f : Fragment). f.value) (sym own) ∙ n.4 in
      let spans : span n.0.bits ≡ span leaf.bits = ap (λ (f : Fragment). span f.bits) own in
      let some : length walk.rest ≡ suc (length n.1) = ap (length {A = Fragment}) n.2 in
      let longer : length (walk.done ++ leaf ∷ []) ≡ length walk.done + 1 = length-append walk.done (leaf ∷ []) in
      record {
        done = walk.done ++ leaf ∷ [];
        rest = n.1;
        all = walk.all ∙ ap (λ r. walk.done ++ r) (n.2 ∙ ap (λ f. f ∷ n.1) own) ∙ sym (append_assoc walk.done (leaf ∷ []) n.1);
        tiles = subst (λ h. Tiles h (2 ^ 24) n.1) (omega (arith, ends, start, spans)) n.5;
        filled = filled_more d walk.done leaf rank old now new walk.filled is;
        few = omega (arith, walk.few, some, less);
        enough = omega (arith, walk.enough, longer, less);
      }

  -- where the hashes end all leaves are done
  pub walk_ends : 2 ^ 24 ≤ hash → AreFilled old now d leaves rank × (before ≤ room + length leaves)
  walk_ends high =
      let none : walk.rest ≡ [] = no_rest walk.rest walk.tiles in
      let all : leaves ≡ walk.done = walk.all ∙ ap (λ r. walk.done ++ r) none ∙ append-nil walk.done in
      let many : length leaves ≡ length walk.done = ap (length {A = Fragment}) all in
      (subst (λ ls. AreFilled old now d ls rank) (sym all) walk.filled, omega (arith, walk.enough, many))
    where
      no_rest : (rest : List Fragment) → Tiles hash (2 ^ 24) rest → rest ≡ []
      no_rest [] tiles = refl
      no_rest (f ∷ more) tiles = absurd (omega (arith, tiles.0.in_range, tiles.1, high))
