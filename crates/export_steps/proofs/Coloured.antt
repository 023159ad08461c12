-- One root among all: with the rank 1 for it and 0 for all others, its region is where the authority is 1. So what is known of authorities is known of regions.
use Rattle.export_steps.proofs.Common.{Bool, Covers, HasAuthority, Homes, IsLive, IsSome, IsSubtrees, IsTable, KeepAuthority, Leaf, List, NearestRoot, None, Option, Rank, Roots, Some, [], ap, arith, cond, eq_by_cmp, false, find, get-entries, get-from_entries, inherited, inl, inr, is_ranked, is_some, itself, leaf-exact, leaf-total, leaf_cmp, not_none, one_authority, one_value, refl, same_or_apart, some_root, subst, sym, tie, tied_apart, tied_same, true, value_of, ℕ, ◌∙◌, ◌∷◌, ◌≡◌, ◌≢◌, ◌⊎◌}
use Rattle.std.specs.FinMap as map

pub colour : Leaf → Leaf → Rank
colour root leaf = record { 0 = cond (eq_by_cmp leaf_cmp leaf root) 1 0 }

recoloured : Leaf → List (Leaf × Rank) → List (Leaf × Rank)
recoloured root [] = []
recoloured root (e ∷ es) = (e.0, colour root e.0) ∷ recoloured root es

pub coloured : Leaf → Roots → Roots
coloured root m = map.from_entries (recoloured root (map.entries m))

painted : Leaf → Leaf → Option Rank → Option Rank
painted root q o = cond (is_some o) (Some (colour root q)) None

find_coloured : (root q : Leaf) (es : List (Leaf × Rank)) → find leaf_cmp q (recoloured root es) ≡ painted root q (find leaf_cmp q es)
unfolding recoloured painted
find_coloured root q [] = refl
find_coloured root q (e ∷ es) = go (eq_by_cmp leaf_cmp q e.0) refl (find_coloured root q es)
  where
    go : (b : Bool) → eq_by_cmp leaf_cmp q e.0 ≡ b → find leaf_cmp q (recoloured root es) ≡ painted root q (find leaf_cmp q es) → cond b (Some (colour root e.0)) (find leaf_cmp q (recoloured root es)) ≡ painted root q (cond b (Some e.1) (find leaf_cmp q es))
    go true tied rest = ap (λ k. Some (colour root k)) (sym (leaf-exact q e.0 (tie _ tied)))
    go false tied rest = rest

get_coloured : (root : Leaf) (m : Roots) (q : Leaf) → map.get (coloured root m) q ≡ painted root q (map.get m q)
unfolding coloured
get_coloured root m q = get-from_entries leaf-total (recoloured root (map.entries m)) q ∙ find_coloured root q (map.entries m) ∙ ap (painted root q) (sym (get-entries m q))

module _ (root : Leaf) where
  pub of_itself : colour root root ≡ record { 0 = 1 }
  unfolding colour
  of_itself = λ i. record { 0 = ap (λ b. cond b 1 0) (tied_same root root refl) i }

  pub of_other : (leaf : Leaf) → leaf ≢ root → colour root leaf ≡ record { 0 = 0 }
  unfolding colour
  of_other leaf apart = λ i. record { 0 = ap (λ b. cond b 1 0) (tied_apart leaf root apart) i }

  pub is_it : (leaf : Leaf) → colour root leaf ≡ colour root root → leaf ≡ root
  is_it leaf same = go (same_or_apart leaf root)
    where
      go : (leaf ≡ root) ⊎ (leaf ≢ root) → leaf ≡ root
      go (inl is) = is
      go (inr apart) = let clash : ◌≡◌ {A = ℕ} 0 1 = ap (λ (r : Rank). r.0) (sym (of_other leaf apart) ∙ same ∙ of_itself) in absurd (omega (arith, clash))

  module _ (m : Roots) where
    pub paint_some : (q : Leaf) → IsSome (map.get m q) → map.get (coloured root m) q ≡ Some (colour root q)
    unfolding painted
    paint_some q some = get_coloured root m q ∙ ap (λ b. cond b (Some (colour root q)) None) some

    pub paint_none : (q : Leaf) → map.get m q ≡ None → map.get (coloured root m) q ≡ None
    unfolding painted
    paint_none q none = get_coloured root m q ∙ ap (painted root q) none

    pub painted_some : (q : Leaf) → IsSome (map.get (coloured root m) q) → IsSome (map.get m q)
    painted_some q some = go (map.get m q) refl
      where
        go : (o : Option Rank) → map.get m q ≡ o → IsSome o
        go (Some r) is = refl
        go None is = let there = value_of _ some in absurd (not_none _ there.0 (paint_none q is) there.1)

    pub painted_none : (q : Leaf) → map.get (coloured root m) q ≡ None → map.get m q ≡ None
    painted_none q none = go (map.get m q) refl
      where
        go : (o : Option Rank) → map.get m q ≡ o → o ≡ None
        go None is = refl
        go (Some r) is = absurd (not_none _ (colour root q) none (paint_some q (ap is_some is)))

  pub paint_same : (a b : Roots) (q : Leaf) → map.get a q ≡ map.get b q → map.get (coloured root a) q ≡ map.get (coloured root b) q
  paint_same a b q same = get_coloured root a q ∙ ap (painted root q) same ∙ sym (get_coloured root b q)

  module _ (m : Roots) (homes : Homes) (covers : Covers) where
    pub near_to : (leaf near : Leaf) → NearestRoot m homes covers leaf near → NearestRoot (coloured root m) homes covers leaf near
    near_to _ _ (itself near rank has) = itself near (colour root near) (paint_some m near (ap is_some has))
    near_to _ _ (inherited leaf holder near home none stands holds rest) = inherited leaf holder near home (paint_none m leaf none) stands holds (near_to holder near rest)

    pub near_from : (leaf near : Leaf) → NearestRoot (coloured root m) homes covers leaf near → NearestRoot m homes covers leaf near
    near_from _ _ (itself near rank has) = let there = value_of _ (painted_some m near (ap is_some has)) in itself near there.0 there.1
    near_from _ _ (inherited leaf holder near home none stands holds rest) = inherited leaf holder near home (painted_none m leaf none) stands holds (near_from holder near rest)

    pub valid_to : IsSubtrees m homes covers → IsSubtrees (coloured root m) homes covers
    valid_to valid = record {
      top = λ f has. ap is_some (paint_some m _ (valid.top f has));
      live = λ leaf some. valid.live leaf (painted_some m leaf some);
    }

    -- the authority is the colour of the nearest root
    pub authority_of : (leaf near : Leaf) → NearestRoot m homes covers leaf near → HasAuthority (coloured root m) homes covers leaf (colour root near)
    authority_of leaf near is = record { root = near; nearest = near_to leaf near is; ranked = paint_some m near (ap is_some (is_ranked m homes covers leaf near is).1) }

    pub nearest_of : (leaf : Leaf) (rank : Rank) → HasAuthority (coloured root m) homes covers leaf rank → (near : Leaf) × NearestRoot m homes covers leaf near × (rank ≡ colour root near)
    nearest_of leaf rank has =
        let near = near_from leaf has.root has.nearest in
        (has.root, near, one_value _ rank (colour root has.root) has.ranked (paint_some m has.root (ap is_some (is_ranked m homes covers leaf has.root near).1)))

    pub in_region : (leaf : Leaf) → HasAuthority (coloured root m) homes covers leaf (colour root root) → NearestRoot m homes covers leaf root
    in_region leaf has = let near = nearest_of leaf (colour root root) has in subst (NearestRoot m homes covers leaf) (is_it near.0 (sym near.2)) near.1

-- where the authorities of the colours are kept, the region is
module _ (root : Leaf) (old new : Roots) (homes now : Homes) (covers later : Covers) (Becomes : Leaf → Leaf → Type 0) (keep : KeepAuthority (coloured root old) (coloured root new) homes now covers later Becomes) where
  pub goes_on : (leaf after : Leaf) → IsLive homes covers leaf → Becomes leaf after → NearestRoot old homes covers leaf root → NearestRoot new now later after root
  goes_on leaf after is becomes near = in_region root new now later after (keep leaf after (colour root root) is becomes (authority_of root old homes covers leaf root near))

  pub came : (leaf after : Leaf) → IsTable homes covers → IsSubtrees old homes covers → IsLive homes covers leaf → Becomes leaf after → NearestRoot new now later after root → NearestRoot old homes covers leaf root
  came leaf after table valid is becomes near =
      let was = some_root old homes covers table valid leaf is in
      let kept = keep leaf after (colour root was.0) is becomes (authority_of root old homes covers leaf was.0 was.1) in
      let same = one_authority (coloured root new) now later after (colour root was.0) (colour root root) kept (authority_of root new now later after root near) in
      subst (NearestRoot old homes covers leaf) (is_it root was.0 same) was.1
