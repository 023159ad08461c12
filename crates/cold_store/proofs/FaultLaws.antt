-- Where a directory is bad there is a faulty object.
use Rattle.cold_store.proofs.Common.{Fragment, HasLeaf, Ino, IsBadAmong, IsBadIn, IsBadLeaf, IsBadTree, IsColdLeaf, IsFaulty, IsIn, IsReached, IsRecord, IsSamePlace, Leaf, List, None, ObjName, Objects, Omap, Option, Record, Some, Tiles, [], ap, arith, cover_in, entries_sorted, first, inl, inr, is_met, later, stored_leaves, names_at, stored_names, object_of, or_whole, refl, records_at, span, root_alone, subst, sym, tree_object_of, true, with_rows, ℕ, ◌++◌, ◌+◌, ◌^◌, ◌∙◌, ◌∷◌, ◌≡◌, ◌⊎◌}
use Rattle.mds_types.specs.declared.object_names.ObjName.TheVariants.{Frag as FragOf, Tree as TreeOf}
use Rattle.cold_store.proofs.Members.{in_either, in_left, in_right}
use Rattle.cold_store.proofs.ObjectLaws.{good_leaves, good_says, said_tree}
use Rattle.cold_store.proofs.RowLaws.{IsOld, IsRowOf, first_old, met_among, met_at_start, with_rows-append}
use Rattle.cold_store.proofs.StoreRows.{allowed, at_leaf, cold_leaf_of, leaf_apart, names_apart, of_leaf}

module _ (objects : Objects) (d : Ino) (above : IsReached objects d.0) where
  -- records from before: of reached directories, and none of these leaves
  abbrev AreBefore : List Record → List Fragment → Type 0
  AreBefore rows fs = (q : Record) → IsIn q rows → IsReached objects q.leaf.0.0 × IsRecord objects q × (q.leaf.0 ≡ d → HasLeaf fs q.leaf.1 → ⊥)

  module _ (f : Fragment) (cold : IsColdLeaf objects (d, f)) where
    reached_at : (r : Record) → IsIn r (records_at objects (d, f)) → IsReached objects r.leaf.0.0
    reached_at r h = subst (λ (l : Leaf). IsReached objects l.0.0) (sym (at_leaf objects (d, f) r h).at) above

    pair : (r q : Record) → IsIn r (records_at objects (d, f)) → IsReached objects q.leaf.0.0 → IsRecord objects q → q.inode.ino.0 ≡ r.inode.ino.0 → (IsSamePlace r q → ⊥) → IsFaulty objects (FragOf d f)
    pair r q h qa qr same apart =
        subst (λ (l : Leaf). IsFaulty objects (FragOf l.0 l.1)) (at_leaf objects (d, f) r h).at
        (IsFaulty.repeated r q (reached_at r h) (of_leaf objects (d, f) r cold h) qa qr (λ i. record { 0 = sym same i }) apart)

    twice_there : (rows : List Record) (fs : List Fragment) → AreBefore rows (f ∷ fs) → IsOld (with_rows root_alone rows) (records_at objects (d, f)) → IsFaulty objects (FragOf d f)
    twice_there rows fs before w =
        go (met_among root_alone (rows ++ w.before) w.old.inode.ino.0 (subst (λ s. is_met s w.old.inode.ino.0 ≡ true) (sym (with_rows-append root_alone rows w.before)) w.met))
      where
        here : IsIn w.old (records_at objects (d, f))
        here = subst (λ rs. IsIn w.old rs) (sym w.split) (in_right w.old w.before (w.old ∷ w.behind) (inl refl))

        earlier : (q : Record) → IsIn q w.before → IsIn q (records_at objects (d, f))
        earlier q h = subst (λ rs. IsIn q rs) (sym w.split) (in_left q w.before (w.old ∷ w.behind) h)

        among : (q : Record) → IsIn q rows ⊎ IsIn q w.before → q.inode.ino.0 ≡ w.old.inode.ino.0 → IsFaulty objects (FragOf d f)
        among q (inl h) same =
            let b = before q h in
            let at = (at_leaf objects (d, f) w.old here).at in
            pair w.old q here b.0 b.1 same (λ place. let there : q.leaf ≡ (d, f) = sym place.0 ∙ at in b.2 (ap (λ (l : Leaf). l.0) there) (subst (HasLeaf (f ∷ fs)) (sym (ap (λ (l : Leaf). l.1) there)) (first f fs)))
        among q (inr h) same =
            pair w.old q here (reached_at q (earlier q h)) (of_leaf objects (d, f) q cold (earlier q h)) same
            (λ place. names_apart (d, f) (stored_names objects (d, f)) w.before w.old w.behind q (entries_sorted (names_at (object_of objects d f))) w.split h (sym place.1))

        root : w.old.inode.ino.0 ≡ 1 → ⊥
        root one = let a = (allowed objects w.old (of_leaf objects (d, f) w.old cold here)).number.least in omega (arith, a, one)

        go : (is_met root_alone w.old.inode.ino.0 ≡ true) ⊎ IsRowOf (rows ++ w.before) w.old.inode.ino.0 → IsFaulty objects (FragOf d f)
        go (inl met) = absurd (root (met_at_start w.old.inode.ino.0 met))
        go (inr q) = among q.row (in_either q.row rows w.before q.among) q.is

    leaf_faulty : (rows : List Record) (fs : List Fragment) → AreBefore rows (f ∷ fs) → IsBadLeaf objects (with_rows root_alone rows) (d, f) → IsFaulty objects (FragOf d f)
    leaf_faulty rows fs before (inl off) = IsFaulty.bad_leaf (d, f) above cold off
    leaf_faulty rows fs before (inr old) = twice_there rows fs before (first_old (with_rows root_alone rows) (records_at objects (d, f)) old)

  among_faulty : (low high : ℕ) (rows : List Record) (fs : List Fragment) (name : ObjName) → AreBefore rows fs → Tiles low high fs → ((f : Fragment) → HasLeaf fs f → IsColdLeaf objects (d, f)) → IsBadAmong objects (with_rows root_alone rows) d fs name
      → IsFaulty objects name
  among_faulty low high rows [] name before tiles of bad = absurd bad
  among_faulty low high rows (f ∷ fs) name before tiles of (inl (is, bad)) = subst (λ n. IsFaulty objects n) (sym is) (leaf_faulty f (of f (first f fs)) rows fs before bad)
  among_faulty low high rows (f ∷ fs) name before tiles of (inr bad) =
      among_faulty (low + span f.bits) high (rows ++ records_at objects (d, f)) fs name next tiles.2 (λ g has. of g (later f g fs has)) (subst (λ s. IsBadAmong objects s d fs name) (sym (with_rows-append root_alone rows (records_at objects (d, f)))) bad)
    where
      next : AreBefore (rows ++ records_at objects (d, f)) fs
      next q h = pick (in_either q rows (records_at objects (d, f)) h)
        where
          pick : IsIn q rows ⊎ IsIn q (records_at objects (d, f)) → IsReached objects q.leaf.0.0 × IsRecord objects q × (q.leaf.0 ≡ d → HasLeaf fs q.leaf.1 → ⊥)
          pick (inl k) = let b = before q k in (b.0, b.1, λ dir has. b.2 dir (later f q.leaf.1 fs has))
          pick (inr k) =
              let cold = of f (first f fs) in
              let at = (at_leaf objects (d, f) q k).at in
              (reached_at f cold q k, of_leaf objects (d, f) q cold k, λ dir has. leaf_apart low high f fs tiles (subst (HasLeaf fs) (ap (λ (l : Leaf). l.1) at) has))

  -- a directory of which none of the records from before is
  pub dir_faulty : (rows : List Record) (name : ObjName) → ((q : Record) → IsIn q rows → IsReached objects q.leaf.0.0 × IsRecord objects q × (q.leaf.0 ≡ d → ⊥)) → IsBadIn objects (with_rows root_alone rows) d name → IsFaulty objects name
  dir_faulty rows name before (inl (is, bad)) = subst (λ n. IsFaulty objects n) (sym is) (go (tree_object_of objects d) refl bad)
    where
      go : (o : Option Omap) → tree_object_of objects d ≡ o → IsBadTree o → IsFaulty objects (TreeOf d)
      go None there bad = absurd bad
      go (Some object) there bad = IsFaulty.bad_tree d object above there bad
  dir_faulty rows name before (inr (good, bad)) =
      among_faulty 0 (2 ^ 24) rows (stored_leaves objects d) name (λ q h. let b = before q h in (b.0, b.1, λ dir has. b.2 dir))
      (subst (Tiles 0 (2 ^ 24)) (good_leaves (tree_object_of objects d) (cover_in objects d) good) (said_tree (tree_object_of objects d) (or_whole (cover_in objects d)) (good_says (tree_object_of objects d) (cover_in objects d) good)).tiles)
      (λ f has. cold_leaf_of objects (d, f) has) bad
