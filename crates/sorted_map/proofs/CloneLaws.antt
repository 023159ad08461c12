-- What copies of pairs in order are.
use Rattle.sorted_map.proofs.Common.{AllFew, AllSome, AllZip, Bool, ClonePair, IsClone, AreLengths, IsTotalOrder, List, Ordering, Shown, T, [], ap, arith, false, flat, is_lt, length, over, refl, subst, suc, sym, total, true, ℕ, ◌++◌, ◌∷◌, ◌≡◌}
use Rattle.std.specs.FinMap.Entries.{is_sorted}
use Rattle.sorted_map.proofs.Bools.{left_of, right_of, both_of, true_of, false_of}
use Rattle.sorted_map.proofs.PlaceLaws.{less, below_less}

module _ {K V : Type 0} (C : K → K → Type 0) (D : V → V → Type 0) where
  same_pairs : (xs ys : List (K × V)) → AllZip (ClonePair C D) xs ys → ((x y : K) → C x y → y ≡ x) → ((x y : V) → D x y → y ≡ x) → ys ≡ xs
  same_pairs [] [] all c d = refl
  same_pairs [] (y ∷ ys) all c d = absurd all
  same_pairs (x ∷ xs) [] all c d = absurd all
  same_pairs (x ∷ xs) (y ∷ ys) all c d = let rest = same_pairs xs ys all.1 c d in (λ i. (c x.0 y.0 all.0.0 i, d x.1 y.1 all.0.1 i) ∷ rest i)

  pub is_clone_of : (old new : Shown K V) → AllZip (ClonePair C D) old.entries new.entries → IsClone C D old new
  is_clone_of old new all = record { pairs = all; exact = same_pairs old.entries new.entries all }

module _ {A B : Type 0} (P : A → B → Type 0) where
  pub zip_length : (xs : List A) (ys : List B) → AllZip P xs ys → length ys ≡ length xs
  zip_length [] [] all = refl
  zip_length [] (y ∷ ys) all = absurd all
  zip_length (x ∷ xs) [] all = absurd all
  zip_length (x ∷ xs) (y ∷ ys) all = ap suc (zip_length xs ys all.1)

  zip_append : (xs us : List A) (ys vs : List B) → AllZip P xs ys → AllZip P us vs → AllZip P (xs ++ us) (ys ++ vs)
  zip_append [] us [] vs all more = more
  zip_append [] us (y ∷ ys) vs all more = absurd all
  zip_append (x ∷ xs) us [] vs all more = absurd all
  zip_append (x ∷ xs) us (y ∷ ys) vs all more = (all.0, zip_append xs us ys vs all.1 more)

  -- ---- chunks whose items are copied one by one

  pub zip_flat : (cs : List (List A)) (ds : List (List B)) → AllZip (AllZip P) cs ds → AllZip P (flat cs) (flat ds)
  zip_flat [] [] all = tt
  zip_flat [] (d ∷ ds) all = absurd all
  zip_flat (c ∷ cs) [] all = absurd all
  zip_flat (c ∷ cs) (d ∷ ds) all = zip_append c (flat cs) d (flat ds) all.0 (zip_flat cs ds all.1)

  pub zip_some : (cs : List (List A)) (ds : List (List B)) → AllZip (AllZip P) cs ds → AllSome cs → AllSome ds
  zip_some [] [] all some = tt
  zip_some [] (d ∷ ds) all some = absurd all
  zip_some (c ∷ cs) [] all some = tt
  zip_some (c ∷ cs) (d ∷ ds) all some = (omega (arith, zip_length c d all.0, some.0), zip_some cs ds all.1 some.1)

  zip_few : (cs : List (List A)) (ds : List (List B)) → AllZip (AllZip P) cs ds → AllFew cs → AllFew ds
  zip_few [] [] all few = tt
  zip_few [] (d ∷ ds) all few = absurd all
  zip_few (c ∷ cs) [] all few = tt
  zip_few (c ∷ cs) (d ∷ ds) all few = (omega (arith, zip_length c d all.0, few.0), zip_few cs ds all.1 few.1)

  zip_total : (cs : List (List A)) (ds : List (List B)) → AllZip (AllZip P) cs ds → total length ds ≡ total length cs
  zip_total [] [] all = refl
  zip_total [] (d ∷ ds) all = absurd all
  zip_total (c ∷ cs) [] all = absurd all
  zip_total (c ∷ cs) (d ∷ ds) all = omega (arith, zip_length c d all.0, zip_total cs ds all.1)

  zip_over : (cs : List (List A)) (ds : List (List B)) → AllZip (AllZip P) cs ds → over ds ≡ over cs
  zip_over [] [] all = refl
  zip_over [] (d ∷ ds) all = absurd all
  zip_over (c ∷ cs) [] all = absurd all
  zip_over (c ∷ cs) (d ∷ ds) all = omega (arith, zip_length c d all.0, zip_over cs ds all.1)

  pub zip_counted : {len extra : ℕ} (cs : List (List A)) (ds : List (List B)) → AllZip (AllZip P) cs ds → AreLengths cs len extra → AreLengths ds len extra
  zip_counted cs ds all counted = record {
    whole = omega (arith, counted.whole, zip_total cs ds all);
    beyond = omega (arith, counted.beyond, zip_over cs ds all);
    few = zip_few cs ds all counted.few;
  }

-- ---- whether neighbours rise

module _ {K V : Type 0} {R : K → K → Ordering} (o : IsTotalOrder R) where
  -- a key that is less than the first of the others is less than all where these rise
  pub rises_on : (x y : K × V) (es : List (K × V)) → is_lt (R x.0 y.0) ≡ true → is_sorted R (y ∷ es) ≡ is_sorted R (x ∷ y ∷ es)
  rises_on x y es lower = go (is_sorted R (y ∷ es)) refl
    where
      go : (b : Bool) → is_sorted R (y ∷ es) ≡ b → b ≡ is_sorted R (x ∷ y ∷ es)
      go true is =
          let rest : T (is_sorted R (y ∷ es)) = subst T (sym is) tt in
          let first : T (is_lt (R x.0 y.0)) = subst T (sym lower) tt in
          sym (true_of _ (both_of _ _ (both_of _ _ first (below_less o x.0 y.0 es (less _ first) (left_of _ _ rest))) rest))
      go false is = sym (false_of _ (λ all. subst T is (right_of _ _ all)))
