-- What an edit of pairs in order does to the finite map that they show.
use Rattle.std.proofs.Common.{◌≡◌, ◌⊎◌, inl, ℕ, ◌-◌, ◌<◌, Bool, cond, not, T, List, [], ◌∷◌, length, take, drop, get_or, slice_get, set, insert, remove, Some, None, option_map, Ordering, Equal, sym, ap, ap₂, ◌∙◌, subst, arith}
use Rattle.std.proofs.lemmas.List.{nil_from_length, take_rest}
use Rattle.std.specs.Cmp.{IsTotalOrder, eq_by_cmp_equiv}
use Rattle.std.specs.Ordering.{eq_by_cmp}
use Rattle.std.specs.FinMap as map
use Rattle.std.specs.FinMap.{IsAntisymmetric, entries-from_sorted, get-from_sorted, same_entries_map, entries-insert, get-remove, get-retain_keys, same_map, len-entries, empty_of_len}
use Rattle.std.specs.FinMap.Entries.{find, put, where_key, is_sorted, is_sorted-put, is_sorted-where_key, find-where_key}
use Rattle.sorted_map.specs.SortedMap.{first_pair, last_pair}
use Rattle.sorted_map.specs.Places.{IsKeyAt, IsGap}
use Rattle.sorted_map.proofs.PlaceLaws.{find_at, find_gap, tied_at, first_at, put_at, put_gap, others_at, others_gap}
use Rattle.sorted_map.proofs.MapLaws.{swapped as turned}

-- a loan is named alike, and leaves alike at each value that is written
pub same_loan : {N D E : Type 0} (name : N) (f h : E → D) → ((w : E) → f w ≡ h w) → ◌≡◌ {A = (N × (E → D)) ⊎ D} (inl (name, f)) (inl (name, h))
same_loan name f h e i = inl (name, λ w. e w i)

first_of : {A : Type 0} (es : List A) (x : A) → 0 < length es → x ≡ get_or es 0 x → Some x ≡ slice_get es 0
first_of [] x some e = absurd (omega arith)
first_of (y ∷ es) x some e = ap Some e

module _ {K V : Type 0} (R : K → K → Ordering) (es : List (K × V)) (s : T (is_sorted R es)) where
  -- the map has as many keys as there are pairs
  pub len_shown : length es ≡ map.len (map.from_sorted {R = R} es)
  len_shown = sym (len-entries (map.from_sorted es) ∙ ap length (entries-from_sorted R es s))

  -- no pairs show the empty map, and no other pairs do
  pub empty_shown : length es ≡ 0 → map.from_sorted {R = R} es ≡ map.empty
  empty_shown none = empty_of_len (map.from_sorted es) (sym len_shown ∙ none)

  -- the first pair and the last
  pub first_shown : slice_get es 0 ≡ first_pair (map.from_sorted {R = R} es)
  first_shown = ap (λ t. slice_get t 0) (sym (entries-from_sorted R es s))

  pub last_shown : slice_get es (length es - 1) ≡ last_pair (map.from_sorted {R = R} es)
  last_shown = ap₂ (λ t n. slice_get t (n - 1)) (sym (entries-from_sorted R es s)) len_shown

  pub none_first : length es ≡ 0 → None ≡ first_pair (map.from_sorted {R = R} es)
  none_first none = ap (λ t. slice_get t 0) (sym (nil_from_length es none)) ∙ first_shown

  pub none_last : length es ≡ 0 → None ≡ last_pair (map.from_sorted {R = R} es)
  none_last none = ap (λ t. slice_get t (length t - 1)) (sym (nil_from_length es none)) ∙ last_shown

  pub none_rest : length es ≡ 0 → map.entries (map.from_sorted {R = R} es) ≡ drop 1 (map.entries (map.from_sorted {R = R} es))
  none_rest none = let e = entries-from_sorted R es s ∙ nil_from_length es none in e ∙ sym (ap (drop 1) e)

  pub some_first : (x : K × V) → 0 < length es → x ≡ get_or es 0 x → Some x ≡ first_pair (map.from_sorted {R = R} es)
  some_first x some e = first_of es x some e ∙ first_shown

  pub some_rest : (fs : List (K × V)) → T (is_sorted R fs) → fs ≡ remove es 0 → map.entries (map.from_sorted {R = R} fs) ≡ drop 1 (map.entries (map.from_sorted {R = R} es))
  some_rest fs sorted e = entries-from_sorted R fs sorted ∙ e ∙ ap (drop 1) (sym (entries-from_sorted R es s))

  -- a part of the pairs that is all of them from a place on, as a slice from there gives it
  pub rest_shown : (part : List (K × V) → List (K × V)) (i : ℕ) (fs : List (K × V)) → fs ≡ es → part fs ≡ drop i fs → take (length fs - i) (drop i fs) ≡ part (map.entries (map.from_sorted {R = R} es))
  rest_shown part i fs same e = take_rest fs i ∙ sym e ∙ ap part (same ∙ sym (entries-from_sorted R es s))

  -- what is found at the place of a key, and at its gap
  pub value_at : (k : K) (i : ℕ) (d : K × V) → IsKeyAt R k es i → Some (get_or es i d).1 ≡ map.get (map.from_sorted {R = R} es) k
  value_at k i d h = sym (find_at R k es i d h) ∙ sym (get-from_sorted R es k s)

  pub got_at : (k : K) (i : ℕ) (x : K × V) → IsKeyAt R k es i → x ≡ get_or es i x → Some x.1 ≡ map.get (map.from_sorted {R = R} es) k
  got_at k i x h e = ap (λ y. Some y.1) e ∙ value_at k i x h

  pub got_gap : (k : K) (i : ℕ) → IsGap R k es i → None ≡ map.get (map.from_sorted {R = R} es) k
  got_gap k i h = sym (find_gap R k es i h) ∙ sym (get-from_sorted R es k s)

module _ {K V : Type 0} {R : K → K → Ordering} (o : IsTotalOrder R) where
  -- to put a pair is to insert it
  pub inserted : (k : K) (v : V) (es fs : List (K × V)) → T (is_sorted R es) → fs ≡ put R k v es → T (is_sorted R fs) × (map.from_sorted {R = R} fs ≡ map.insert (map.from_sorted es) k v)
  inserted k v es fs s e =
      let sorted : T (is_sorted R fs) = subst (λ t. T (is_sorted R t)) (sym e) (is_sorted-put R o k v es s) in
      (sorted, same_entries_map _ _ (entries-from_sorted R fs sorted ∙ e ∙ ap (put R k v) (sym (entries-from_sorted R es s)) ∙ sym (entries-insert o (map.from_sorted es) k v)))

  pub put_in_place : (k : K) (v : V) (es fs : List (K × V)) (i : ℕ) → T (is_sorted R es) → IsKeyAt R k es i → ((d : K × V) → fs ≡ set es i ((get_or es i d).0, v)) → T (is_sorted R fs) × (map.from_sorted {R = R} fs ≡ map.insert (map.from_sorted es) k v)
  put_in_place k v es fs i s h e = inserted k v es fs s (e (k, v) ∙ sym (put_at R k v es i (k, v) h))

  -- a value that is written at the place of a key
  pub written_at : (k : K) (w : V) (es : List (K × V)) (i : ℕ) (x : K × V) → T (is_sorted R es) → IsKeyAt R k es i → x ≡ get_or es i x → T (is_sorted R (set es i (x.0, w))) × (set es i (x.0, w) ≡ map.entries (map.insert (map.from_sorted {R = R} es) k w))
  written_at k w es i x s h e =
      let new = inserted k w es (set es i (x.0, w)) s (ap (λ y. set es i (y.0, w)) e ∙ sym (put_at R k w es i x h)) in
      (new.0, sym (entries-from_sorted R _ new.0) ∙ ap map.entries new.1)

  pub put_in_gap : (k : K) (v : V) (es fs : List (K × V)) (i : ℕ) → T (is_sorted R es) → IsGap R k es i → fs ≡ insert es i (k, v) → T (is_sorted R fs) × (map.from_sorted {R = R} fs ≡ map.insert (map.from_sorted es) k v)
  put_in_gap k v es fs i s h e = inserted k v es fs s (e ∙ sym (put_gap R k v es i h))

  module _ (exact : IsAntisymmetric R) where
    -- to leave the pairs of one key out is to remove it
    pub removed : (k : K) (es fs : List (K × V)) → T (is_sorted R es) → fs ≡ where_key R (λ x. not (eq_by_cmp R k x)) es → T (is_sorted R fs) × (map.from_sorted {R = R} fs ≡ map.remove (map.from_sorted es) k)
    removed k es fs s e =
        let sorted : T (is_sorted R fs) = subst (λ t. T (is_sorted R t)) (sym e) (is_sorted-where_key R _ es s) in (
          sorted,
          same_map o exact _ _ (λ q. get-from_sorted R fs q sorted ∙ ap (find R q) e
              ∙ find-where_key R (λ x. not (eq_by_cmp R k x)) q (λ x t. ap (λ r. not (eq_by_cmp R k r)) (sym (exact q x t))) es
              ∙ turned (eq_by_cmp R k q) _ _
              ∙ ap (λ b. cond b None (find R q es)) ((eq_by_cmp_equiv o).symm k q)
              ∙ ap (cond (eq_by_cmp R q k) None) (sym (get-from_sorted R es q s))
              ∙ sym (get-remove o (map.from_sorted es) k q)),
        )

    pub taken_at : (k : K) (es fs : List (K × V)) (i : ℕ) → T (is_sorted R es) → IsKeyAt R k es i → fs ≡ remove es i → T (is_sorted R fs) × (map.from_sorted {R = R} fs ≡ map.remove (map.from_sorted es) k)
    taken_at k es fs i s h e = removed k es fs s (e ∙ sym (others_at R k es i h))

    pub first_taken : (es fs : List (K × V)) (x : K × V) → T (is_sorted R es) → 0 < length es → x ≡ get_or es 0 x → fs ≡ remove es 0 → T (is_sorted R fs) × (map.from_sorted {R = R} fs ≡ map.remove (map.from_sorted es) x.0)
    first_taken es fs x s some e f = taken_at x.0 es fs 0 s (first_at o es x s some e) f

    pub taken_gap : (k : K) (es : List (K × V)) (i : ℕ) → T (is_sorted R es) → IsGap R k es i → map.from_sorted {R = R} es ≡ map.remove (map.from_sorted es) k
    taken_gap k es i s h = (removed k es es s (sym (others_gap R k es i h))).1

    -- the pair that is taken is the key with its value
    pub pair_taken : (k : K) (es : List (K × V)) (i : ℕ) (x : K × V) → T (is_sorted R es) → IsKeyAt R k es i → x ≡ get_or es i x → Some x ≡ option_map (λ v. (k, v)) (map.get (map.from_sorted {R = R} es) k)
    pair_taken k es i x s h e =
        ap (λ y. Some (y, x.1)) (sym (exact k x.0 (subst (λ y. R k y.0 ≡ Equal) (sym e) (tied_at R k es i x h))))
        ∙ ap (option_map (λ v. (k, v))) (got_at R es s k i x h e)

    -- to keep the pairs whose keys are no less than one is to retain those keys
    pub retained : (p : K → Bool) (es fs : List (K × V)) → T (is_sorted R es) → fs ≡ where_key R p es → T (is_sorted R fs) × (map.from_sorted {R = R} fs ≡ map.retain_keys (map.from_sorted es) p)
    retained p es fs s e =
        let sorted : T (is_sorted R fs) = subst (λ t. T (is_sorted R t)) (sym e) (is_sorted-where_key R _ es s) in
        let alike : (q x : K) → R q x ≡ Equal → p x ≡ p q = λ q x t. ap p (sym (exact q x t)) in (
          sorted,
          same_map o exact _ _ (λ q. get-from_sorted R fs q sorted ∙ ap (find R q) e
              ∙ find-where_key R p q (alike q) es
              ∙ ap (λ m. cond (p q) m None) (sym (get-from_sorted R es q s))
              ∙ sym (get-retain_keys (map.from_sorted es) p q (alike q))),
        )
