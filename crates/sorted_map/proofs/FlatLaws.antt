-- What an edit in one chunk is among all the items.
use Rattle.sorted_map.proofs.Common.{AllSome, List, [], ap, append-nil, append_assoc, arith, drop, false≢true, flat, get_or, insert, length, length-append, refl, remove, set, slice_get, items_before, subst, suc, sym, with_value, zero, ℕ, ◌++◌, ◌+◌, ◌-◌, ◌<◌, ◌==◌, ◌∙◌, ◌∷◌, ◌≡◌, ◌≤◌}
use Rattle.std.specs.Prelude.{false}
use Rattle.sorted_map.proofs.ChunkLaws.{got, got_default}

module _ {A : Type 0} where
  -- ---- an edit at a place, as one among all

  module _ (f : List A → ℕ → List A) (step : (e : A) (es : List A) (i : ℕ) → f (e ∷ es) (suc i) ≡ e ∷ f es i) (Fits : List A → ℕ → Type 0)
      (front : (c fs : List A) (at : ℕ) → Fits c at → f (c ++ fs) at ≡ f c at ++ fs) where
    behind : (c fs : List A) (i n : ℕ) → n ≡ length c + i → f (c ++ fs) n ≡ c ++ f fs i
    behind [] fs i n is = ap (f fs) (omega (arith, is))
    behind (e ∷ c) fs i zero is = absurd (omega (arith, is))
    behind (e ∷ c) fs i (suc n) is = step e (c ++ fs) n ∙ ap (λ t. e ∷ t) (behind c fs i n (omega (arith, is)))

    edited : (cs : List (List A)) (i at : ℕ) → i < length cs → Fits (get_or cs i []) at → flat (set cs i (f (get_or cs i []) at)) ≡ f (flat cs) (items_before cs i + at)
    edited [] i at lt fits = absurd (omega (arith, lt))
    edited (c ∷ cs) zero at lt fits = sym (front c (flat cs) at fits) ∙ ap (f (c ++ flat cs)) (omega arith)
    edited (c ∷ cs) (suc i) at lt fits = ap (λ t. c ++ t) (edited cs i at (omega (arith, lt)) fits) ∙ sym (behind c (flat cs) (items_before cs i + at) (items_before (c ∷ cs) (suc i) + at) (omega arith))

  set_front : (x : A) (c fs : List A) (at : ℕ) → at < length c → set (c ++ fs) at x ≡ set c at x ++ fs
  set_front x [] fs at lt = absurd (omega (arith, lt))
  set_front x (e ∷ c) fs zero lt = refl
  set_front x (e ∷ c) fs (suc at) lt = ap (λ t. e ∷ t) (set_front x c fs at (omega (arith, lt)))

  insert_front : (x : A) (c fs : List A) (at : ℕ) → at ≤ length c → insert (c ++ fs) at x ≡ insert c at x ++ fs
  insert_front x [] fs zero le = refl
  insert_front x [] fs (suc at) le = absurd (omega (arith, le))
  insert_front x (e ∷ c) fs zero le = refl
  insert_front x (e ∷ c) fs (suc at) le = ap (λ t. e ∷ t) (insert_front x c fs at (omega (arith, le)))

  remove_front : (c fs : List A) (at : ℕ) → at < length c → remove (c ++ fs) at ≡ remove c at ++ fs
  remove_front [] fs at lt = absurd (omega (arith, lt))
  remove_front (e ∷ c) fs zero lt = refl
  remove_front (e ∷ c) fs (suc at) lt = ap (λ t. e ∷ t) (remove_front c fs at (omega (arith, lt)))

  pub flat_set : (cs : List (List A)) (i at : ℕ) (x : A) → i < length cs → at < length (get_or cs i []) → flat (set cs i (set (get_or cs i []) at x)) ≡ set (flat cs) (items_before cs i + at) x
  flat_set cs i at x lt within = edited (λ es n. set es n x) (λ e es n. refl) (λ c n. n < length c) (set_front x) cs i at lt within

  pub flat_insert : (cs : List (List A)) (i at : ℕ) (x : A) → i < length cs → at ≤ length (get_or cs i []) → flat (set cs i (insert (get_or cs i []) at x)) ≡ insert (flat cs) (items_before cs i + at) x
  flat_insert cs i at x lt within = edited (λ es n. insert es n x) (λ e es n. refl) (λ c n. n ≤ length c) (insert_front x) cs i at lt within

  pub flat_remove : (cs : List (List A)) (i at : ℕ) → i < length cs → at < length (get_or cs i []) → flat (set cs i (remove (get_or cs i []) at)) ≡ remove (flat cs) (items_before cs i + at)
  flat_remove cs i at lt within = edited remove (λ e es n. refl) (λ c n. n < length c) remove_front cs i at lt within

  get_front : (c fs : List A) (at : ℕ) (d : A) → at < length c → get_or (c ++ fs) at d ≡ get_or c at d
  get_front [] fs at d lt = absurd (omega (arith, lt))
  get_front (e ∷ c) fs zero d lt = refl
  get_front (e ∷ c) fs (suc at) d lt = get_front c fs at d (omega (arith, lt))

  get_behind : (c fs : List A) (i n : ℕ) (d : A) → n ≡ length c + i → get_or (c ++ fs) n d ≡ get_or fs i d
  get_behind [] fs i n d is = ap (λ m. get_or fs m d) (omega (arith, is))
  get_behind (e ∷ c) fs i zero d is = absurd (omega (arith, is))
  get_behind (e ∷ c) fs i (suc n) d is = get_behind c fs i n d (omega (arith, is))

  pub flat_get : (cs : List (List A)) (i at : ℕ) (d : A) → at < length (get_or cs i []) → get_or (flat cs) (items_before cs i + at) d ≡ get_or (get_or cs i []) at d
  flat_get [] i at d lt = absurd (omega (arith, lt))
  flat_get (c ∷ cs) zero at d lt = ap (λ n. get_or (c ++ flat cs) n d) {y = at} (omega arith) ∙ get_front c (flat cs) at d lt
  flat_get (c ∷ cs) (suc i) at d lt = get_behind c (flat cs) (items_before cs i + at) (items_before (c ∷ cs) (suc i) + at) d (omega arith) ∙ flat_get cs i at d lt

  drop_front : (c fs : List A) (at : ℕ) → at ≤ length c → drop at (c ++ fs) ≡ drop at c ++ fs
  drop_front [] fs zero le = refl
  drop_front [] fs (suc at) le = absurd (omega (arith, le))
  drop_front (e ∷ c) fs zero le = refl
  drop_front (e ∷ c) fs (suc at) le = drop_front c fs at (omega (arith, le))

  drop_behind : (c fs : List A) (i n : ℕ) → n ≡ length c + i → drop n (c ++ fs) ≡ drop i fs
  drop_behind [] fs i n is = ap (λ m. drop m fs) (omega (arith, is))
  drop_behind (e ∷ c) fs i zero is = absurd (omega (arith, is))
  drop_behind (e ∷ c) fs i (suc n) is = drop_behind c fs i n (omega (arith, is))

  -- the items from a place on: those of its chunk, and the chunks behind it
  pub flat_drop : (cs : List (List A)) (i at : ℕ) → i < length cs → at ≤ length (get_or cs i []) → drop (items_before cs i + at) (flat cs) ≡ drop at (get_or cs i []) ++ flat (drop (i + 1) cs)
  flat_drop [] i at lt le = absurd (omega (arith, lt))
  flat_drop (c ∷ cs) zero at lt le = ap (λ n. drop n (c ++ flat cs)) {y = at} (omega arith) ∙ drop_front c (flat cs) at le
  flat_drop (c ∷ cs) (suc i) at lt le =
      drop_behind c (flat cs) (items_before cs i + at) (items_before (c ∷ cs) (suc i) + at) (omega arith)
      ∙ flat_drop cs i at (omega (arith, lt)) le
      ∙ ap (λ n. drop at (get_or cs i []) ++ flat (drop n (c ∷ cs))) {x = suc (i + 1)} (omega arith)

  -- ---- chunks that come, go, part and join

  pub flat_without : (cs : List (List A)) (i : ℕ) → i < length cs → get_or cs i [] ≡ [] → flat (remove cs i) ≡ flat cs
  flat_without [] i lt none = absurd (omega (arith, lt))
  flat_without (c ∷ cs) zero lt none = ap (λ t. t ++ flat cs) (sym none)
  flat_without (c ∷ cs) (suc i) lt none = ap (λ t. c ++ t) (flat_without cs i (omega (arith, lt)) none)

  pub flat_split : (cs : List (List A)) (i : ℕ) (a b : List A) → i < length cs → a ++ b ≡ get_or cs i [] → flat (insert (set cs i a) (i + 1) b) ≡ flat cs
  flat_split [] i a b lt whole = absurd (omega (arith, lt))
  flat_split (c ∷ cs) zero a b lt whole = sym (append_assoc a b (flat cs)) ∙ ap (λ t. t ++ flat cs) whole
  flat_split (c ∷ cs) (suc i) a b lt whole =
      ap (λ n. flat (insert (c ∷ set cs i a) n b)) {y = suc (i + 1)} (omega arith) ∙ ap (λ t. c ++ t) (flat_split cs i a b (omega (arith, lt)) whole)

  pub start_split : (cs : List (List A)) (i : ℕ) (a b : List A) → i < length cs → items_before (insert (set cs i a) (i + 1) b) i ≡ items_before cs i
  start_split [] i a b lt = absurd (omega (arith, lt))
  start_split (c ∷ cs) zero a b lt = refl
  start_split (c ∷ cs) (suc i) a b lt = ap (λ n. items_before (insert (c ∷ set cs i a) n b) (suc i)) {y = suc (i + 1)} (omega arith) ∙ ap (λ n. length c + n) (start_split cs i a b (omega (arith, lt)))

  pub start_split_next : (cs : List (List A)) (i : ℕ) (a b : List A) → i < length cs → items_before (insert (set cs i a) (i + 1) b) (i + 1) ≡ items_before cs i + length a
  start_split_next [] i a b lt = absurd (omega (arith, lt))
  start_split_next (c ∷ cs) zero a b lt = omega arith
  start_split_next (c ∷ cs) (suc i) a b lt =
      ap (λ n. items_before (insert (c ∷ set cs i a) n b) n) {y = suc (i + 1)} (omega arith) ∙ ap (λ n. length c + n) (start_split_next cs i a b (omega (arith, lt))) ∙ omega arith

  pub get_split : (cs : List (List A)) (i : ℕ) (a b : List A) → i < length cs → get_or (insert (set cs i a) (i + 1) b) i [] ≡ a
  get_split [] i a b lt = absurd (omega (arith, lt))
  get_split (c ∷ cs) zero a b lt = refl
  get_split (c ∷ cs) (suc i) a b lt = ap (λ n. get_or (insert (c ∷ set cs i a) n b) (suc i) []) {y = suc (i + 1)} (omega arith) ∙ get_split cs i a b (omega (arith, lt))

  pub get_split_next : (cs : List (List A)) (i : ℕ) (a b : List A) → i < length cs → get_or (insert (set cs i a) (i + 1) b) (i + 1) [] ≡ b
  get_split_next [] i a b lt = absurd (omega (arith, lt))
  get_split_next (c ∷ cs) zero a b lt = refl
  get_split_next (c ∷ cs) (suc i) a b lt = ap (λ n. get_or (insert (c ∷ set cs i a) n b) n []) {y = suc (i + 1)} (omega arith) ∙ get_split_next cs i a b (omega (arith, lt))

  pub flat_joined : (cs : List (List A)) (i : ℕ) → i + 1 < length cs → flat (set (remove cs (i + 1)) i (get_or cs i [] ++ get_or cs (i + 1) [])) ≡ flat cs
  flat_joined [] i lt = absurd (omega (arith, lt))
  flat_joined (c ∷ []) zero lt = absurd (omega (arith, lt))
  flat_joined (c ∷ d ∷ cs) zero lt = append_assoc c d (flat cs)
  flat_joined (c ∷ cs) (suc i) lt =
      ap (λ n. flat (set (remove (c ∷ cs) n) (suc i) (get_or cs i [] ++ get_or (c ∷ cs) n []))) {y = suc (i + 1)} (omega arith) ∙ ap (λ t. c ++ t) (flat_joined cs i (omega (arith, lt)))

  -- ---- no chunk is empty

  pub some_set : (cs : List (List A)) (i : ℕ) (c : List A) → AllSome cs → 0 < length c → AllSome (set cs i c)
  some_set [] i c all some = tt
  some_set (x ∷ cs) zero c all some = (some, all.1)
  some_set (x ∷ cs) (suc i) c all some = (all.0, some_set cs i c all.1 some)

  pub some_insert : (cs : List (List A)) (i : ℕ) (c : List A) → AllSome cs → 0 < length c → AllSome (insert cs i c)
  some_insert [] zero c all some = (some, tt)
  some_insert [] (suc i) c all some = (some, tt)
  some_insert (x ∷ cs) zero c all some = (some, all)
  some_insert (x ∷ cs) (suc i) c all some = (all.0, some_insert cs i c all.1 some)

  pub some_remove : (cs : List (List A)) (i : ℕ) → AllSome cs → AllSome (remove cs i)
  some_remove [] zero all = tt
  some_remove [] (suc i) all = tt
  some_remove (x ∷ cs) zero all = all.1
  some_remove (x ∷ cs) (suc i) all = (all.0, some_remove cs i all.1)

  -- so each has some
  pub some_at : (cs : List (List A)) (i : ℕ) → i < length cs → AllSome cs → 0 < length (get_or cs i [])
  some_at [] i lt some = absurd (omega (arith, lt))
  some_at (c ∷ cs) zero lt some = some.0
  some_at (c ∷ cs) (suc i) lt some = some_at cs i (omega (arith, lt)) some.1

  -- the others have some, and this one has
  pub some_others : (cs : List (List A)) (i : ℕ) → AllSome (remove cs i) → 0 < length (get_or cs i []) → AllSome cs
  some_others [] i all some = tt
  some_others (x ∷ cs) zero all some = (some, all)
  some_others (x ∷ cs) (suc i) all some = (all.0, some_others cs i all.1 some)

  pub remove_set : (cs : List (List A)) (i : ℕ) (c : List A) → remove (set cs i c) i ≡ remove cs i
  remove_set [] i c = refl
  remove_set (x ∷ cs) zero c = refl
  remove_set (x ∷ cs) (suc i) c = ap (λ t. x ∷ t) (remove_set cs i c)

  -- ---- the first item and the last

  pub first_flat : (cs : List (List A)) (c : List A) → AllSome cs → 0 < length cs → c ≡ get_or cs 0 [] → slice_get c 0 ≡ slice_get (flat cs) 0
  first_flat [] c all some is = absurd (omega (arith, some))
  first_flat ([] ∷ cs) c all some is = absurd (omega (arith, all.0))
  first_flat ((e ∷ d) ∷ cs) c all some is = ap (λ l. slice_get l 0) is

  slice_behind : (c fs : List A) (i n : ℕ) → n ≡ length c + i → slice_get (c ++ fs) n ≡ slice_get fs i
  slice_behind [] fs i n is = ap (slice_get fs) (omega (arith, is))
  slice_behind (e ∷ c) fs i zero is = absurd (omega (arith, is))
  slice_behind (e ∷ c) fs i (suc n) is = slice_behind c fs i n (omega (arith, is))

  last_alone : (c : List A) → slice_get c (length c - 1) ≡ slice_get (c ++ []) (length (c ++ []) - 1)
  last_alone c = ap (λ l. slice_get l (length l - 1)) (sym (append-nil c))

  pub flat_some : (cs : List (List A)) → AllSome cs → 0 < length cs → 0 < length (flat cs)
  flat_some [] all some = some
  flat_some (c ∷ cs) all some = omega (arith, all.0, length-append c (flat cs))

  pub last_flat : (cs : List (List A)) (c : List A) → AllSome cs → 0 < length cs → c ≡ get_or cs (length cs - 1) [] → slice_get c (length c - 1) ≡ slice_get (flat cs) (length (flat cs) - 1)
  last_flat [] c all some is = absurd (omega (arith, some))
  last_flat (d ∷ []) c all some is = ap (λ l. slice_get l (length l - 1)) is ∙ last_alone d
  last_flat (d ∷ e ∷ cs) c all some is =
      let rest : 0 < length (flat (e ∷ cs)) = flat_some (e ∷ cs) all.1 (omega arith) in
      last_flat (e ∷ cs) c all.1 (omega arith) (is ∙ ap (λ n. get_or (d ∷ e ∷ cs) n []) {y = suc (length (e ∷ cs) - 1)} (omega arith))
      ∙ sym (slice_behind d (flat (e ∷ cs)) (length (flat (e ∷ cs)) - 1) (length (d ++ flat (e ∷ cs)) - 1) (omega (arith, length-append d (flat (e ∷ cs)), rest)))

  pub flat_none : (cs : List (List A)) → length cs ≡ 0 → length (flat cs) ≡ 0
  flat_none [] none = refl
  flat_none (c ∷ cs) none = absurd (omega (arith, none))

  -- ---- the last chunk

  pub start_end : (cs : List (List A)) (i : ℕ) → i + 1 ≡ length cs → items_before cs i + length (get_or cs i []) ≡ length (flat cs)
  start_end [] i last = absurd (omega (arith, last))
  start_end (c ∷ []) zero last = omega (arith, length-append c [])
  start_end (c ∷ d ∷ cs) zero last = absurd (omega (arith, last))
  start_end (c ∷ cs) (suc i) last = omega (arith, start_end cs i (omega (arith, last)), length-append c (flat cs))

  insert_end : (xs : List A) (n : ℕ) (x : A) → n ≡ length xs → insert xs n x ≡ xs ++ x ∷ []
  insert_end [] zero x is = refl
  insert_end [] (suc n) x is = absurd (omega (arith, is))
  insert_end (y ∷ xs) zero x is = absurd (omega (arith, is))
  insert_end (y ∷ xs) (suc n) x is = ap (λ t. y ∷ t) (insert_end xs n x (omega (arith, is)))

  pub get_end : (cs : List (List A)) (n : ℕ) (c : List A) → n ≡ length cs → get_or (cs ++ c ∷ []) n [] ≡ c
  get_end [] zero c is = refl
  get_end [] (suc n) c is = absurd (omega (arith, is))
  get_end (d ∷ cs) zero c is = absurd (omega (arith, is))
  get_end (d ∷ cs) (suc n) c is = get_end cs n c (omega (arith, is))

  set_end : (cs : List (List A)) (n : ℕ) (c d : List A) → n ≡ length cs → set (cs ++ c ∷ []) n d ≡ cs ++ d ∷ []
  set_end [] zero c d is = refl
  set_end [] (suc n) c d is = absurd (omega (arith, is))
  set_end (e ∷ cs) zero c d is = absurd (omega (arith, is))
  set_end (e ∷ cs) (suc n) c d is = ap (λ t. e ∷ t) (set_end cs n c d (omega (arith, is)))

  flat_end : (cs : List (List A)) (c : List A) → flat (cs ++ c ∷ []) ≡ flat cs ++ c
  flat_end [] c = append-nil c
  flat_end (d ∷ cs) c = ap (λ t. d ++ t) (flat_end cs c) ∙ sym (append_assoc d (flat cs) c)

  some_end : (cs : List (List A)) (c : List A) → AllSome cs → 0 < length c → AllSome (cs ++ c ∷ [])
  some_end [] c all some = (some, tt)
  some_end (d ∷ cs) c all some = (all.0, some_end cs c all.1 some)

  -- an item that is put into a new chunk behind the others
  pub put_in_new : (cs opened new : List (List A)) (n : ℕ) (x : A) → n ≡ length cs → opened ≡ cs ++ [] ∷ [] → new ≡ set opened n (insert (get_or opened n []) 0 x) → new ≡ cs ++ (x ∷ []) ∷ []
  put_in_new cs opened new n x len is put =
      put ∙ ap (λ l. set l n (insert (get_or l n []) 0 x)) is ∙ ap (λ c. set (cs ++ [] ∷ []) n (insert c 0 x)) (get_end cs n [] len) ∙ set_end cs n [] (x ∷ []) len

  pub flat_in_new : (cs new : List (List A)) (i : ℕ) (x : A) → i + 1 ≡ length cs → new ≡ cs ++ (x ∷ []) ∷ [] → flat new ≡ insert (flat cs) (items_before cs i + length (get_or cs i [])) x
  flat_in_new cs new i x last is =
      ap flat is ∙ flat_end cs (x ∷ []) ∙ sym (insert_end (flat cs) (items_before cs i + length (get_or cs i [])) x (omega (arith, start_end cs i last)))

  pub some_in_new : (cs new : List (List A)) (x : A) → AllSome cs → new ≡ cs ++ (x ∷ []) ∷ [] → AllSome new
  some_in_new cs new x all is = subst AllSome (sym is) (some_end cs (x ∷ []) all (omega arith))

-- what is read at a place of a chunk
pub there : {A : Type 0} (row cs : List (List A)) (i at : ℕ) (c pairs : List A) (d : A) → row ≡ cs → i < length row → at < length (get_or row i []) → c ≡ get_or row i c → pairs ≡ c → get_or pairs at d ≡ get_or (flat cs) (items_before cs i + at) d
there row cs i at c pairs d same lt within is are =
    ap (λ l. get_or l at d) (are ∙ got row i c [] lt is) ∙ sym (flat_get row i at d within) ∙ ap (λ r. get_or (flat r) (items_before r i + at) d) same

pub not_none : {A : Type 0} (xs : List A) → (length xs == 0) ≡ false → 0 < length xs
not_none [] h = absurd (false≢true (sym h))
not_none (x ∷ xs) h = omega arith

-- a chunk whose length was read
pub read_len : {A : Type 0} (row cs : List (List A)) (i n : ℕ) (c : List A) → row ≡ cs → i < length row → c ≡ get_or row i c → n ≡ length c → n ≡ length (get_or cs i [])
read_len row cs i n c same lt is len = len ∙ ap length (got row i c [] lt is) ∙ ap (λ r. length (get_or r i [])) same

-- nothing stands before the first chunk
pub start_none : {A : Type 0} (cs : List (List A)) → items_before cs 0 + 0 ≡ 0
start_none [] = refl
start_none (c ∷ cs) = refl

-- a value that is written at a place
pub value_set : {K V : Type 0} (es : List (K × V)) (at : ℕ) (x : K × V) (w : V) → at < length es → x ≡ get_or es at x → set es at (x.0, w) ≡ with_value es at w
value_set [] at x w lt is = absurd (omega (arith, lt))
value_set (e ∷ es) zero x w lt is = ap (λ y. (y.0, w) ∷ es) is
value_set (e ∷ es) (suc at) x w lt is = ap (λ t. e ∷ t) (value_set es at x w (omega (arith, lt)) is)

pub value_length : {K V : Type 0} (es : List (K × V)) (at : ℕ) (w : V) → length (with_value es at w) ≡ length es
value_length [] at w = refl
value_length (e ∷ es) zero w = refl
value_length (e ∷ es) (suc at) w = ap suc (value_length es at w)

-- a value that is written in a chunk, and the pair that is there after it
pub value_flat : {K V : Type 0} (cs : List (List (K × V))) (i at : ℕ) (d : K × V) (w : V) → i < length cs → at < length (get_or cs i []) → flat (set cs i (with_value (get_or cs i []) at w)) ≡ set (flat cs) (items_before cs i + at) ((get_or (flat cs) (items_before cs i + at) d).0, w)
value_flat cs i at d w lt within =
    let x = get_or (get_or cs i []) at d in
    let is = got_default (get_or cs i []) at d x within in
    ap (λ c. flat (set cs i c)) (sym (value_set (get_or cs i []) at x w within is)) ∙ flat_set cs i at (x.0, w) lt within ∙ ap (λ y. set (flat cs) (items_before cs i + at) (y.0, w)) (sym (flat_get cs i at d within))

pub some_drop : {A : Type 0} (cs : List (List A)) (i : ℕ) → AllSome cs → AllSome (drop i cs)
some_drop cs zero all = all
some_drop [] (suc i) all = tt
some_drop (c ∷ cs) (suc i) all = some_drop cs i all.1
