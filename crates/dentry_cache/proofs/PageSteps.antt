-- Pages of pairs, read one after the other.
use Rattle.dentry_cache.proofs.Common.{Bool, EndsPairs, Fragment, IsEndOf, Last, List, More, Names, Off, Option, PageEnd, PairMap, PairPage, Some, [], added, and_left, ap, are_good, arith, drop, inode_of_record, false, inl, inr, is_good, length, length-append, length-take-le, list_all-append, name_of_key, nat_lt, nat_tests, page_of, pages_make_up, pairs_after, refl, slice_get, subst, suc, sym, take, take-append-drop, take_all, true, with_pair, zero, ℕ, ◌&&◌, ◌++◌, ◌+◌, ◌-◌, ◌<◌, ◌∙◌, ◌∷◌, ◌≡◌, ◌≤◌, ◌⊎◌}
use Rattle.std.specs.Option.{option_map}
use Rattle.dentry_cache.proofs.Common.{None, same_Some}
use Rattle.objstore.specs.Omap.{Omap}
use Rattle.dentry_cache.specs.Calls.{LeavesPages, PagesLeft, pages_read}
use Rattle.dentry_cache.proofs.CallLaws.{last_here, more_behind, off_here}

added_split : (names : Names) (a b : List (List ℕ × List ℕ)) → added names (a ++ b) ≡ added (added names a) b
added_split names [] b = refl
added_split names (pair ∷ a) b = added_split (with_pair names (name_of_key pair.0) (inode_of_record pair.1)) a b

left_true : (a b : Bool) → a ≡ true → (a && b) ≡ b
left_true true b is = refl
left_true false b is = cc

get_taken : {A : Type 0} (n i : ℕ) (xs : List A) → i < n → slice_get (take n xs) i ≡ slice_get xs i
get_taken zero i xs less = absurd (omega (arith, less))
get_taken (suc n) i [] less = refl
get_taken (suc n) zero (x ∷ xs) less = refl
get_taken (suc n) (suc i) (x ∷ xs) less = get_taken n i xs (omega (arith, less))

nothing_taken : {A : Type 0} (n : ℕ) (xs : List A) → take (suc n) xs ≡ [] → xs ≡ []
nothing_taken n [] is = refl
nothing_taken n (x ∷ xs) is = cc

few : (n m : ℕ) → nat_lt n m ≡ false → m ≤ n
few n m is = grind (arith, nat_tests)

many : (n m : ℕ) → nat_lt n m ≡ true → n < m
many n m is = grind (arith, nat_tests)

module _ (frag : Fragment) (pairs : PairMap) (after : Option (List ℕ)) (page : PairPage) (is : page ≡ page_of pairs after 64) where
  abbrev xs : List (List ℕ × List ℕ)
  xs = pairs_after pairs after

  items : page.pairs ≡ take 64 xs
  items = ap (λ (p : PairPage). p.pairs) is

  flag : page.more ≡ nat_lt 64 (length xs)
  flag = ap (λ (p : PairPage). p.more) is

  pub page_off : are_good frag page.pairs ≡ false → are_good frag (pairs_after pairs after) ≡ false
  page_off bad =
      ap (are_good frag) (sym (take-append-drop 64 xs)) ∙ list_all-append (is_good frag) (take 64 xs) (drop 64 xs)
      ∙ and_left (are_good frag (take 64 xs)) (are_good frag (drop 64 xs)) (ap (are_good frag) (sym items) ∙ bad)

  pub off_left : are_good frag page.pairs ≡ false → pages_read frag (pairs_after pairs after) ≡ 1
  off_left bad = ap suc (off_here frag 64 xs (ap (are_good frag) (sym items) ∙ bad))

  module _ (old new : Names) (good : are_good frag page.pairs ≡ true) (put : new ≡ added old page.pairs) where
    whole : page.pairs ≡ xs → EndsPairs frag pairs after old new Last
    whole all = (sym (ap (are_good frag) all) ∙ good, put ∙ ap (added old) all)

    last_page : (page.more ≡ false) ⊎ (page.pairs ≡ []) → page.pairs ≡ xs
    last_page (inl last) = items ∙ take_all 64 xs (few 64 (length xs) (sym flag ∙ last))
    last_page (inr none) = none ∙ sym (nothing_taken 63 xs (sym items ∙ none))

    last_left : (page.more ≡ false) ⊎ (page.pairs ≡ []) → pages_read frag xs ≡ 1
    last_left (inl last) = ap suc (last_here frag 64 xs (few 64 (length xs) (sym flag ∙ last)))
    last_left (inr none) = ap (pages_read frag) (nothing_taken 63 xs (sym items ∙ none))

    module _ (key bytes : List ℕ) (more : page.more ≡ true) (last : slice_get page.pairs (length page.pairs - 1) ≡ Some (key, bytes)) where
      beyond : 64 < length xs
      beyond = many 64 (length xs) (sym flag ∙ more)

      count : length page.pairs ≡ 64
      count = ap (length {A = List ℕ × List ℕ}) items ∙ length-take-le 64 xs (omega (arith, beyond))

      here : slice_get xs 63 ≡ Some (key, bytes)
      here =
          let at : length page.pairs - 1 ≡ 63 = omega (arith, count) in
          sym (get_taken 64 63 xs (omega arith)) ∙ ap (λ (l : List (List ℕ × List ℕ)). slice_get l 63) (sym items) ∙ ap (slice_get page.pairs) (sym at) ∙ last

      split : page.pairs ++ pairs_after pairs (Some key) ≡ xs
      split = ap (λ (l : List (List ℕ × List ℕ)). l ++ pairs_after pairs (Some key)) items ∙ pages_make_up pairs after 63 (key, bytes) here

      goes_on : EndsPairs frag pairs after old new (More key)
      goes_on =
          let rest = pairs_after pairs (Some key) in
          let total : length page.pairs + length rest ≡ length xs = sym (length-append page.pairs rest) ∙ ap (length {A = List ℕ × List ℕ}) split in (
            ap (are_good frag) (sym split) ∙ list_all-append (is_good frag) page.pairs rest ∙ left_true (are_good frag page.pairs) (are_good frag rest) good,
            ap (λ (n : Names). added n rest) put ∙ sym (added_split old page.pairs rest) ∙ ap (added old) split,
            omega (arith, total, count),
          )

      more_left : pages_read frag xs ≡ suc (pages_read frag (pairs_after pairs (Some key)))
      more_left =
          let rest = pairs_after pairs (Some key) in
          let total : length page.pairs + length rest ≡ length xs = sym (length-append page.pairs rest) ∙ ap (length {A = List ℕ × List ℕ}) split in
          ap (pages_read frag) (sym split) ∙ ap suc (more_behind frag 64 page.pairs rest count (omega (arith, total, count, beyond)) good)

    ended : (end : PageEnd) → IsEndOf page.more page.pairs end → EndsPairs frag pairs after old new end
    ended Off h = absurd h
    ended Last h = whole (last_page h)
    ended (More key) h = goes_on key h.1.0 h.0 h.1.1

    pub page_end : (end : PageEnd) (more : Bool) (list : List (List ℕ × List ℕ)) → more ≡ page.more → list ≡ page.pairs → IsEndOf more list end → EndsPairs frag pairs after old new end
    page_end end more list m l h = ended end (subst (λ (b : Bool). IsEndOf b page.pairs end) m (subst (λ (ps : List (List ℕ × List ℕ)). IsEndOf more ps end) l h))

    left_ended : (end : PageEnd) → IsEndOf page.more page.pairs end → LeavesPages frag xs pairs end
    left_ended Off h = absurd h
    left_ended Last h = last_left h
    left_ended (More key) h = more_left key h.1.0 h.0 h.1.1

    pub page_left : (end : PageEnd) (more : Bool) (list : List (List ℕ × List ℕ)) → more ≡ page.more → list ≡ page.pairs → IsEndOf more list end → LeavesPages frag (pairs_after pairs after) pairs end
    page_left end more list m l h = left_ended end (subst (λ (b : Bool). IsEndOf b page.pairs end) m (subst (λ (ps : List (List ℕ × List ℕ)). IsEndOf more ps end) l h))

-- what a page leaves, as the store gives it
pub page_pages : (frag : Fragment) (o : Option Omap) (after : Option (List ℕ)) (page : PairPage) (end : PageEnd) → Some page ≡ option_map (λ (x : Omap). page_of x.pairs after 64) o
    → ((pairs : PairMap) (behind : Option (List ℕ)) → page ≡ page_of pairs behind 64 → LeavesPages frag (pairs_after pairs behind) pairs end) → PagesLeft frag o after end
page_pages frag None after page end is leaves = let clash : Some page ≡ None = is in absurd cc
page_pages frag (Some x) after page end is leaves = go end (leaves x.pairs after (same_Some page (page_of x.pairs after 64) is))
  where
    go : (end : PageEnd) → LeavesPages frag (pairs_after x.pairs after) x.pairs end → PagesLeft frag (Some x) after end
    go Off h = h
    go Last h = h
    go (More key) h = h
