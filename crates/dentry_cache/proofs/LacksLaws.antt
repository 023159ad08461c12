-- Places that can't become free: no more of them where fragments are read or get other room.
use Rattle.std.proofs.Common.{◌≡◌, ℕ, ◌+◌, ◌<◌, ◌≤◌, ◌==◌, Bool, true, false, cond, not, ◌&&◌, ◌||◌, ◌⊎◌, inl, inr, List, [], ◌∷◌, length, filter, get_or, set, is_some, Option, Some, None, refl, sym, ap, subst, ◌∙◌, arith, get_or-set_same}
use Rattle.std.specs.List.{AllByRecursion, IsDistinct, list_any}
use Rattle.sorted_map.proofs.NatKeys.{is_apart, is_same, same_or_apart}
use Rattle.objstore.specs.Objects.{Objects}
use Rattle.cached_frag.specs.Cached.{Cached}
use Rattle.dentry_cache.specs.Cache.{IsThere, Leaf, leaf_is}
use Rattle.dentry_cache.specs.CacheCalls.{HasNoKeptPlace, LacksAt, kept_at, unclean_at}
use Rattle.dentry_cache.specs.CacheMap.{AreCaches, CacheMap, moved_first, given_up, has_place, here, less, order, rewritten, roomy, used_at, with_frag}
use Rattle.dentry_cache.specs.Reads.{Reads}
use Rattle.dentry_cache.specs.Reads.Reads.{stays as it_stays, uses, grows, loads, room, frees}
use Rattle.dentry_cache.proofs.CountLaws.{full_counts, staying}
use Rattle.dentry_cache.proofs.KeptLaws.{first_distinct, less_distinct}
use Rattle.dentry_cache.proofs.FrameLaws.{came_ranks}
use Rattle.dentry_cache.proofs.ReadsLaws.{reads_came}
use Rattle.dentry_cache.proofs.StepLaws.{any_less, by_room, here_given_up, here_with_frag, set_either}
use Rattle.dentry_cache.proofs.LeafLaws.{leaf_itself, one_leaf}

-- ---- what holds between the steps

-- a fragment that a rank has stands in its order, where no leaf stands twice
pub record IsPlaced (c : CacheMap) : Type 0 where
  pub placed : (r : ℕ) (leaf : Leaf) → is_some (here c r leaf) ≡ true → has_place c r leaf ≡ true
  pub distinct : (r : ℕ) → IsDistinct leaf_is (order c r)

pub caches_placed : (c : CacheMap) → AreCaches c → IsPlaced c
caches_placed c valid = record { placed = valid.placed; distinct = valid.distinct }

-- a place that was there is there where another is used
pub still_used : (c : CacheMap) (r : ℕ) (leaf : Leaf) (s : ℕ) (q : Leaf) → has_place c s q ≡ true → has_place (used_at c r leaf) s q ≡ true
still_used c r leaf s q is = go (set_either c.used r s (moved_first leaf (order c r)))
  where
    on : (b : Bool) → leaf_is q leaf ≡ b → list_any (leaf_is q) (order c r) ≡ true → (b || list_any (leaf_is q) (less leaf (order c r))) ≡ true
    on true one among = refl
    on false one among = any_less q leaf (order c r) one ∙ among

    go : ((s ≡ r) × (get_or (set c.used r (moved_first leaf (order c r))) s [] ≡ moved_first leaf (order c r))) ⊎ (get_or (set c.used r (moved_first leaf (order c r))) s [] ≡ get_or c.used s []) → has_place (used_at c r leaf) s q ≡ true
    go (inl set) = ap (list_any (leaf_is q)) set.1 ∙ on (leaf_is q leaf) refl (ap (λ (k : ℕ). has_place c k q) (sym set.0) ∙ is)
    go (inr same) = ap (list_any (leaf_is q)) same ∙ is

-- and where another leaf's is given up, or one at another rank
pub still_left : (c : CacheMap) (r : ℕ) (leaf : Leaf) (s : ℕ) (q : Leaf) → (r ≡ s → leaf_is q leaf ≡ false) → has_place c s q ≡ true → has_place (given_up c r leaf) s q ≡ true
still_left c r leaf s q apart is = go (set_either c.used r s (less leaf (order c r)))
  where
    go : ((s ≡ r) × (get_or (set c.used r (less leaf (order c r))) s [] ≡ less leaf (order c r))) ⊎ (get_or (set c.used r (less leaf (order c r))) s [] ≡ get_or c.used s []) → has_place (given_up c r leaf) s q ≡ true
    go (inl set) = ap (list_any (leaf_is q)) set.1 ∙ any_less q leaf (order c r) (apart (sym set.0)) ∙ ap (λ (k : ℕ). has_place c k q) (sym set.0) ∙ is
    go (inr same) = ap (list_any (leaf_is q)) same ∙ is

order_distinct : (xss : List (List Leaf)) (r s : ℕ) (xs : List Leaf) → IsDistinct leaf_is xs → IsDistinct leaf_is (get_or xss s []) → IsDistinct leaf_is (get_or (set xss r xs) s [])
order_distinct xss r s xs new old = go (set_either xss r s xs)
  where
    go : ((s ≡ r) × (get_or (set xss r xs) s [] ≡ xs)) ⊎ (get_or (set xss r xs) s [] ≡ get_or xss s []) → IsDistinct leaf_is (get_or (set xss r xs) s [])
    go (inl set) = subst (IsDistinct leaf_is) (sym set.1) new
    go (inr same) = subst (IsDistinct leaf_is) (sym same) old

pub placed_by_use : (c : CacheMap) (r : ℕ) (leaf : Leaf) → IsPlaced c → IsPlaced (used_at c r leaf)
placed_by_use c r leaf p = record {
  placed = λ s q some. still_used c r leaf s q (p.placed s q some);
  distinct = λ s. order_distinct c.used r s (moved_first leaf (order c r)) (first_distinct leaf (order c r) (p.distinct r)) (p.distinct s);
}

pub placed_by_frag : (c : CacheMap) (r : ℕ) (leaf : Leaf) (f : Cached) → r < length c.used → IsPlaced c → IsPlaced (with_frag c r leaf f)
placed_by_frag c r leaf f there p = record {
  placed = λ s q some. go s q (leaf_is q leaf) refl (same_or_apart r s) (ap (λ (o : Option Cached). is_some o) (sym (here_with_frag c r leaf f s q)) ∙ some);
  distinct = λ s. order_distinct c.used r s (moved_first leaf (order c r)) (first_distinct leaf (order c r) (p.distinct r)) (p.distinct s);
}
  where
    go : (s : ℕ) (q : Leaf) (b : Bool) → leaf_is q leaf ≡ b → (r ≡ s) ⊎ (r ≡ s → ⊥) → is_some (cond b (cond (r == s) (Some f) None) (here c s q)) ≡ true → has_place (with_frag c r leaf f) s q ≡ true
    go s q true one (inl same) some =
        ap (λ (k : ℕ). has_place (with_frag c r leaf f) k q) (sym same) ∙ ap (list_any (leaf_is q)) (get_or-set_same c.used r (moved_first leaf (order c r)) [] there) ∙ ap (λ (b : Bool). b || list_any (leaf_is q) (less leaf (order c r))) one
    go s q true one (inr apart) some = let clash : false ≡ true = ap (λ (b : Bool). is_some (cond b (Some f) None)) (sym (is_apart r s apart)) ∙ some in absurd cc
    go s q false one either some = still_used c r leaf s q (p.placed s q some)

-- a fragment that is there is another where it stands
pub placed_rewritten : (c : CacheMap) (r : ℕ) (leaf : Leaf) (f now : Cached) → here c r leaf ≡ Some f → IsPlaced c → IsPlaced (rewritten c r leaf now)
placed_rewritten c r leaf f now seen p = record {
  placed = λ s q some. go s q (leaf_is q leaf) refl (same_or_apart r s) (ap (λ (o : Option Cached). is_some o) (sym (here_with_frag c r leaf now s q)) ∙ some);
  distinct = p.distinct;
}
  where
    go : (s : ℕ) (q : Leaf) (b : Bool) → leaf_is q leaf ≡ b → (r ≡ s) ⊎ (r ≡ s → ⊥) → is_some (cond b (cond (r == s) (Some now) None) (here c s q)) ≡ true → has_place c s q ≡ true
    go s q true one (inl same) some = p.placed s q (ap (λ (k : ℕ). is_some (here c k q)) (sym same) ∙ ap (λ (l : Leaf). is_some (here c r l)) (one_leaf q leaf one) ∙ ap (λ (o : Option Cached). is_some o) seen)
    go s q true one (inr apart) some = let clash : false ≡ true = ap (λ (b : Bool). is_some (cond b (Some now) None)) (sym (is_apart r s apart)) ∙ some in absurd cc
    go s q false one either some = p.placed s q some

pub placed_by_end : (c : CacheMap) (r : ℕ) (leaf : Leaf) → IsPlaced c → IsPlaced (given_up c r leaf)
placed_by_end c r leaf p = record {
  placed = λ s q some. go s q (leaf_is q leaf) refl (same_or_apart r s) (ap (λ (o : Option Cached). is_some o) (sym (here_given_up c r leaf s q)) ∙ some);
  distinct = λ s. order_distinct c.used r s (less leaf (order c r)) (less_distinct leaf (order c r) (p.distinct r)) (p.distinct s);
}
  where
    go : (s : ℕ) (q : Leaf) (b : Bool) → leaf_is q leaf ≡ b → (r ≡ s) ⊎ (r ≡ s → ⊥) → is_some (cond (b && (r == s)) None (here c s q)) ≡ true → has_place (given_up c r leaf) s q ≡ true
    go s q true one (inl same) some = let clash : false ≡ true = ap (λ (b : Bool). is_some (cond b None (here c s q))) (sym (is_same r s same)) ∙ some in absurd cc
    go s q true one (inr apart) some = still_left c r leaf s q (λ same. absurd (apart same)) (p.placed s q (ap (λ (b : Bool). is_some (cond b None (here c s q))) (sym (is_apart r s apart)) ∙ some))
    go s q false one either some = still_left c r leaf s q (λ same. one) (p.placed s q some)

-- ---- how many places of a rank have what passes a test

module _ (P : Option Cached → Bool) where
  -- a leaf has a place, or what the rank has of it doesn't pass
  abbrev IsCounted : CacheMap → ℕ → Leaf → Type 0
  IsCounted c r leaf = (has_place c r leaf ≡ true) ⊎ (P (here c r leaf) ≡ false)

-- ---- reads

module _ (Uses Ends : ℕ → Leaf → Type 0) (objects : Objects) (old : CacheMap) (valid : AreCaches old) (ranks : (r : ℕ) (leaf : Leaf) → Uses r leaf → r < length old.used) where
  pub there_mid : (mid : CacheMap) → Reads Uses Ends objects old mid → (r : ℕ) (leaf : Leaf) → Uses r leaf → r < length mid.used
  there_mid mid reads r leaf named = subst (λ (n : ℕ). r < n) (sym (came_ranks Uses Ends old mid (reads_came Uses Ends objects old mid reads))) (ranks r leaf named)

  -- each fragment has its place between them
  pub reads_placed : (new : CacheMap) → Reads Uses Ends objects old new → IsPlaced new
  reads_placed _ it_stays = caches_placed old valid
  reads_placed _ (uses mid r leaf before named) = placed_by_use mid r leaf (reads_placed mid before)
  reads_placed _ (grows mid r leaf f now before named seen same) = placed_rewritten mid r leaf f now seen (reads_placed mid before)
  reads_placed _ (loads mid r leaf f before named none spelt) = placed_by_frag mid r leaf f (there_mid mid before r leaf named) (reads_placed mid before)
  reads_placed _ (room mid new r leaf stay before named none kept is) = by_room mid new r stay is IsPlaced (reads_placed mid before) (λ v passes. placed_by_end mid r v (reads_placed mid before))
  reads_placed _ (frees mid r leaf before named none) = placed_by_end mid r leaf (reads_placed mid before)

  twice : (a b c : ℕ) → a ≤ b → b ≤ c → a ≤ c
  twice a b c one more = omega (arith, one, more)

-- ---- where no place is kept

among_itself : (xs ys : List Leaf) → AllByRecursion (λ (x : Leaf). list_any (leaf_is x) xs ≡ true) ys → (test : Leaf → Bool) → ((x : Leaf) → list_any (leaf_is x) xs ≡ true → test x ≡ false) → length (filter test ys) ≡ 0
among_itself xs [] all test none = refl
among_itself xs (y ∷ ys) all test none = ap (λ (b : Bool). length (cond b (y ∷ filter test ys) (filter test ys))) (none y all.0) ∙ among_itself xs ys all.1 test none

all_among : (xs : List Leaf) → AllByRecursion (λ (x : Leaf). list_any (leaf_is x) xs ≡ true) xs
all_among xs = go xs (λ x is. is)
  where
    go : (ys : List Leaf) → ((x : Leaf) → list_any (leaf_is x) ys ≡ true → list_any (leaf_is x) xs ≡ true) → AllByRecursion (λ (x : Leaf). list_any (leaf_is x) xs ≡ true) ys
    go [] so = tt
    go (y ∷ ys) so = (so y (ap (λ (b : Bool). b || list_any (leaf_is y) ys) (leaf_itself y)), go ys (λ x is. so x (later x (leaf_is x y) is)))
      where
        later : (x : Leaf) (b : Bool) → list_any (leaf_is x) ys ≡ true → (b || list_any (leaf_is x) ys) ≡ true
        later x true is = refl
        later x false is = is

-- where each place has its fragment, none is kept
pub none_kept_at : (c : CacheMap) (r : ℕ) → ((q : Leaf) → HasNoKeptPlace c r q) → length (kept_at c r) ≡ 0
none_kept_at c r whole = among_itself (order c r) (order c r) (all_among (order c r)) (λ (x : Leaf). not (is_some (here c r x))) (λ x among. there (here c r x) (whole x among))
  where
    there : (o : Option Cached) → IsThere o → not (is_some o) ≡ false
    there (Some f) is = refl
    there None is = absurd is

-- no place is free and none can become so: as many are lacking as are to stay, and one
pub full_lacks : (c : CacheMap) (r : ℕ) (stay : Option Leaf) → AreCaches c → ((q : Leaf) → HasNoKeptPlace c r q) → roomy c r stay ≡ None → LacksAt (staying stay + 1) c r
full_lacks c r stay valid whole full =
    let most : c.cap ≤ length (unclean_at c r) + length (kept_at c r) + staying stay = full_counts c r stay valid full in
    let none : length (kept_at c r) ≡ 0 = none_kept_at c r whole in
    omega (arith, most, none)
