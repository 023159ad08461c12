-- What each step makes of a leaf's fragment and of its place, and of the sizes.
use Rattle.std.proofs.Common.{◌≡◌, ℕ, zero, suc, ◌<◌, Bool, true, false, cond, ◌&&◌, ◌||◌, ◌⊎◌, inl, inr, List, [], ◌∷◌, set, get_or, length, nat_lt, option_map, Option, Some, None, refl, sym, ap, subst, ◌∙◌, get_or-set_same, get_or-set_other, length-set}
use Rattle.std.specs.Prelude.{◌==◌}
use Rattle.std.specs.List.{IsDistinct, list_any}
use Rattle.std.specs.FinMap as finmap
use Rattle.std.specs.FinMap.{get-insert, get-remove}
use Rattle.std.proofs.lemmas.Option.{same_Some}
use Rattle.std.proofs.lemmas.Map.Keys.{IsDistinct-head, IsDistinct-tail}
use Rattle.std.specs.List.{AllByRecursion}
use Rattle.sorted_map.proofs.NatKeys.{is_apart, is_same, same_or_apart}
use Rattle.cached_frag.specs.Cached.{Cached}
use Rattle.dentry_cache.specs.Cache.{Leaf, leaf_is}
use Rattle.dentry_cache.specs.CacheCalls.{Edits, IsEdited, IsRewritten, Rewrites}
use Rattle.dentry_cache.specs.CacheMap.{At, CacheMap, IsFree, IsFreeFor, lies_by, at_rank, moved_first, given_up, goes, has_place, here, less, order, removed, rewritten, roomy, used_at, victim, with_frag}
use Rattle.dentry_cache.proofs.UncleanLaws.{last_passes}
use Rattle.dentry_cache.proofs.LeafLaws.{leaf-total, leaf_itself, one_leaf, tied_leaf}

-- ---- how a statement of the caches before and after is proved, where a place is free or became so

-- nothing changed, or a clean fragment went that isn't the one to stay
pub by_room : (c mid : CacheMap) (r : ℕ) (stay : Option Leaf) → roomy c r stay ≡ Some mid → (P : CacheMap → Type 0) → P c → ((v : Leaf) → goes c r stay v ≡ true → P (given_up c r v)) → P mid
by_room c mid r stay made P same went = go (nat_lt (length (order c r)) c.cap) (victim c r stay) refl made
  where
    go : (b : Bool) (v : Option Leaf) → victim c r stay ≡ v → cond b (Some c) (option_map (given_up c r) v) ≡ Some mid → P mid
    go true v seen is = subst P (same_Some c mid is) same
    go false None seen is = let clash : None ≡ Some mid = is in absurd cc
    go false (Some v) seen is = subst P (same_Some (given_up c r v) mid is) (went v (last_passes (goes c r stay) (order c r) v seen))

-- ---- sizes

-- as many ranks
pub ranks_used : (c : CacheMap) (r : ℕ) (leaf : Leaf) → length (used_at c r leaf).used ≡ length c.used
ranks_used c r leaf = length-set c.used r (moved_first leaf (order c r))

pub ranks_with_frag : (c : CacheMap) (r : ℕ) (leaf : Leaf) (f : Cached) → length (with_frag c r leaf f).used ≡ length c.used
ranks_with_frag c r leaf f = length-set c.used r (moved_first leaf (order c r))

pub ranks_given_up : (c : CacheMap) (r : ℕ) (leaf : Leaf) → length (given_up c r leaf).used ≡ length c.used
ranks_given_up c r leaf = length-set c.used r (less leaf (order c r))

pub ranks_roomy : (c mid : CacheMap) (r : ℕ) (stay : Option Leaf) → roomy c r stay ≡ Some mid → length mid.used ≡ length c.used
ranks_roomy c mid r stay made = by_room c mid r stay made (λ (k : CacheMap). length k.used ≡ length c.used) refl (λ v passes. ranks_given_up c r v)

-- as many places
pub cap_roomy : (c mid : CacheMap) (r : ℕ) (stay : Option Leaf) → roomy c r stay ≡ Some mid → mid.cap ≡ c.cap
cap_roomy c mid r stay made = by_room c mid r stay made (λ (k : CacheMap). k.cap ≡ c.cap) refl (λ v passes. refl)

-- ---- each leaf's fragment, with its rank

-- a fragment that a rank was given
pub get_with_frag : (c : CacheMap) (r : ℕ) (leaf : Leaf) (f : Cached) (q : Leaf) → finmap.get (with_frag c r leaf f).held q ≡ cond (leaf_is q leaf) (Some (lies_by r f)) (finmap.get c.held q)
get_with_frag c r leaf f q = get-insert leaf-total c.held leaf (lies_by r f) q ∙ ap (λ b. cond b (Some (lies_by r f)) (finmap.get c.held q)) (tied_leaf q leaf)

-- a leaf's place that was given up, which no other rank has
pub get_given_up : (c : CacheMap) (r : ℕ) (leaf q : Leaf) → IsFreeFor c r leaf → finmap.get (given_up c r leaf).held q ≡ cond (leaf_is q leaf) None (finmap.get c.held q)
get_given_up c r leaf q free = went (here c r leaf) refl
  where
    none : (o : Option At) → IsFree r o → at_rank r o ≡ None → o ≡ None
    none None free is = refl
    none (Some a) free is = let clash : None ≡ Some a.frag = sym is ∙ ap (λ b. cond b (Some a.frag) None) (is_same a.rank r free) in absurd cc

    went : (o : Option Cached) → here c r leaf ≡ o → finmap.get (removed c.held leaf o) q ≡ cond (leaf_is q leaf) None (finmap.get c.held q)
    went (Some f) is = get-remove leaf-total c.held leaf q ∙ ap (λ b. cond b None (finmap.get c.held q)) (tied_leaf q leaf)
    went None is = go (leaf_is q leaf) refl
      where
        go : (b : Bool) → leaf_is q leaf ≡ b → finmap.get c.held q ≡ cond b None (finmap.get c.held q)
        go true one = ap (λ (l : Leaf). finmap.get c.held l) (one_leaf q leaf one) ∙ none (finmap.get c.held leaf) free is
        go false one = refl

-- another leaf's fragment, where a place was given up
pub get_beside : (c : CacheMap) (r : ℕ) (leaf q : Leaf) → leaf_is q leaf ≡ false → finmap.get (given_up c r leaf).held q ≡ finmap.get c.held q
get_beside c r leaf q apart = go (here c r leaf)
  where
    go : (o : Option Cached) → finmap.get (removed c.held leaf o) q ≡ finmap.get c.held q
    go None = refl
    go (Some f) = get-remove leaf-total c.held leaf q ∙ ap (λ (b : Bool). cond b None (finmap.get c.held q)) (tied_leaf q leaf ∙ apart)

-- what is there once a place was given up was there before
pub held_given_up : (c : CacheMap) (r : ℕ) (leaf q : Leaf) (a : At) → finmap.get (given_up c r leaf).held q ≡ Some a → finmap.get c.held q ≡ Some a
held_given_up c r leaf q a is = go (here c r leaf) is
  where
    on : (b : Bool) → cond b None (finmap.get c.held q) ≡ Some a → finmap.get c.held q ≡ Some a
    on true is = let clash : None ≡ Some a = is in absurd cc
    on false is = is

    go : (o : Option Cached) → finmap.get (removed c.held leaf o) q ≡ Some a → finmap.get c.held q ≡ Some a
    go None is = is
    go (Some f) is = on (leaf_is q leaf) (ap (λ b. cond b None (finmap.get c.held q)) (sym (tied_leaf q leaf)) ∙ sym (get-remove leaf-total c.held leaf q) ∙ is)

-- so where a place became free
pub held_roomy : (c mid : CacheMap) (r : ℕ) (stay : Option Leaf) (q : Leaf) (a : At) → roomy c r stay ≡ Some mid → finmap.get mid.held q ≡ Some a → finmap.get c.held q ≡ Some a
held_roomy c mid r stay q a made = by_room c mid r stay made (λ (k : CacheMap). finmap.get k.held q ≡ Some a → finmap.get c.held q ≡ Some a) (λ is. is) (λ v passes is. held_given_up c r v q a is)

-- ---- each leaf's fragment at a rank

pub here_with_frag : (c : CacheMap) (r : ℕ) (leaf : Leaf) (f : Cached) (s : ℕ) (q : Leaf) → here (with_frag c r leaf f) s q ≡ cond (leaf_is q leaf) (cond (r == s) (Some f) None) (here c s q)
here_with_frag c r leaf f s q = ap (at_rank s) (get_with_frag c r leaf f q) ∙ go (leaf_is q leaf)
  where
    go : (b : Bool) → at_rank s (cond b (Some (lies_by r f)) (finmap.get c.held q)) ≡ cond b (cond (r == s) (Some f) None) (here c s q)
    go true = refl
    go false = refl

pub here_given_up : (c : CacheMap) (r : ℕ) (leaf : Leaf) (s : ℕ) (q : Leaf) → here (given_up c r leaf) s q ≡ cond (leaf_is q leaf && (r == s)) None (here c s q)
here_given_up c r leaf s q = went (here c r leaf) refl
  where
    only : (o : Option At) (f : Cached) → at_rank r o ≡ Some f → None ≡ cond (r == s) None (at_rank s o)
    only None f is = let clash : None ≡ Some f = is in absurd cc
    only (Some a) f is = go (same_or_apart a.rank r)
      where
        here_or_not : (b : Bool) → None ≡ cond b None (cond b (Some a.frag) None)
        here_or_not true = refl
        here_or_not false = refl

        go : (a.rank ≡ r) ⊎ (a.rank ≡ r → ⊥) → None ≡ cond (r == s) None (cond (a.rank == s) (Some a.frag) None)
        go (inl same) = here_or_not (r == s) ∙ ap (λ (k : ℕ). cond (r == s) None (cond (k == s) (Some a.frag) None)) (sym same)
        go (inr apart) = let clash : None ≡ Some f = sym (ap (λ b. cond b (Some a.frag) None) (is_apart a.rank r apart)) ∙ is in absurd cc

    none : (o : Option At) → at_rank r o ≡ None → at_rank s o ≡ cond (r == s) None (at_rank s o)
    none o is = go (same_or_apart r s)
      where
        go : (r ≡ s) ⊎ (r ≡ s → ⊥) → at_rank s o ≡ cond (r == s) None (at_rank s o)
        go (inl same) = ap (λ (k : ℕ). at_rank k o) (sym same) ∙ is ∙ ap (λ b. cond b None (at_rank s o)) (sym (is_same r s same))
        go (inr apart) = ap (λ b. cond b None (at_rank s o)) (sym (is_apart r s apart))

    went : (o : Option Cached) → here c r leaf ≡ o → at_rank s (finmap.get (removed c.held leaf o) q) ≡ cond (leaf_is q leaf && (r == s)) None (here c s q)
    went (Some f) is = ap (at_rank s) (get-remove leaf-total c.held leaf q ∙ ap (λ b. cond b None (finmap.get c.held q)) (tied_leaf q leaf)) ∙ go (leaf_is q leaf) refl
      where
        go : (b : Bool) → leaf_is q leaf ≡ b → at_rank s (cond b None (finmap.get c.held q)) ≡ cond (b && (r == s)) None (here c s q)
        go true one = only (finmap.get c.held leaf) f is ∙ ap (λ (l : Leaf). cond (r == s) None (here c s l)) (sym (one_leaf q leaf one))
        go false one = refl
    went None is = go (leaf_is q leaf) refl
      where
        go : (b : Bool) → leaf_is q leaf ≡ b → here c s q ≡ cond (b && (r == s)) None (here c s q)
        go true one =
            ap (λ (l : Leaf). here c s l) (one_leaf q leaf one) ∙ none (finmap.get c.held leaf) is
            ∙ ap (λ (l : Leaf). cond (r == s) None (here c s l)) (sym (one_leaf q leaf one))
        go false one = refl

-- a rank that was given a fragment has it
pub here_put : (c : CacheMap) (r : ℕ) (leaf : Leaf) (f : Cached) → here (with_frag c r leaf f) r leaf ≡ Some f
here_put c r leaf f = here_with_frag c r leaf f r leaf ∙ ap (λ b. cond b (cond (r == r) (Some f) None) (here c r leaf)) (leaf_itself leaf) ∙ ap (λ b. cond b (Some f) None) (is_same r r refl)

-- another leaf's fragment stays
pub here_beside : (c : CacheMap) (r : ℕ) (leaf : Leaf) (f : Cached) (s : ℕ) (q : Leaf) → leaf_is q leaf ≡ false → here (with_frag c r leaf f) s q ≡ here c s q
here_beside c r leaf f s q apart = here_with_frag c r leaf f s q ∙ ap (λ b. cond b (cond (r == s) (Some f) None) (here c s q)) apart

-- ---- places

-- what stands in an order of use that was set
pub set_either : (xss : List (List Leaf)) (r s : ℕ) (xs : List Leaf) → ((s ≡ r) × (get_or (set xss r xs) s [] ≡ xs)) ⊎ (get_or (set xss r xs) s [] ≡ get_or xss s [])
set_either [] r s xs = inr refl
set_either (x ∷ xss) zero zero xs = inl (refl, refl)
set_either (x ∷ xss) zero (suc s) xs = inr refl
set_either (x ∷ xss) (suc r) zero xs = inr refl
set_either (x ∷ xss) (suc r) (suc s) xs = go (set_either xss r s xs)
  where
    go : ((s ≡ r) × (get_or (set xss r xs) s [] ≡ xs)) ⊎ (get_or (set xss r xs) s [] ≡ get_or xss s []) → ((suc s ≡ suc r) × (get_or (set xss r xs) s [] ≡ xs)) ⊎ (get_or (set xss r xs) s [] ≡ get_or xss s [])
    go (inl is) = inl (ap suc is.0, is.1)
    go (inr is) = inr is

-- a leaf that is among others without one was among all
pub less_among : (q leaf : Leaf) (xs : List Leaf) → list_any (leaf_is q) (less leaf xs) ≡ true → list_any (leaf_is q) xs ≡ true
less_among q leaf [] is = is
less_among q leaf (x ∷ xs) is = go (leaf_is leaf x) (leaf_is q x) (λ rest. less_among q leaf xs rest) is
  where
    either : (b : Bool) → list_any (leaf_is q) xs ≡ true → (b || list_any (leaf_is q) xs) ≡ true
    either true is = refl
    either false is = is

    on : (b : Bool) → (list_any (leaf_is q) (less leaf xs) ≡ true → list_any (leaf_is q) xs ≡ true) → (b || list_any (leaf_is q) (less leaf xs)) ≡ true → (b || list_any (leaf_is q) xs) ≡ true
    on true rest is = refl
    on false rest is = rest is

    go : (b a : Bool) → (list_any (leaf_is q) (less leaf xs) ≡ true → list_any (leaf_is q) xs ≡ true) → list_any (leaf_is q) (cond b xs (x ∷ less leaf xs)) ≡ true → (leaf_is q x || list_any (leaf_is q) xs) ≡ true
    go true a rest is = either (leaf_is q x) is
    go false a rest is = on (leaf_is q x) rest is

-- each place was there, or is the one that was used
pub placed_used : (c : CacheMap) (r : ℕ) (leaf : Leaf) (s : ℕ) (q : Leaf) → has_place (used_at c r leaf) s q ≡ true → (has_place c s q ≡ true) ⊎ ((s ≡ r) × (q ≡ leaf))
placed_used c r leaf s q is = go (set_either c.used r s (moved_first leaf (order c r)))
  where
    on : (b : Bool) → leaf_is q leaf ≡ b → s ≡ r → (b || list_any (leaf_is q) (less leaf (order c r))) ≡ true → (has_place c s q ≡ true) ⊎ ((s ≡ r) × (q ≡ leaf))
    on true one rank is = inr (rank, one_leaf q leaf one)
    on false one rank is = inl (ap (λ (k : ℕ). has_place c k q) rank ∙ less_among q leaf (order c r) is)

    go : ((s ≡ r) × (get_or (set c.used r (moved_first leaf (order c r))) s [] ≡ moved_first leaf (order c r))) ⊎ (get_or (set c.used r (moved_first leaf (order c r))) s [] ≡ get_or c.used s []) → (has_place c s q ≡ true) ⊎ ((s ≡ r) × (q ≡ leaf))
    go (inl set) = on (leaf_is q leaf) refl set.0 (ap (list_any (leaf_is q)) (sym set.1) ∙ is)
    go (inr same) = inl (ap (list_any (leaf_is q)) (sym same) ∙ is)

pub placed_given_up : (c : CacheMap) (r : ℕ) (leaf : Leaf) (s : ℕ) (q : Leaf) → has_place (given_up c r leaf) s q ≡ true → has_place c s q ≡ true
placed_given_up c r leaf s q is = go (set_either c.used r s (less leaf (order c r)))
  where
    go : ((s ≡ r) × (get_or (set c.used r (less leaf (order c r))) s [] ≡ less leaf (order c r))) ⊎ (get_or (set c.used r (less leaf (order c r))) s [] ≡ get_or c.used s []) → has_place c s q ≡ true
    go (inl set) = ap (λ (k : ℕ). has_place c k q) set.0 ∙ less_among q leaf (order c r) (ap (list_any (leaf_is q)) (sym set.1) ∙ is)
    go (inr same) = ap (list_any (leaf_is q)) (sym same) ∙ is

pub placed_roomy : (c mid : CacheMap) (r : ℕ) (stay : Option Leaf) (s : ℕ) (q : Leaf) → roomy c r stay ≡ Some mid → has_place mid s q ≡ true → has_place c s q ≡ true
placed_roomy c mid r stay s q made = by_room c mid r stay made (λ (k : CacheMap). has_place k s q ≡ true → has_place c s q ≡ true) (λ is. is) (λ v passes is. placed_given_up c r v s q is)

-- a leaf is among others as before where another one leaves them
pub any_less : (q leaf : Leaf) (xs : List Leaf) → leaf_is q leaf ≡ false → list_any (leaf_is q) (less leaf xs) ≡ list_any (leaf_is q) xs
any_less q leaf [] apart = refl
any_less q leaf (x ∷ xs) apart = go (leaf_is leaf x) refl (any_less q leaf xs apart)
  where
    go : (b : Bool) → leaf_is leaf x ≡ b → list_any (leaf_is q) (less leaf xs) ≡ list_any (leaf_is q) xs → list_any (leaf_is q) (cond b xs (x ∷ less leaf xs)) ≡ (leaf_is q x || list_any (leaf_is q) xs)
    go true same rest = ap (λ (b : Bool). b || list_any (leaf_is q) xs) (sym (ap (leaf_is q) (sym (one_leaf leaf x same)) ∙ apart))
    go false other rest = ap (λ (b : Bool). leaf_is q x || b) rest

-- one that leaves them isn't among them
none_left : (leaf : Leaf) (xs : List Leaf) → IsDistinct leaf_is xs → list_any (leaf_is leaf) (less leaf xs) ≡ false
none_left leaf [] distinct = refl
none_left leaf (x ∷ xs) distinct = go (leaf_is leaf x) refl (none_left leaf xs (IsDistinct-tail leaf_is x xs distinct))
  where
    others : (ys : List Leaf) → AllByRecursion (λ (y : Leaf). leaf_is x y ≡ false) ys → leaf_is leaf x ≡ true → list_any (leaf_is leaf) ys ≡ false
    others [] apart same = refl
    others (y ∷ ys) apart same = ap (λ (b : Bool). b || list_any (leaf_is leaf) ys) (ap (λ (l : Leaf). leaf_is l y) (one_leaf leaf x same) ∙ apart.0) ∙ others ys apart.1 same

    go : (b : Bool) → leaf_is leaf x ≡ b → list_any (leaf_is leaf) (less leaf xs) ≡ false → list_any (leaf_is leaf) (cond b xs (x ∷ less leaf xs)) ≡ false
    go true same rest = others xs (IsDistinct-head leaf_is x xs distinct) same
    go false apart rest = ap (λ (b : Bool). b || list_any (leaf_is leaf) (less leaf xs)) apart ∙ rest

-- the same exactly
pub has_used : (c : CacheMap) (r : ℕ) (leaf : Leaf) (s : ℕ) (q : Leaf) → r < length c.used → has_place (used_at c r leaf) s q ≡ cond ((r == s) && leaf_is q leaf) true (has_place c s q)
has_used c r leaf s q there = go (same_or_apart r s)
  where
    on : (b : Bool) → leaf_is q leaf ≡ b → (b || list_any (leaf_is q) (less leaf (order c r))) ≡ cond b true (has_place c r q)
    on true one = refl
    on false one = any_less q leaf (order c r) one

    go : (r ≡ s) ⊎ (r ≡ s → ⊥) → has_place (used_at c r leaf) s q ≡ cond ((r == s) && leaf_is q leaf) true (has_place c s q)
    go (inl same) =
        ap (λ (k : ℕ). has_place (used_at c r leaf) k q) (sym same) ∙ ap (list_any (leaf_is q)) (get_or-set_same c.used r (moved_first leaf (order c r)) [] there) ∙ on (leaf_is q leaf) refl
        ∙ ap (λ (k : ℕ). cond (leaf_is q leaf) true (has_place c k q)) same ∙ ap (λ (b : Bool). cond (b && leaf_is q leaf) true (has_place c s q)) (sym (is_same r s same))
    go (inr apart) =
        ap (list_any (leaf_is q)) (get_or-set_other c.used r s (moved_first leaf (order c r)) [] (λ (e : s ≡ r). apart (sym e)))
        ∙ ap (λ (b : Bool). cond (b && leaf_is q leaf) true (has_place c s q)) (sym (is_apart r s apart))

pub has_with_frag : (c : CacheMap) (r : ℕ) (leaf : Leaf) (f : Cached) (s : ℕ) (q : Leaf) → r < length c.used → has_place (with_frag c r leaf f) s q ≡ cond ((r == s) && leaf_is q leaf) true (has_place c s q)
has_with_frag c r leaf f s q there = has_used c r leaf s q there

pub has_given_up : (c : CacheMap) (r : ℕ) (leaf : Leaf) (s : ℕ) (q : Leaf) → r < length c.used → IsDistinct leaf_is (order c r) → has_place (given_up c r leaf) s q ≡ cond ((r == s) && leaf_is q leaf) false (has_place c s q)
has_given_up c r leaf s q there distinct = go (same_or_apart r s)
  where
    on : (b : Bool) → leaf_is q leaf ≡ b → list_any (leaf_is q) (less leaf (order c r)) ≡ cond b false (has_place c r q)
    on true one = ap (λ (l : Leaf). list_any (leaf_is l) (less leaf (order c r))) (one_leaf q leaf one) ∙ none_left leaf (order c r) distinct
    on false one = any_less q leaf (order c r) one

    go : (r ≡ s) ⊎ (r ≡ s → ⊥) → has_place (given_up c r leaf) s q ≡ cond ((r == s) && leaf_is q leaf) false (has_place c s q)
    go (inl same) =
        ap (λ (k : ℕ). has_place (given_up c r leaf) k q) (sym same) ∙ ap (list_any (leaf_is q)) (get_or-set_same c.used r (less leaf (order c r)) [] there) ∙ on (leaf_is q leaf) refl
        ∙ ap (λ (k : ℕ). cond (leaf_is q leaf) false (has_place c k q)) same ∙ ap (λ (b : Bool). cond (b && leaf_is q leaf) false (has_place c s q)) (sym (is_same r s same))
    go (inr apart) =
        ap (list_any (leaf_is q)) (get_or-set_other c.used r s (less leaf (order c r)) [] (λ (e : s ≡ r). apart (sym e)))
        ∙ ap (λ (b : Bool). cond (b && leaf_is q leaf) false (has_place c s q)) (sym (is_apart r s apart))

-- ---- a fragment that was changed in some way

-- how a statement of the caches before and after is proved
pub by_edits : (r : ℕ) (leaf : Leaf) (Change : Cached → Cached → Type 0) (old new : CacheMap) → Edits Change r leaf old new → (P : CacheMap → Type 0)
    → ((f now : Cached) → here old r leaf ≡ Some f → Change f now → P (with_frag old r leaf now)) → P new
by_edits r leaf Change old new e P so = go (here old r leaf) refl e
  where
    go : (o : Option Cached) → here old r leaf ≡ o → IsEdited Change r leaf o old new → P new
    go None seen e = absurd e
    go (Some f) seen e = subst P (sym e.2) (so f e.0 seen e.1)

-- and where it stands
pub by_rewrites : (r : ℕ) (leaf : Leaf) (Change : Cached → Cached → Type 0) (old new : CacheMap) → Rewrites Change r leaf old new → (P : CacheMap → Type 0)
    → ((f now : Cached) → here old r leaf ≡ Some f → Change f now → P (rewritten old r leaf now)) → P new
by_rewrites r leaf Change old new e P so = go (here old r leaf) refl e
  where
    go : (o : Option Cached) → here old r leaf ≡ o → IsRewritten Change r leaf o old new → P new
    go None seen e = absurd e
    go (Some f) seen e = subst P (sym e.2) (so f e.0 seen e.1)
