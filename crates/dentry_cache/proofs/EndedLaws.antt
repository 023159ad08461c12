-- Where a leaf's fragment is, among the ranks.
use Rattle.std.proofs.Common.{◌||◌, set, subst, ◌≡◌, ◌⊎◌, inl, inr, ℕ, zero, suc, ◌+◌, ◌<◌, Bool, true, false, cond, is_some, length, List, [], ◌∷◌, Option, Some, None, refl, sym, ap, ◌∙◌, arith}
use Rattle.std.specs.Prelude.{get_or}
use Rattle.std.specs.FinMap as finmap
use Rattle.std.specs.List.{list_any}
use Rattle.std.proofs.lemmas.List.{set-get_or}
use Rattle.sorted_map.proofs.NatKeys.{is_same}
use Rattle.cached_frag.specs.Cached.{Cached}
use Rattle.dentry_cache.specs.CacheCalls.{HasNoKeptPlace}
use Rattle.dentry_cache.specs.CacheMap.{AreCaches, At, CacheMap, at_rank, given_up, has_place, here, less, order, removed}
use Rattle.dentry_cache.specs.Ended.{ended, ended_at}
use Rattle.dentry_cache.proofs.SplitShows.{below_or_it}
use Rattle.dentry_cache.specs.Cache.{IsThere, Leaf, leaf_is}

-- a rank at which a leaf has a place is there
pub rank_there : (used : List (List Leaf)) (r : ℕ) (leaf : Leaf) → list_any (leaf_is leaf) (get_or used r []) ≡ true → r < length used
rank_there [] r leaf placed = let clash : false ≡ true = placed in absurd cc
rank_there (xs ∷ rest) zero leaf placed = omega arith
rank_there (xs ∷ rest) (suc r) leaf placed = let later = rank_there rest r leaf placed in omega (arith, later)

-- so is one that has its fragment
pub holder_there : (c : CacheMap) (leaf : Leaf) (a : At) → AreCaches c → finmap.get c.held leaf ≡ Some a → a.rank < length c.used
holder_there c leaf a valid is =
    rank_there c.used a.rank leaf (valid.placed a.rank leaf (ap (λ (o : Option At). is_some (at_rank a.rank o)) is ∙ ap (λ (b : Bool). is_some (cond b (Some a.frag) None)) (is_same a.rank a.rank refl)))

-- where no rank has it, it isn't there
pub none_has : (c : CacheMap) (leaf : Leaf) → AreCaches c → ((r : ℕ) → r < length c.used → is_some (here c r leaf) ≡ false) → finmap.get c.held leaf ≡ None
none_has c leaf valid none = go (finmap.get c.held leaf) refl
  where
    go : (o : Option At) → finmap.get c.held leaf ≡ o → o ≡ None
    go None is = refl
    go (Some a) is =
        let clash : true ≡ false = sym (ap (λ (o : Option At). is_some (at_rank a.rank o)) is ∙ ap (λ (b : Bool). is_some (cond b (Some a.frag) None)) (is_same a.rank a.rank refl)) ∙ none a.rank (holder_there c leaf a valid is) in
        absurd cc

-- the ranks that were looked at, with one more
pub looked_on : (c : CacheMap) (leaf : Leaf) (n : ℕ) → ((r : ℕ) → r < n → is_some (here c r leaf) ≡ false) → is_some (here c n leaf) ≡ false → (r : ℕ) → r < n + 1 → is_some (here c r leaf) ≡ false
looked_on c leaf n before none r below = go (below_or_it r n below)
  where
    go : (r < n) ⊎ (r ≡ n) → is_some (here c r leaf) ≡ false
    go (inl less) = before r less
    go (inr same) = ap (λ (k : ℕ). is_some (here c k leaf)) same ∙ none

-- where none has it, all stays
pub none_ends : (c : CacheMap) (leaf : Leaf) → AreCaches c → ((r : ℕ) → r < length c.used → is_some (here c r leaf) ≡ false) → c ≡ ended c leaf
none_ends c leaf valid none = sym (ap (ended_at c leaf) (none_has c leaf valid none))

-- a leaf that isn't among them is in none's way
pub less_absent : (leaf : Leaf) (xs : List Leaf) → list_any (leaf_is leaf) xs ≡ false → less leaf xs ≡ xs
less_absent leaf [] none = refl
less_absent leaf (x ∷ xs) none = go (less_absent leaf xs) (leaf_is leaf x) none
  where
    go : (list_any (leaf_is leaf) xs ≡ false → less leaf xs ≡ xs) → (b : Bool) → (b || list_any (leaf_is leaf) xs) ≡ false → cond b xs (x ∷ less leaf xs) ≡ x ∷ xs
    go rest true clash = absurd cc
    go rest false later = ap (λ (ys : List Leaf). x ∷ ys) (rest later)

-- a rank that has nothing of it gives nothing up
pub given_up_none : (c : CacheMap) (leaf : Leaf) (r : ℕ) → HasNoKeptPlace c r leaf → is_some (here c r leaf) ≡ false → given_up c r leaf ≡ c
given_up_none c leaf r whole none =
    let empty = gone (here c r leaf) none in
    ap (λ (o : Option Cached). record { held = removed c.held leaf o; used = set c.used r (less leaf (order c r)); cap = c.cap }) empty
    ∙ ap (λ (xs : List Leaf). record { held = c.held; used = set c.used r xs; cap = c.cap }) (less_absent leaf (order c r) (unplaced (has_place c r leaf) (λ placed. subst IsThere empty (whole placed))))
    ∙ ap (λ (us : List (List Leaf)). record { held = c.held; used = us; cap = c.cap }) (set-get_or c.used r [])
  where
    gone : (o : Option Cached) → is_some o ≡ false → o ≡ None
    gone None is = refl
    gone (Some f) is = absurd cc

    unplaced : (b : Bool) → (b ≡ true → ⊥) → b ≡ false
    unplaced true clash = absurd (clash refl)
    unplaced false clash = refl
