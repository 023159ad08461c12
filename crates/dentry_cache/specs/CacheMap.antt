-- What a contract sees of the caches of all ranks: one finite map of the fragments that are there, each with its rank,
-- and each rank's leaves by use (a cache for each metadata server: Weil et al., OSDI 2006).
use Rattle.std.specs.Prelude.{◌≡◌, ℕ, suc, ◌<◌, ◌≤◌, ◌==◌, Bool, true, false, cond, not, ◌&&◌, List, [], ◌∷◌, ◌++◌, map, set, get_or, replicate, length, nat_lt, Option, Some, None, is_some}
use Rattle.std.specs.Option.{option_map}
use Rattle.std.specs.List.{IsDistinct, list_any}
use Rattle.std.specs.Map.{keys_of}
use Rattle.std.specs.FinMap as finmap
use Rattle.mds_types.specs.Leaf.{leaf_of}
use Rattle.lru.specs.LruCache.{lru_cache}
use Rattle.cached_frag.specs.declared.marks.Mark.{Mark}
use Rattle.cached_frag.specs.Cached.{Cached, is_clean, marked}
use Rattle.mds_types.specs.declared.dirfrags.Dirfrag.{Dirfrag}
use Rattle.dentry_cache.specs.Places.{IsCache}
use Rattle.dentry_cache.specs.Cache.{Held, Leaf, Unsaved, cached, leaf_cmp, leaf_is, is_to_stay, unsaved_in}

-- a fragment, and the rank that has it
pub record At : Type 0 where
  pub rank : ℕ
  pub frag : Cached

abbrev pub lies_by : ℕ → Cached → At
lies_by r f = record { rank = r; frag = f }

-- the cached fragment of each leaf with its rank, each rank's leaves, the most recently used first, and how many places
-- each rank has. A place that is kept for a fragment which will be made stands in the order of its rank alone
pub record CacheMap : Type 0 where
  pub held : finmap.FinMap leaf_cmp At
  pub used : List (List Leaf)
  pub cap : ℕ

-- a leaf's fragment, if this rank has it
abbrev pub at_rank : ℕ → Option At → Option Cached
at_rank r None = None
at_rank r (Some a) = cond (a.rank == r) (Some a.frag) None

abbrev pub here : CacheMap → ℕ → Leaf → Option Cached
here c r leaf = at_rank r (finmap.get c.held leaf)

-- the fragment that lies somewhere
abbrev pub cached_at : CacheMap → Dirfrag → Option Cached
cached_at c lies_by = here c lies_by.rank.0 (leaf_of lies_by)

-- no other rank has it
abbrev pub IsFree : ℕ → Option At → Type 0
IsFree r None = Unit {0}
IsFree r (Some a) = a.rank ≡ r

abbrev pub IsFreeFor : CacheMap → ℕ → Leaf → Type 0
IsFreeFor c r leaf = IsFree r (finmap.get c.held leaf)

-- the leaves that have places at a rank
abbrev pub order : CacheMap → ℕ → List Leaf
order c r = get_or c.used r []

abbrev pub has_place : CacheMap → ℕ → Leaf → Bool
has_place c r leaf = list_any (leaf_is leaf) (order c r)

-- leaves without one of them, and with it in front
abbrev pub less : Leaf → List Leaf → List Leaf
less leaf [] = []
less leaf (x ∷ xs) = cond (leaf_is leaf x) xs (x ∷ less leaf xs)

abbrev pub moved_first : Leaf → List Leaf → List Leaf
moved_first leaf xs = leaf ∷ less leaf xs

-- ---- the four steps

-- a leaf's place at a rank is the most recently used
abbrev pub used_at : CacheMap → ℕ → Leaf → CacheMap
used_at c r leaf = record c { used = set c.used r (moved_first leaf (order c r)) }

-- a rank has this fragment, as the most recently used
abbrev pub with_frag : CacheMap → ℕ → Leaf → Cached → CacheMap
with_frag c r leaf f =
    record { held = finmap.insert c.held leaf (lies_by r f); used = set c.used r (moved_first leaf (order c r)); cap = c.cap }

-- a rank's fragment of a leaf is this one now; the order of use stays
abbrev pub rewritten : CacheMap → ℕ → Leaf → Cached → CacheMap
rewritten c r leaf f = record c { held = finmap.insert c.held leaf (lies_by r f) }

abbrev pub removed : finmap.FinMap leaf_cmp At → Leaf → Option Cached → finmap.FinMap leaf_cmp At
removed m leaf (Some f) = finmap.remove m leaf
removed m leaf None = m

-- a leaf's place at a rank is given up, with the fragment that is in it
abbrev pub given_up : CacheMap → ℕ → Leaf → CacheMap
given_up c r leaf =
    record { held = removed c.held leaf (here c r leaf); used = set c.used r (less leaf (order c r)); cap = c.cap }

-- ---- what calls make of them

-- the fragment of a leaf at a rank was changed so
abbrev pub edited_as : CacheMap → ℕ → Leaf → (Cached → Cached) → Option Cached → CacheMap
edited_as c r leaf g (Some f) = rewritten c r leaf (g f)
edited_as c r leaf g None = c

abbrev pub edited : CacheMap → ℕ → Leaf → (Cached → Cached) → CacheMap
edited c r leaf g = edited_as c r leaf g (here c r leaf)

-- a name of it is dirty now
abbrev pub with_mark : CacheMap → ℕ → Leaf → List ℕ → Mark → CacheMap
with_mark c r leaf name mark = edited c r leaf (λ (f : Cached). marked f name mark)

abbrev pub clean_in : Option Cached → Bool
clean_in (Some f) = is_clean f
clean_in None = false

abbrev pub goes : CacheMap → ℕ → Option Leaf → Leaf → Bool
goes c r stay leaf = clean_in (here c r leaf) && not (is_to_stay stay leaf)

-- the last that passes a test
abbrev pub or_this : {A : Type 0} → Option A → Option A → Option A
or_this (Some x) o = Some x
or_this None o = o

abbrev pub last_by : {A : Type 0} → (A → Bool) → List A → Option A
last_by test [] = None
last_by test (x ∷ xs) = or_this (last_by test xs) (cond (test x) (Some x) None)

-- the least recently used of a rank's clean fragments, but for the one that stays
abbrev pub victim : CacheMap → ℕ → Option Leaf → Option Leaf
victim c r stay = last_by (goes c r stay) (order c r)

-- it is gone
abbrev pub evicted : CacheMap → ℕ → Option Leaf → Option CacheMap
evicted c r stay = option_map (given_up c r) (victim c r stay)

-- a place of a rank is free, or becomes so
abbrev pub roomy : CacheMap → ℕ → Option Leaf → Option CacheMap
roomy c r stay = cond (nat_lt (length (order c r)) c.cap) (Some c) (evicted c r stay)

-- none of the places is taken
abbrev pub no_caches : ℕ → ℕ → CacheMap
no_caches ranks places = record { held = finmap.empty; used = replicate ranks []; cap = places }

-- ---- what isn't clean

abbrev pub unsaved_at : Option At → Option Unsaved
unsaved_at (Some a) = unsaved_in (Some a.frag)
unsaved_at None = None

abbrev pub with_some : {X : Type 0} → finmap.FinMap leaf_cmp X → Leaf → Option X → finmap.FinMap leaf_cmp X
with_some m k (Some x) = finmap.insert m k x
with_some m k None = m

-- the map of a function on these leaves
abbrev pub tabulate : {X : Type 0} → (Leaf → Option X) → List Leaf → finmap.FinMap leaf_cmp X
tabulate f [] = finmap.empty
tabulate f (k ∷ ks) = with_some (tabulate f ks) k (f k)

-- what each fragment that isn't clean has beyond its object, whose ever it is
unfoldable pub unclean : CacheMap → finmap.FinMap leaf_cmp Unsaved
unclean c = tabulate (λ (q : Leaf). unsaved_at (finmap.get c.held q)) (finmap.keys c.held)

-- what a rank's fragments that aren't clean have beyond their objects
unfoldable pub unclean_of : CacheMap → ℕ → finmap.FinMap leaf_cmp Unsaved
unclean_of c r = tabulate (λ (q : Leaf). unsaved_in (here c r q)) (finmap.keys c.held)

-- ---- the caches of the code, and what is seen of them

-- a cache without places
abbrev pub no_cache : Held
no_cache = lru_cache [] 0

abbrev pub frag_at : List Held → ℕ → Leaf → Option Cached
frag_at cs r leaf = cached (get_or cs r no_cache).entries leaf

abbrev pub or_later : ℕ → Option Cached → Option At → Option At
or_later n (Some f) o = Some (lies_by n f)
or_later n None o = o

-- where a leaf's fragment is found, from this rank on
abbrev pub found : ℕ → List Held → Leaf → Option At
found n [] leaf = None
found n (c ∷ cs) leaf = or_later n (cached c.entries leaf) (found (suc n) cs leaf)

abbrev pub orders : List Held → List (List Leaf)
orders cs = map (λ (c : Held). keys_of c.entries) cs

abbrev pub flat : List (List Leaf) → List Leaf
flat [] = []
flat (xs ∷ rest) = xs ++ flat rest

unfoldable pub held_of : List Held → finmap.FinMap leaf_cmp At
held_of cs = tabulate (found 0 cs) (flat (orders cs))

abbrev pub cache_map : List Held → ℕ → CacheMap
cache_map cs cap = record { held = held_of cs; used = orders cs; cap = cap }

-- no leaf's fragment is at two ranks, each rank has as many places, 65,536 at most, and no leaf has two of them
pub record AreAtOneRank (cap : ℕ) (cs : List Held) : Type 0 where
  pub most : cap ≤ 65536
  pub one : (r : ℕ) (leaf : Leaf) → frag_at cs r leaf ≡ at_rank r (found 0 cs leaf)
  pub each : (r : ℕ) → r < length cs → (get_or cs r no_cache).cap ≡ cap
  pub valid : (r : ℕ) → r < length cs → IsCache (get_or cs r no_cache)

-- a fragment that a rank has stands in its order, where no leaf stands twice, and no more places are taken than there
-- are
pub record AreCaches (c : CacheMap) : Type 0 where
  pub placed : (r : ℕ) (leaf : Leaf) → is_some (here c r leaf) ≡ true → has_place c r leaf ≡ true
  pub distinct : (r : ℕ) → IsDistinct leaf_is (order c r)
  pub few : (r : ℕ) → length (order c r) ≤ c.cap
