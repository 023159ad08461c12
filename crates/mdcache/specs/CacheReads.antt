-- Where places lack, and which leaf was used last.
use Rattle.std.specs.Prelude.{◌≡◌, ℕ, ◌+◌, ◌<◌, slice_get, Some}
use Rattle.std.specs.FinMap as finmap
use Rattle.dentry_cache.specs.CacheMap.{CacheMap, order, unclean_of}
use Rattle.dentry_cache.specs.Cache.{Leaf}

-- fewer than so many places of a rank are free or can become so: each other one is that of a fragment that isn't clean
abbrev pub LacksPlacesIn : ℕ → CacheMap → ℕ → Type 0
LacksPlacesIn count c r = c.cap < finmap.len (unclean_of c r) + count

-- a leaf is the most recently used of a rank
abbrev pub IsNewestOf : CacheMap → ℕ → Leaf → Type 0
IsNewestOf c r leaf = slice_get (order c r) 0 ≡ Some leaf
