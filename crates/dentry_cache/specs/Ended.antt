-- What an end of leaves makes of the caches of all ranks.
use Rattle.std.specs.Prelude.{List, [], ◌∷◌, Option, Some, None}
use Rattle.std.specs.FinMap as finmap
use Rattle.dentry_cache.specs.CacheMap.{At, CacheMap, given_up}
use Rattle.dentry_cache.specs.Cache.{Leaf}

abbrev pub ended_at : CacheMap → Leaf → Option At → CacheMap
ended_at c leaf None = c
ended_at c leaf (Some a) = given_up c a.rank leaf

-- a leaf ended: the rank that has its fragment gives up its place
abbrev pub ended : CacheMap → Leaf → CacheMap
ended c leaf = ended_at c leaf (finmap.get c.held leaf)

abbrev pub ended_all : CacheMap → List Leaf → CacheMap
ended_all c [] = c
ended_all c (leaf ∷ leaves) = ended_all (ended c leaf) leaves
