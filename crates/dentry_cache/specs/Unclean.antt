-- Which fragments aren't clean, rank by rank in the order of their use.
use Rattle.std.specs.Prelude.{ℕ, ◌+◌, Bool, cond, not, ◌&&◌, is_some, List, [], ◌∷◌, ◌++◌}
use Rattle.mds_types.specs.declared.dirfrags.Dirfrag.{Dirfrag}
use Rattle.mds_types.specs.declared.ids.Rank.{Rank}
use Rattle.cached_frag.specs.Cached.{is_clean}
use Rattle.dentry_cache.specs.Cache.{Leaf, Places, unsaved_in}
use Rattle.dentry_cache.specs.CacheMap.{CacheMap, here}
use Rattle.dentry_cache.specs.declared.cache.Place.{Place}

-- whether a place has a fragment that isn't clean
abbrev pub is_unclean : Place → Bool
is_unclean place = not place.kept && not (is_clean place.frag)

-- the leaves of those fragments, each at this rank
abbrev pub unclean_leaves_in : Rank → Places → List Dirfrag
unclean_leaves_in rank [] = []
unclean_leaves_in rank (e ∷ places) = cond (is_unclean e.1) (record {
  dir = e.0.0;
  frag = e.0.1;
  rank =
      rank;
} ∷ unclean_leaves_in rank places) (unclean_leaves_in rank places)

-- the same of leaves in some order, as it is seen in the caches of all ranks
abbrev pub unclean_among : CacheMap → ℕ → List Leaf → List Dirfrag
unclean_among c r [] = []
unclean_among c r (q ∷ leaves) = cond (is_some (unsaved_in (here c r q))) (record {
  dir = q.0;
  frag = q.1;
  rank =
      record { 0 = r };
} ∷ unclean_among c r leaves) (unclean_among c r leaves)

-- those of the ranks from one on, whose orders these are
abbrev pub unclean_from : CacheMap → ℕ → List (List Leaf) → List Dirfrag
unclean_from c r [] = []
unclean_from c r (leaves ∷ used) = unclean_among c r leaves ++ unclean_from c (r + 1) used

-- those of all ranks
abbrev pub unclean_places : CacheMap → List Dirfrag
unclean_places c = unclean_from c 0 c.used
