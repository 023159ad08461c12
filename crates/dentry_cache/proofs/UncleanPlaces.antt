-- The fragments that aren't clean, of one cache and of all.
use Rattle.std.proofs.Common.{◌≡◌, ℕ, ◌+◌, ◌<◌, append_assoc, length, Bool, true, false, cond, not, ◌&&◌, List, [], ◌∷◌, ◌++◌, drop, Option, Some, None, refl, sym, ap, ◌∙◌}
use Rattle.std.specs.Prelude.{is_some}
use Rattle.std.specs.List.{AllByRecursion, IsDistinct}
use Rattle.std.specs.Map.{keys_of, lookup}
use Rattle.std.proofs.lemmas.List.{drop_more}
use Rattle.mds_types.specs.declared.ids.Rank.{Rank}
use Rattle.mds_types.specs.declared.dirfrags.Dirfrag.{Dirfrag}
use Rattle.cached_frag.specs.Cached.{is_clean}
use Rattle.dentry_cache.specs.Cache.{Leaf, Places, Unsaved, cached, fragment_in, leaf_is, unsaved_in}
use Rattle.dentry_cache.specs.CacheMap.{CacheMap, here, order}
use Rattle.dentry_cache.specs.Unclean.{is_unclean, unclean_among, unclean_from, unclean_leaves_in}
use Rattle.dentry_cache.specs.declared.cache.Place.{Place}
use Rattle.dentry_cache.proofs.LeafLaws.{flips, leaf_itself}

-- a fragment has something unsaved where it isn't clean
unclean_is : (place : Place) → is_some (unsaved_in (fragment_in (Some place))) ≡ is_unclean place
unclean_is place = go place.kept (is_clean place.frag) refl refl
  where
    go : (k u : Bool) → place.kept ≡ k → is_clean place.frag ≡ u → is_some (unsaved_in (fragment_in (Some place))) ≡ is_unclean place
    go true u kept clean = ap (λ b. is_some (unsaved_in (cond b None (Some place.frag)))) kept ∙ ap (λ b. not b && not (is_clean place.frag)) (sym kept)
    go false true kept clean = ap (λ b. is_some (unsaved_in (cond b None (Some place.frag)))) kept ∙ ap (λ b. is_some (cond {A = Option Unsaved} b None (Some (record { base = place.frag.base; generation = place.frag.generation; dirty = place.frag.dirty })))) clean
        ∙ sym (ap (λ b. not b && not (is_clean place.frag)) kept ∙ ap not clean)
    go false false kept clean = ap (λ b. is_some (unsaved_in (cond b None (Some place.frag)))) kept ∙ ap (λ b. is_some (cond {A = Option Unsaved} b None (Some (record { base = place.frag.base; generation = place.frag.generation; dirty = place.frag.dirty })))) clean
        ∙ sym (ap (λ b. not b && not (is_clean place.frag)) kept ∙ ap not clean)

-- where no leaf has two places each is found
apart_from : (e : Leaf × Place) (es all : Places) → AllByRecursion (λ q. leaf_is e.0 q ≡ false) (keys_of es) → AllByRecursion (λ (d : Leaf × Place). lookup (leaf_is d.0) all ≡ Some d.1) es → AllByRecursion (λ (d : Leaf × Place). lookup (leaf_is d.0) (e ∷ all) ≡ Some d.1) es
apart_from e [] all others found = tt
apart_from e (d ∷ es) all (other, others) (one, found) = (ap (λ b. cond b (Some e.1) (lookup (leaf_is d.0) all)) (flips d.0 e.0 ∙ other) ∙ one, apart_from e es all others found)

pub each_found : (es : Places) → IsDistinct leaf_is (keys_of es) → AllByRecursion (λ (d : Leaf × Place). lookup (leaf_is d.0) es ≡ Some d.1) es
unfolding IsDistinct
each_found [] distinct = tt
each_found (e ∷ es) (others, distinct) = (ap (λ b. cond b (Some e.1) (lookup (leaf_is e.0) es)) (leaf_itself e.0), apart_from e es es others (each_found es distinct))

module _ (c : CacheMap) (r : ℕ) (all : Places) (seen : (q : Leaf) → cached all q ≡ here c r q) where
  among_so : (es : Places) → AllByRecursion (λ (d : Leaf × Place). lookup (leaf_is d.0) all ≡ Some d.1) es → unclean_leaves_in (record { 0 = r }) es ≡ unclean_among c r (keys_of es)
  among_so [] found = refl
  among_so (e ∷ es) (one, found) =
      let told : is_unclean e.1 ≡ is_some (unsaved_in (here c r e.0)) = sym (unclean_is e.1) ∙ ap (λ o. is_some (unsaved_in (fragment_in o))) (sym one) ∙ ap (λ o. is_some (unsaved_in o)) (seen e.0) in
      λ i. cond (told i) (record { dir = e.0.0; frag = e.0.1; rank = record { 0 = r } } ∷ among_so es found i) (among_so es found i)

  pub among_is : IsDistinct leaf_is (keys_of all) → unclean_leaves_in (record { 0 = r }) all ≡ unclean_among c r (keys_of all)
  among_is distinct = among_so all (each_found all distinct)

-- a rank more
module _ (c : CacheMap) (i : ℕ) (leaves new all : List Dirfrag) (es : Places) where
  pub rank_more : (rank : Rank) → rank.0 ≡ i → i < length c.used → ((q : Leaf) → cached es q ≡ here c i q) → IsDistinct leaf_is (keys_of es) → order c i ≡ keys_of es → new ≡ leaves ++ unclean_leaves_in rank es
      → leaves ++ unclean_from c i (drop i c.used) ≡ all → new ++ unclean_from c (i + 1) (drop (i + 1) c.used) ≡ all
  rank_more rank at within seen distinct keys is so_far =
      ap (λ l. l ++ rest) is
      ∙ append_assoc leaves (unclean_leaves_in rank es) rest
      ∙ ap (λ l. leaves ++ (l ++ rest)) (ap (λ n. unclean_leaves_in (record { 0 = n }) es) at ∙ among_is c i es seen distinct ∙ ap (unclean_among c i) (sym keys))
      ∙ ap (λ us. leaves ++ unclean_from c i us) (sym (drop_more c.used i [] within))
      ∙ so_far
    where
      rest : List Dirfrag
      rest = unclean_from c (i + 1) (drop (i + 1) c.used)
