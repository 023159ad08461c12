-- A split of a cached fragment: places kept for its children, given up, and filled.
use Rattle.std.proofs.Common.{◌≡◌, ℕ, suc, ◌+◌, ◌<◌, ◌≤◌, false, ◌⊎◌, inl, inr, List, [], ◌∷◌, length, Option, Some, None, sym, ap, subst, ◌∙◌, arith}
use Rattle.std.proofs.lemmas.Bool.{cases_lt}
use Rattle.std.specs.List.{slice_index_or}
use Rattle.std.specs.FinMap as map
use Rattle.mds_types.specs.Frag.{Fragment, child_of}
use Rattle.mds_types.specs.declared.ids.Ino.{Ino}
use Rattle.objstore.specs.Omap.{Omap}
use Rattle.cached_frag.specs.declared.bases.Base.{Base}
use Rattle.cached_frag.specs.declared.bases.Base.TheVariants.{Fresh}
use Rattle.dirfrag_codec.specs.FragmentObject.{Names}
use Rattle.cached_frag.specs.Cached.{Cached, shown_names}
use Rattle.dentry_cache.specs.declared.parts.Part.{Part}
use Rattle.dentry_cache.specs.Cache.{HasCached, Leaf, leaf_is}
use Rattle.dentry_cache.specs.Ties.{IsTied, IsTiedAt}
use Rattle.dentry_cache.specs.Divided.{AreReady}
use Rattle.dentry_cache.specs.Parting.{AreKeptApart}

-- one of the numbers below is this one, or below it
pub below_or_it : (i n : ℕ) → i < n + 1 → (i < n) ⊎ (i ≡ n)
below_or_it i n less = elim (cases_lt i n) [ inl below ↦ inl below | inr over ↦ inr (omega arith) ]

pub fresh_tied : (f : Cached) (object : Option Omap) → f.base ≡ Fresh → IsTied f object
fresh_tied f object fresh = subst (λ (b : Base). IsTiedAt b f object) (sym fresh) tt

pub apart_from : (leaf : Leaf) (dir : Ino) (frag : Fragment) (nb n : ℕ) (parts : List Part) → ((i : ℕ) (d : Part) → i < length parts → (slice_index_or parts i d).frag ≡ child_of frag (n + i) nb) → ((i : ℕ) → i < length parts → leaf_is leaf (dir, child_of frag (n + i) nb) ≡ false) → AreKeptApart leaf dir parts
apart_from leaf dir frag nb n [] are apart = tt
apart_from leaf dir frag nb n (part ∷ parts) are apart =
    let first : part.frag ≡ child_of frag (n + 0) nb = are 0 part (omega arith) in (
      ap (λ (f : Fragment). leaf_is leaf (dir, f)) first ∙ apart 0 (omega arith),
      apart_from leaf dir frag nb (n + 1) parts (λ i d within. are (suc i) d (omega (arith, within)) ∙ next i) (λ i within. ap (λ (f : Fragment). leaf_is leaf (dir, f)) (sym (next i)) ∙ apart (suc i) (omega (arith, within))),
    )
  where
    next : (i : ℕ) → child_of frag (n + suc i) nb ≡ child_of frag (n + 1 + i) nb
    next i = let same : n + suc i ≡ n + 1 + i = omega arith in ap (λ (m : ℕ). child_of frag m nb) same

pub ready_of : (frag : Fragment) (nb : ℕ) (names : Names) (parts : List Part) (o : Option Cached) → HasCached o (λ (f : Cached). (map.len f.dirty ≤ f.places) × AreReady frag nb (shown_names f) parts) → HasCached o (λ (f : Cached). names ≡ shown_names f) → AreReady frag nb names parts
ready_of frag nb names parts (Some f) ready is = subst (λ (n : Names). AreReady frag nb n parts) (sym is) ready.1
ready_of frag nb names parts None ready is = absurd ready
